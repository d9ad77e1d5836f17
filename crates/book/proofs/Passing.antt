-- A small logic of readers: what is read ends ahead of where it starts, within the bytes, passes no FUNC, and is as a predicate says.
-- The laws on every reader (Acceptance, Enough) are put together from these, one for each way in which a reader is made.
use Prim.Native.Nat.{ℕ, zero, suc, ◌+◌, ◌≤◌, ◌<◌}
use mathlib.Core.Path.{◌≡◌, refl, ap, sym, ◌∙◌, subst}
use mathlib.Core.Logic.{◌≢◌}
use mathlib.Core.Bool.{Bool, true, false}
use mathlib.Core.List.{List, [], ◌∷◌}
use mathlib.Core.Option.{Option, none, some}
use lib.ListN.{length, get_or}
use lib.Dec.{ltb, leb, eqb}
use native.Mathlib.Omega.{arith}
use borrow.Author.Tests.{ltb-false, leb-true, le-ltb, lt-ltb, eq-eqb, ne_eqb, eqb-true, eqb-false}
use Rattle.book.specs.declared.Sort.{Sort}
use Rattle.book.specs.declared.Sort.TheVariants.{Range, End}
use Rattle.std.specs.Prelude.{Result, Ok, Err}
use Rattle.book.specs.declared.Fault.{Fault}
use Rattle.book.specs.Record.{Rec, Got, got, fault, bad, body_of, rec_at, scan, funcs_from}
use Rattle.book.specs.Reading.{after, make, Case, pick}

-- where the bytes end there is no record
pub rec-ends : (s : List ℕ) (k : ℕ) → length s ≤ k → rec_at s k ≡ bad End k
unfolding rec_at
rec-ends s k h = rw (le-ltb k (length s) h, rec_at)

-- a record ends ahead, within the bytes
abbrev Forward : List ℕ → ℕ → Result Rec Fault → Type 0
Forward s k (Err w) = Unit
Forward s k (Ok r) = (k < r.end) × (r.end ≤ length s)

rec-body : (s : List ℕ) (k : ℕ) → ltb k (length s) ≡ true → (m : Option ℕ) → body_of (get_or s k 0) ≡ m → Forward s k (rec_at s k)
unfolding rec_at
rec-body s k t none q = rw (t, rec_at, q) tt
rec-body s k t (some m) q = go (leb (k + 1 + m) (length s)) refl
  where
    go : (b : Bool) → leb (k + 1 + m) (length s) ≡ b → Forward s k (rec_at s k)
    go true u = let h = leb-true (k + 1 + m) (length s) u in rw (t, rec_at, q, u) (omega arith, h)
    go false u = rw (t, rec_at, q, u) tt

rec-forward : (s : List ℕ) (k : ℕ) → Forward s k (rec_at s k)
rec-forward s k = go (ltb k (length s)) refl
  where
    go : (b : Bool) → ltb k (length s) ≡ b → Forward s k (rec_at s k)
    go true t = rec-body s k t (body_of (get_or s k 0)) refl
    go false t = rw (rec-ends s k (ltb-false k (length s) t)) tt

pub rec-goes : (s : List ℕ) (k : ℕ) {r : Rec} → rec_at s k ≡ Ok r → (k < r.end) × (r.end ≤ length s)
rec-goes s k q = subst (Forward s k) q (rec-forward s k)

-- the arities of the FUNCs, record by record
module _ (s : List ℕ) (n k : ℕ) where
  pub funcs-end : {w : Fault} → rec_at s k ≡ Err w → funcs_from s n k ≡ []
  unfolding funcs_from
  funcs-end q = elim n as (λ n. funcs_from s n k ≡ []) [ zero ↦ refl | suc n ↦ rw (q, funcs_from) ]

  pub funcs-take : {r : Rec} → rec_at s k ≡ Ok r → r.kind ≡ 3 → funcs_from s (suc n) k ≡ r.a ∷ funcs_from s n r.end
  unfolding funcs_from
  funcs-take {r} q u = rw (q, funcs_from, eq-eqb r.kind 3 u)

  pub funcs-pass : {r : Rec} → rec_at s k ≡ Ok r → r.kind ≢ 3 → funcs_from s (suc n) k ≡ funcs_from s n r.end
  unfolding funcs_from
  funcs-pass {r} q u = rw (q, funcs_from, ne_eqb r.kind 3 u)

-- The bound on the number of records never decides: as many as there are bytes left is enough.
pub funcs-enough : (s : List ℕ) (n m k : ℕ) → length s ≤ n + k → length s ≤ m + k → funcs_from s n k ≡ funcs_from s m k
funcs-enough s zero m k h l = let q = rec-ends s k (omega arith) in funcs-end s zero k q ∙ sym (funcs-end s m k q)
funcs-enough s (suc n) zero k h l = let q = rec-ends s k (omega arith) in funcs-end s (suc n) k q ∙ sym (funcs-end s zero k q)
funcs-enough s (suc n) (suc m) k h l = go (funcs-enough s n m) (rec_at s k) refl
  where
    kinds : ((k : ℕ) → length s ≤ n + k → length s ≤ m + k → funcs_from s n k ≡ funcs_from s m k) → {r : Rec} → rec_at s k ≡ Ok r → (t : Bool) → eqb r.kind 3 ≡ t → funcs_from s (suc n) k ≡ funcs_from s (suc m) k
    kinds ih {r} q true t =
        let p = rec-goes s k q in
        let u = eqb-true r.kind 3 t in
        funcs-take s n k q u ∙ ap (λ (l : List ℕ). r.a ∷ l) (ih r.end (omega arith) (omega arith)) ∙ sym (funcs-take s m k q u)
    kinds ih {r} q false t =
        let p = rec-goes s k q in
        let u = eqb-false r.kind 3 t in
        funcs-pass s n k q u ∙ ih r.end (omega arith) (omega arith) ∙ sym (funcs-pass s m k q u)

    go : ((k : ℕ) → length s ≤ n + k → length s ≤ m + k → funcs_from s n k ≡ funcs_from s m k) → (r : Result Rec Fault) → rec_at s k ≡ r → funcs_from s (suc n) k ≡ funcs_from s (suc m) k
    go ih (Err w) q = funcs-end s (suc n) k q ∙ sym (funcs-end s (suc m) k q)
    go ih (Ok r) q = kinds ih q (eqb r.kind 3) refl

-- the first pass, record by record
module _ (s : List ℕ) (fits : ℕ → ℕ → ℕ → Bool) (n f k : ℕ) where
  pub scan-ends : length s ≤ k → scan s fits n f k ≡ got tt k
  unfolding scan
  scan-ends h = elim n as (λ n. scan s fits n f k ≡ got tt k) [ zero ↦ refl | suc n ↦ rw (le-ltb k (length s) h, scan) ]

  module _ (h : k < length s) where
    pub scan-faults : {w : Fault} → rec_at s k ≡ Err w → scan s fits (suc n) f k ≡ fault w.sort w.at
    unfolding scan
    scan-faults q = rw (lt-ltb k (length s) h, scan, q)

    module _ {r : Rec} (q : rec_at s k ≡ Ok r) where
      pub scan-refuses : fits f r.kind r.a ≡ false → scan s fits (suc n) f k ≡ fault Range k
      unfolding scan
      scan-refuses t = rw (lt-ltb k (length s) h, scan, q, t)

      pub scan-takes : fits f r.kind r.a ≡ true → r.kind ≡ 3 → scan s fits (suc n) f k ≡ scan s fits n (suc f) r.end
      unfolding scan
      scan-takes t u = rw (lt-ltb k (length s) h, scan, q, t, eq-eqb r.kind 3 u)

      pub scan-passes : fits f r.kind r.a ≡ true → r.kind ≢ 3 → scan s fits (suc n) f k ≡ scan s fits n f r.end
      unfolding scan
      scan-passes t u = rw (lt-ltb k (length s) h, scan, q, t, ne_eqb r.kind 3 u)

-- the arities of the FUNCs from a place on
abbrev pub arities : List ℕ → ℕ → List ℕ
arities s k = funcs_from s (length s) k

pub arities-take : (s : List ℕ) (k : ℕ) {r : Rec} → rec_at s k ≡ Ok r → r.kind ≡ 3 → arities s k ≡ r.a ∷ arities s r.end
arities-take s k q u = funcs-enough s (length s) (suc (length s)) k (omega arith) (omega arith) ∙ funcs-take s (length s) k q u

-- from one place to another: ahead, within the bytes, past no FUNC
pub record Past (s : List ℕ) (k e : ℕ) : Type 0 where
  pub on : k ≤ e
  pub within : k ≤ length s → e ≤ length s
  pub quiet : arities s k ≡ arities s e

past-none : (s : List ℕ) (k : ℕ) → Past s k k
past-none s k = record { on = omega arith; within = λ h. h; quiet = refl }

past-both : {s : List ℕ} {k e f : ℕ} → Past s k e → Past s e f → Past s k f
past-both p q = record { on = omega arith; within = λ h. q.within (p.within h); quiet = p.quiet ∙ q.quiet }

past-record : (s : List ℕ) (k : ℕ) {r : Rec} → rec_at s k ≡ Ok r → r.kind ≢ 3 → Past s k r.end
past-record s k q u =
    let p = rec-goes s k q in
    record {
      on = omega arith;
      within = λ h. p.1;
      quiet = funcs-enough s (length s) (suc (length s)) k (omega arith) (omega arith) ∙ funcs-pass s (length s) k q u;
    }

-- what is read from k on, if anything, is as Q says, and no FUNC is passed
pub data Fair {A : Type 0} (s : List ℕ) (k : ℕ) (Q : A → Type 0) : Got A → Type 0 where
  fair : {a : A} {e : ℕ} → Past s k e → Q a → Fair s k Q (got a e)
  lost : {w : Sort} {p : ℕ} → Fair s k Q (fault w p)

module _ {A : Type 0} {s : List ℕ} {k : ℕ} {Q : A → Type 0} where
  pub fair-here : {a : A} → Q a → Fair s k Q (got a k)
  fair-here q = fair (past-none s k) q

  taken : {a : A} {e : ℕ} → Fair s k Q (got a e) → Past s k e × Q a
  taken (fair p q) = (p, q)

  pub fair-got : {x : Got A} {a : A} {e : ℕ} → Fair s k Q x → x ≡ got a e → Past s k e × Q a
  fair-got h q = taken (subst (Fair s k Q) q h)

  fair-later : {f : ℕ} {x : Got A} → Past s f k → Fair s k Q x → Fair s f Q x
  fair-later p (fair q r) = fair (past-both p q) r
  fair-later p lost = lost

  pub fair-make : {B : Type 0} {R : B → Type 0} (f : A → B) {x : Got A} → Fair s k Q x → ((a : A) → Q a → R (f a)) → Fair s k R (make f x)
  unfolding make
  fair-make f (fair {a = a} p q) g = fair p (g a q)
  fair-make f lost g = lost

pub fair-after : {A B : Type 0} {s : List ℕ} {k : ℕ} {Q : A → Type 0} {R : B → Type 0} {f : A → ℕ → Got B} {x : Got A}
    → Fair s k Q x → ((a : A) (e : ℕ) → Q a → Fair s e R (f a e)) → Fair s k R (after x f)
unfolding after
fair-after (fair {a = a} {e = e} p q) g = fair-later p (g a e q)
fair-after lost g = lost

module _ {A : Type 0} (s : List ℕ) (Q : A → Type 0) where
  -- no case is of a FUNC, and each one's reading is fair where the body fits
  abbrev pub FairCases : List (Case A) → Type 0
  FairCases [] = Unit
  FairCases (c ∷ cases) = (c.kind ≢ 3) × ((a b e : ℕ) → c.fits a b ≡ true → Fair s e Q (c.read a b e)) × FairCases cases

  pub fair-pick : (k : ℕ) (cases : List (Case A)) → FairCases cases → (r : Result Rec Fault) → rec_at s k ≡ r → Fair s k Q (pick cases k r)
  unfolding pick
  fair-pick k [] h (Err w) q = lost
  fair-pick k (c ∷ cases) h (Err w) q = lost
  fair-pick k [] h (Ok r) q = lost
  fair-pick k (c ∷ cases) h (Ok r) q = go (fair-pick k cases h.2 (Ok r) q) (eqb r.kind c.kind) refl (c.fits r.a r.b) refl
    where
      go : Fair s k Q (pick cases k (Ok r)) → (t : Bool) → eqb r.kind c.kind ≡ t → (u : Bool) → c.fits r.a r.b ≡ u → Fair s k Q (pick (c ∷ cases) k (Ok r))
      go ih true t true u = rw (t, pick, u) (fair-later (past-record s k q (λ z. h.0 (sym (eqb-true r.kind c.kind t) ∙ z))) (h.1 r.a r.b r.end u))
      go ih true t false u = rw (t, pick, u) lost
      go ih false t u v = rw (t, pick) ih
