-- A small logic of readers that says where the reading ends. (The compiler's Bytes has the same one, for a book's records.)
-- Here, in order: a record that was read; what holds of what is read.
-- Assumes nothing.
use Prim.Native.Nat.{ℕ, ◌+◌}
use native.Mathlib.Omega.{arith}
use mathlib.Core.Path.{◌≡◌, refl, ap, sym, ◌∙◌, subst}
use mathlib.Core.Bool.{Bool, true, false}
use mathlib.Core.List.{List, [], ◌∷◌}
use mathlib.Core.Option.{Option, none, some}
use lib.ListN.{length, get_or}
use lib.Dec.{ltb, leb, eqb}
use borrow.Author.Tests.{eqb-true}
use Rattle.std.specs.Prelude.{Result, Ok, Err}
use Rattle.book.specs.declared.Sort.{Sort}
use Rattle.book.specs.declared.Fault.{Fault}
use Rattle.book.specs.Record.{Got, got, fault, Rec, body_of, body_byte, rec_at}
use Rattle.book.specs.Reading.{after, make, Case, pick}

-- what is known of a record that was read
record Is (s : List ℕ) (k : ℕ) (r : Rec) : Type 0 where
  body : ℕ
  known : body_of r.kind ≡ some body
  first : r.a ≡ body_byte s (k + 1) body 0
  here : get_or s k 0 ≡ r.kind
  next : r.end ≡ k + 1 + body

abbrev Known : List ℕ → ℕ → Result Rec Fault → Type 0
Known s k (Err f) = Unit
Known s k (Ok r) = Is s k r

rec-body : (s : List ℕ) (k : ℕ) → ltb k (length s) ≡ true → (m : Option ℕ) → body_of (get_or s k 0) ≡ m → Known s k (rec_at s k)
unfolding rec_at
rec-body s k t none q = rw (t, rec_at, q) tt
rec-body s k t (some m) q = go (leb (k + 1 + m) (length s)) refl
  where
    go : (b : Bool) → leb (k + 1 + m) (length s) ≡ b → Known s k (rec_at s k)
    go true u = rw (t, rec_at, q, u) (record { body = m; known = q; first = refl; here = refl; next = refl })
    go false u = rw (t, rec_at, q, u) tt

rec-known : (s : List ℕ) (k : ℕ) → Known s k (rec_at s k)
unfolding rec_at
rec-known s k = go (ltb k (length s)) refl
  where
    go : (b : Bool) → ltb k (length s) ≡ b → Known s k (rec_at s k)
    go true t = rec-body s k t (body_of (get_or s k 0)) refl
    go false t = rw (t, rec_at) tt

the-some : {m n : ℕ} → some m ≡ some n → m ≡ n
the-some q = cc

-- a record with one byte in its body
pub rec_one : (s : List ℕ) (k : ℕ) {r : Rec} → rec_at s k ≡ Ok r → body_of r.kind ≡ some 1 → (get_or s k 0 ≡ r.kind) × (get_or s (k + 1) 0 ≡ r.a) × (r.end ≡ k + 2)
unfolding body_byte
rec_one s k {r} q h =
    let i : Is s k r = subst (Known s k) q (rec-known s k) in
    let m : i.body ≡ 1 = the-some (sym i.known ∙ h) in
    let y : k + 1 + 0 ≡ k + 1 = omega arith in
    let x : r.a ≡ get_or s (k + 1 + 0) 0 = i.first ∙ rw m in
    (i.here, sym (x ∙ rw y), omega (arith, i.next))

-- what is read, if anything, and where it ends, is as P says
pub data Holds {A : Type 0} (P : A → ℕ → Type 0) : Got A → Type 0 where
  holds : {a : A} {e : ℕ} → P a e → Holds P (got a e)
  lost : {w : Sort} {p : ℕ} → Holds P (fault w p)

module _ {A : Type 0} {P : A → ℕ → Type 0} where
  held : {a : A} {e : ℕ} → Holds P (got a e) → P a e
  held (holds p) = p

  pub hold-got : {x : Got A} {a : A} {e : ℕ} → Holds P x → x ≡ got a e → P a e
  hold-got h q = held (subst (Holds P) q h)

  pub hold-make : {B : Type 0} {Q : B → ℕ → Type 0} (g : A → B) {x : Got A} → Holds P x → ((a : A) (e : ℕ) → P a e → Q (g a) e) → Holds Q (make g x)
  unfolding make
  hold-make g (holds {a = a} {e = e} p) h = holds (h a e p)
  hold-make g lost h = lost

  pub hold-after : {B : Type 0} {Q : B → ℕ → Type 0} {g : A → ℕ → Got B} {x : Got A} → Holds P x → ((a : A) (e : ℕ) → P a e → Holds Q (g a e)) → Holds Q (after x g)
  unfolding after
  hold-after (holds {a = a} {e = e} p) h = h a e p
  hold-after lost h = lost

  -- two things at once
  pub both : {Q : A → ℕ → Type 0} {x : Got A} → Holds P x → ((a : A) (e : ℕ) → x ≡ got a e → Q a e) → Holds (λ a e. P a e × Q a e) x
  both (holds {a = a} {e = e} p) h = holds (p, h a e refl)
  both lost h = lost

-- whatever was read
pub any : {A : Type 0} (x : Got A) → Holds (λ a e. Unit {0}) x
any (got a e) = holds tt
any (fault w p) = lost

module _ {A : Type 0} (s : List ℕ) (k : ℕ) (P : A → ℕ → Type 0) where
  abbrev pub HoldCases : List (Case A) → Type 0
  HoldCases [] = Unit
  HoldCases (c ∷ cases) = ((a b e : ℕ) → rec_at s k ≡ Ok (record { kind = c.kind; a = a; b = b; end = e }) → c.fits a b ≡ true → Holds P (c.read a b e)) × HoldCases cases

  pub hold-pick : (cases : List (Case A)) → HoldCases cases → (x : Result Rec Fault) → rec_at s k ≡ x → Holds P (pick cases k x)
  unfolding pick
  hold-pick [] h (Err f) q = lost
  hold-pick (c ∷ cases) h (Err f) q = lost
  hold-pick [] h (Ok r) q = lost
  hold-pick (c ∷ cases) h (Ok r) q = go (hold-pick cases h.1 (Ok r) q) (eqb r.kind c.kind) refl (c.fits r.a r.b) refl
    where
      go : Holds P (pick cases k (Ok r)) → (t : Bool) → eqb r.kind c.kind ≡ t → (u : Bool) → c.fits r.a r.b ≡ u → Holds P (pick (c ∷ cases) k (Ok r))
      go ih true t true u = let z = eqb-true r.kind c.kind t in rw (t, pick, u) (h.0 r.a r.b r.end (q ∙ ap (λ (i : ℕ). Ok (record { kind = i; a = r.a; b = r.b; end = r.end })) z) u)
      go ih true t false u = rw (t, pick, u) lost
      go ih false t u v = rw (t, pick) ih
