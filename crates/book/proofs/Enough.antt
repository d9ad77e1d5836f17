-- No bound of the definitions of reading ever decides anything: every larger one gives the same, for all bytes, accepted or not.
use Prim.Native.Nat.{ℕ, zero, suc, ◌+◌, ◌≤◌, ◌<◌}
use native.Mathlib.Omega.{arith}
use mathlib.Core.Path.{◌≡◌, refl, ap, sym, ◌∙◌}
use mathlib.Core.Bool.{Bool, true, false, ◌&&◌}
use mathlib.Core.List.{List, [], ◌∷◌}
use mathlib.Core.Option.{Option, none, some}
use lib.ListN.{length, replicate}
use lib.Dec.{leb, ltb, eqb}
use borrow.Author.Tests.{ltb-true, ltb-false, le-ltb, eqb-true, eqb-false}
use Rattle.book.specs.Syntax.{Terms, Tree, split, child, cons_of}
use Rattle.book.specs.declared.Sort.{Sort}
use Rattle.book.specs.declared.Sort.TheVariants.{Range, Unexpected}
use Rattle.std.specs.Prelude.{Result, Ok, Err}
use Rattle.book.specs.declared.Fault.{Fault}
use Rattle.book.specs.Record.{Rec, Got, got, fault, rec_at, scan, funcs_from, func_arities}
use Rattle.book.specs.Reading.{after, make, Case, pick, Names, slot_case, read_head, read_terms, Slots, under, read_trees, read_tree, read_cons, is_kind, read_types, read_funcs}
use Rattle.book.specs.Accepted.{count}
use Rattle.book.proofs.Records.{err-known}
use Rattle.book.proofs.Passing.{rec-ends, rec-goes, funcs-enough, scan-ends, scan-faults, scan-refuses, scan-takes, scan-passes, fair-got}
use Rattle.book.proofs.Fairness.{both_hold, terms-fair, tree-fair}

-- The first pass gives the same under every bound that is as large as the number of bytes left,
scan-enough : (s : List ℕ) (fits : ℕ → ℕ → ℕ → Bool) (n m f k : ℕ) → length s ≤ n + k → length s ≤ m + k → scan s fits n f k ≡ scan s fits m f k
scan-enough s fits zero m f k h l = let d : length s ≤ k = omega arith in scan-ends s fits zero f k d ∙ sym (scan-ends s fits m f k d)
scan-enough s fits (suc n) zero f k h l = let d : length s ≤ k = omega arith in scan-ends s fits (suc n) f k d ∙ sym (scan-ends s fits zero f k d)
scan-enough s fits (suc n) (suc m) f k h l = go (scan-enough s fits n m) (ltb k (length s)) refl
  where
    tests : ((f k : ℕ) → length s ≤ n + k → length s ≤ m + k → scan s fits n f k ≡ scan s fits m f k) → k < length s → {r : Rec} → rec_at s k ≡ Ok r
        → (u : Bool) → fits f r.kind r.a ≡ u → (v : Bool) → eqb r.kind 3 ≡ v → scan s fits (suc n) f k ≡ scan s fits (suc m) f k
    tests ih t q false u v w = scan-refuses s fits n f k t q u ∙ sym (scan-refuses s fits m f k t q u)
    tests ih t {r} q true u true w =
        let p = rec-goes s k q in
        let is = eqb-true r.kind 3 w in
        scan-takes s fits n f k t q u is ∙ ih (suc f) r.end (omega arith) (omega arith) ∙ sym (scan-takes s fits m f k t q u is)
    tests ih t {r} q true u false w =
        let p = rec-goes s k q in
        let other = eqb-false r.kind 3 w in
        scan-passes s fits n f k t q u other ∙ ih f r.end (omega arith) (omega arith) ∙ sym (scan-passes s fits m f k t q u other)

    kinds : ((f k : ℕ) → length s ≤ n + k → length s ≤ m + k → scan s fits n f k ≡ scan s fits m f k) → k < length s → (r : Result Rec Fault) → rec_at s k ≡ r → scan s fits (suc n) f k ≡ scan s fits (suc m) f k
    kinds ih t (Err w) q = scan-faults s fits n f k t q ∙ sym (scan-faults s fits m f k t q)
    kinds ih t (Ok r) q = tests ih t q (fits f r.kind r.a) refl (eqb r.kind 3) refl

    go : ((f k : ℕ) → length s ≤ n + k → length s ≤ m + k → scan s fits n f k ≡ scan s fits m f k) → (b : Bool) → ltb k (length s) ≡ b → scan s fits (suc n) f k ≡ scan s fits (suc m) f k
    go ih true t = kinds ih (ltb-true k (length s) t) (rec_at s k) refl
    go ih false t = let d = ltb-false k (length s) t in scan-ends s fits (suc n) f k d ∙ sym (scan-ends s fits (suc m) f k d)

-- so the number of bytes, which the definition takes, is enough for it,
pub scan-bound : (s : List ℕ) (fits : ℕ → ℕ → ℕ → Bool) (n : ℕ) → length s ≤ n → scan s fits n 0 0 ≡ scan s fits (length s) 0 0
scan-bound s fits n h = scan-enough s fits n (length s) 0 0 (omega arith) (omega arith)

-- and for the functions of the first pass.
pub arities-bound : (s : List ℕ) (n : ℕ) → length s ≤ n → funcs_from s n 0 ≡ func_arities s
unfolding func_arities
arities-bound s n h = funcs-enough s n (length s) 0 (omega arith) (omega arith)

-- two lists of cases that differ at most in what they read further on
abbrev SameCases : {A : Type 0} → ℕ → List (Case A) → List (Case A) → Type 0
SameCases k [] [] = Unit
SameCases k [] (d ∷ ds) = ⊥
SameCases k (c ∷ cs) [] = ⊥
SameCases k (c ∷ cs) (d ∷ ds) = (c.kind ≡ d.kind) × (c.fits ≡ d.fits) × ((a b e : ℕ) → k < e → c.fits a b ≡ true → c.read a b e ≡ d.read a b e) × SameCases k cs ds

pick_same : {A : Type 0} (s : List ℕ) (k : ℕ) (cs ds : List (Case A)) → SameCases k cs ds → (r : Result Rec Fault) → rec_at s k ≡ r → pick cs k r ≡ pick ds k r
unfolding pick
pick_same s k [] [] h (Err w) q = refl
pick_same s k [] [] h (Ok r) q = refl
pick_same s k [] (d ∷ ds) h r q = absurd h
pick_same s k (c ∷ cs) [] h r q = absurd h
pick_same s k (c ∷ cs) (d ∷ ds) h (Err w) q = refl
pick_same s k (c ∷ cs) (d ∷ ds) h (Ok r) q = go (pick_same s k cs ds h.3 (Ok r) q) (eqb r.kind c.kind) refl (c.fits r.a r.b) refl
  where
    p : (k < r.end) × (r.end ≤ length s)
    p = rec-goes s k q

    kinds : eqb r.kind d.kind ≡ eqb r.kind c.kind
    kinds = ap (eqb r.kind) (sym h.0)

    tests : d.fits r.a r.b ≡ c.fits r.a r.b
    tests = ap (λ (f : ℕ → ℕ → Bool). f r.a r.b) (sym h.1)

    go : pick cs k (Ok r) ≡ pick ds k (Ok r) → (t : Bool) → eqb r.kind c.kind ≡ t → (u : Bool) → c.fits r.a r.b ≡ u → pick (c ∷ cs) k (Ok r) ≡ pick (d ∷ ds) k (Ok r)
    go ih false t u v = rw (kinds, t, pick) ih
    go ih true t false u = rw (kinds, t, pick, tests, u)
    go ih true t true u = rw (kinds, t, pick, tests, u) (h.2 r.a r.b r.end p.0 u)

-- where no record stands, no case is read
pick-bad : {A : Type 0} (cs : List (Case A)) (k : ℕ) (w : Fault) → pick cs k (Err w) ≡ fault w.sort w.at
unfolding pick
pick-bad cs k w = refl

-- on from the same thing in the same way
after_same : {A B : Type 0} (x : Got A) (f g : A → ℕ → Got B) → ((a : A) (e : ℕ) → x ≡ got a e → f a e ≡ g a e) → after x f ≡ after x g
unfolding after
after_same (got a e) f g h = h a e refl
after_same (fault w p) f g h = refl

-- The 65th TYPE is at fault itself, so no bound above 64 on the number of TYPEs decides,
types-enough : (s : List ℕ) (n m t c k : ℕ) → t ≤ 64 → 65 ≤ n + t → 65 ≤ m + t → read_types s n t c k ≡ read_types s m t c k
unfolding read_types
types-enough s zero m t c k h l o = absurd (omega arith)
types-enough s (suc n) zero t c k h l o = absurd (omega arith)
types-enough s (suc n) (suc m) t c k h l o = go (types-enough s n m) (is_kind 1 (rec_at s k)) refl
  where
    more : (a : ℕ) → (ltb t 64 && leb 1 a && leb a 32) ≡ true → t < 64
    more a u = ltb-true t 64 (both_hold (ltb t 64) (leb 1 a) (both_hold (ltb t 64 && leb 1 a) (leb a 32) u).0).0

    go : ((t c k : ℕ) → t ≤ 64 → 65 ≤ n + t → 65 ≤ m + t → read_types s n t c k ≡ read_types s m t c k) → (b : Bool) → is_kind 1 (rec_at s k) ≡ b → read_types s (suc n) t c k ≡ read_types s (suc m) t c k
    go ih true q = rw (q, read_types) (pick_same s k _ _
        (refl, refl, (λ a b e p u. (let d = more a u in after_same (read_cons s c a e) _ _ (λ cs f r. ap (make (λ ts. cs ∷ ts)) (ih (suc t) (c + a) f d (omega arith) (omega arith))))), tt) (rec_at s k) refl)
    go ih false q = rw (q, read_types)

-- and 65 is enough.
pub types-bound : (s : List ℕ) (n : ℕ) → 65 ≤ n → read_types s n 0 0 0 ≡ read_types s 65 0 0 0
types-bound s n h = types-enough s n 65 0 0 0 (omega arith) (omega arith) (omega arith)

-- children, read alike from k₀ on, each ending no earlier than it starts
trees-same : (one other : ℕ → ℕ → Got Tree) (k₀ : ℕ) → ((a k : ℕ) → k₀ ≤ k → one a k ≡ other a k) → ((a k : ℕ) (t : Tree) (e : ℕ) → one a k ≡ got t e → k ≤ e)
    → (l : List ℕ) (k : ℕ) → k₀ ≤ k → read_trees one l k ≡ read_trees other l k
unfolding read_trees
trees-same one other k₀ same on [] k h = refl
trees-same one other k₀ same on (a ∷ more) k h =
    after_same (one a k) _ _ (λ t e q. (let p = on a k t e q in ap (make (child t)) (trees-same one other k₀ same on more e (omega arith))))
    ∙ ap (λ (x : Got Tree). after x (λ t e. make (child t) (read_trees other more e))) (same a k h)

module _ (s : List ℕ) (types : List (List ℕ)) (funcs : List ℕ) where
  -- A tree's depth is never cut by a bound that is as large as the number of bytes left: each SPLIT takes some.
  pub tree-bound : (n m : ℕ) (slots : Slots) (k : ℕ) → length s ≤ n + k → length s ≤ m + k → read_tree n s types funcs slots k ≡ read_tree m s types funcs slots k
  unfolding read_tree
  tree-bound zero zero slots k h l = refl
  tree-bound zero (suc m) slots k h l = rw (rec-ends s k (omega arith), pick-bad)
  tree-bound (suc n) zero slots k h l = rw (rec-ends s k (omega arith), pick-bad)
  tree-bound (suc n) (suc m) slots k h l = pick_same s k _ _ (
    refl,
    refl,
    (λ i t e p u. ap (make (split i t)) (trees-same _ _ e (λ a j q. tree-bound n m (under slots i a) j (omega arith) (omega arith)) (λ a j x f q. (fair-got (tree-fair s types funcs n (under slots i a) j) q).0.on) (cons_of types t) e (omega arith))),
    (
      refl,
      refl,
      (λ a b e p u. refl),
      (refl, refl, (λ a b e p u. refl), tt),
    ),
  ) (rec_at s k) refl

  funcs-stop : (n k : ℕ) → length s ≤ k → read_funcs n s types funcs k ≡ got [] k
  unfolding read_funcs
  funcs-stop n k h = elim n as (λ n. read_funcs n s types funcs k ≡ got [] k) [ zero ↦ refl | suc n ↦ rw (le-ltb k (length s) h, read_funcs) ]

  funcs-bound-at : (n m k : ℕ) → length s ≤ n + k → length s ≤ m + k → read_funcs n s types funcs k ≡ read_funcs m s types funcs k
  unfolding read_funcs
  funcs-bound-at zero m k h l = sym (funcs-stop m k (omega arith))
  funcs-bound-at (suc n) zero k h l = funcs-stop (suc n) k (omega arith)
  funcs-bound-at (suc n) (suc m) k h l = go (funcs-bound-at n m) (ltb k (length s)) refl
    where
      go : ((k : ℕ) → length s ≤ n + k → length s ≤ m + k → read_funcs n s types funcs k ≡ read_funcs m s types funcs k) → (b : Bool) → ltb k (length s) ≡ b → read_funcs (suc n) s types funcs k ≡ read_funcs (suc m) s types funcs k
      go ih true t = rw (t, read_funcs) (pick_same s k _ _ (
        refl,
        refl,
        (λ a b e p u. after_same (read_tree (suc (length s)) s types funcs (replicate a 1) e) _ _ (λ x f q.
            (let d = (fair-got (tree-fair s types funcs (suc (length s)) (replicate a 1) e) q).0.on in ap (make (λ fs. record { arity = a; tree = x } ∷ fs)) (ih f (omega arith) (omega arith))))),
        tt,
      ) (rec_at s k) refl)
      go ih false t = rw (t, read_funcs)

  -- The number of FUNCs is never cut by a bound that is as large as the number of bytes.
  pub funcs-bound : (n k : ℕ) → length s ≤ n → read_funcs n s types funcs k ≡ read_funcs (length s) s types funcs k
  funcs-bound n k h = funcs-bound-at n (length s) k (omega arith) (omega arith)

-- cases whose bodies never fit
abbrev NeverFit : {A : Type 0} → List (Case A) → Type 0
NeverFit [] = Unit
NeverFit (c ∷ cs) = ((a b : ℕ) → c.fits a b ≡ false) × NeverFit cs

never-picked : {A : Type 0} (cs : List (Case A)) → NeverFit cs → (s : List ℕ) (k : ℕ) (r : Result Rec Fault) → r ≡ rec_at s k → (w : Sort) × (pick cs k r ≡ fault w k)
unfolding pick
never-picked [] h s k (Err w) p = let e = err-known s k p refl in (w.sort, rw e)
never-picked (c ∷ cs) h s k (Err w) p = let e = err-known s k p refl in (w.sort, rw e)
never-picked [] h s k (Ok r) p = (Unexpected, refl)
never-picked {A} (c ∷ cs) h s k (Ok r) p = go (never-picked cs h.1 s k (Ok r) p) (eqb r.kind c.kind) refl
  where
    go : (w : Sort) × (pick cs k (Ok r) ≡ fault w k) → (t : Bool) → eqb r.kind c.kind ≡ t → (w : Sort) × (pick (c ∷ cs) k (Ok r) ≡ fault w k)
    go ih true t = (Range, rw (t, pick, h.0 r.a r.b))
    go ih false t = (ih.0, rw (t, pick) ih.1)

module _ (s : List ℕ) (names : Names) where
  -- Exactly as many terms are read as are due: `the_one` always has one to take.
  pub terms-are-due : (room due k : ℕ) (ts : Terms) (e : ℕ) → read_terms s names room due k ≡ got ts e → count ts ≡ due
  terms-are-due room due k ts e q = (fair-got (terms-fair names s room due k) q).1.1

  -- With no room left, the record of a due term is itself at fault,
  pub head-ends : (k : ℕ) → (w : Sort) × (read_head s names false k ≡ fault w k)
  unfolding read_head
  head-ends k = never-picked _ ((λ a b. refl), ((λ a b. refl), ((λ a b. refl), slots names.slots))) s k (rec_at s k) refl
    where
      slots : (o : Option ℕ) → NeverFit (slot_case o false)
      slots none = unfold slot_case in tt
      slots (some n) = unfold slot_case in ((λ a b. refl), tt)

  -- and no record is passed over.
  pub room-ends : (due k : ℕ) → (w : Sort) × (read_terms s names 0 (suc due) k ≡ fault w k)
  unfolding read_terms after
  room-ends due k = let h = head-ends k in (h.0, rw h.1)
