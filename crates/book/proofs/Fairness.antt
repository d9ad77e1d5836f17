-- What is read is as an accepted book is like: terms, RIGHTs and trees.
use Prim.Native.Nat.{ℕ, zero, suc, ◌+◌, ◌≤◌, ◌<◌}
use mathlib.Core.Path.{◌≡◌, refl, ap}
use mathlib.Core.Logic.{◌≢◌}
use mathlib.Core.Bool.{Bool, true, false, ◌&&◌, not}
use mathlib.Core.List.{List, [], ◌∷◌}
use mathlib.Core.Option.{Option, none, some}
use lib.ListN.{length, get_or, get_or-eq_default}
use lib.Dec.{leb, ltb, eqb, T, T_not, eqb_refl}
use native.Mathlib.Omega.{arith}
use borrow.Author.Tests.{ltb-true, ltb-false, leb-true}
use Rattle.book.specs.Syntax.{Term, Terms, done, arg, Tree, con_arities, cons_of}
use Rattle.book.specs.Record.{Got, rec_at}
use Rattle.book.specs.Reading.{Names, Head, slot_case, read_head, first_terms, others_of, joined, read_terms, the_one, read_right, read_rights, Slots, splits, all_fit, under, read_trees, read_tree}
use Rattle.book.specs.Accepted.{count, records, records_of, FineTerm, FineTerms, FineRight, FineRights, FineTree, FineTrees}
use Rattle.book.proofs.Passing.{Fair, lost, FairCases, fair-here, fair-make, fair-after, fair-pick}

-- a kind is not a FUNC's
pub kind-differs : (k : ℕ) → T (not (eqb k 3)) → k ≢ 3
kind-differs k t e = T_not (eqb k 3) t (rw e (eqb_refl 3))

-- both tests hold
pub both_hold : (a b : Bool) → (a && b) ≡ true → (a ≡ true) × (b ≡ true)
both_hold true b e = (refl, e)
both_hold false b e = let z : ◌≡◌ {A = ℕ} 0 1 = cc in absurd (omega arith)

-- how many slots a term may name: none in a question
abbrev pub slots_of : Option ℕ → ℕ
slots_of none = 0
slots_of (some n) = n

module _ (names : Names) where
  abbrev FineIn : Term → Type 0
  FineIn t = FineTerm names.cons names.funcs (slots_of names.slots) names.vars t

  abbrev AllFineIn : Terms → Type 0
  AllFineIn ts = FineTerms names.cons names.funcs (slots_of names.slots) names.vars ts

  -- a head makes a fine term of as many fine arguments as it says, with one record more
  abbrev FineHead : Head → Type 0
  FineHead h = (ts : Terms) → count ts ≡ h.args → AllFineIn ts → FineIn (h.term ts) × (records (h.term ts) ≤ suc (records_of ts))

  -- the same of terms that are due, with room for so many records
  abbrev pub FineDue : ℕ → ℕ → Terms → Type 0
  FineDue room due ts = AllFineIn ts × (count ts ≡ due) × (records_of ts ≤ room)

  -- a head is read only where one more record is allowed
  head-fair : (s : List ℕ) (more : Bool) (k : ℕ) → Fair s k (λ h. (more ≡ true) × FineHead h) (read_head s names more k)
  unfolding read_head
  head-fair s more k = fair-pick s (λ h. (more ≡ true) × FineHead h) k _ (
    kind-differs 7 tt,
    (λ c b e t. (let u = both_hold more (ltb c (length names.cons)) t in fair-here (u.0, λ ts p q. ((ltb-true _ _ u.1, p, q), omega arith)))),
    (
      kind-differs 8 tt,
      (λ f b e t. (let u = both_hold more (ltb f (length names.funcs)) t in fair-here (u.0, λ ts p q. ((ltb-true _ _ u.1, p, q), omega arith)))),
      (
        kind-differs 10 tt,
        (λ v b e t. (let u = both_hold more (ltb v names.vars) t in fair-here (u.0, λ ts p q. (ltb-true _ _ u.1, omega arith)))),
        slots names.slots refl,
      ),
    ),
  ) (rec_at s k) refl
    where
      slots : (o : Option ℕ) → names.slots ≡ o → FairCases s (λ h. (more ≡ true) × FineHead h) (slot_case o more)
      slots none q = unfold slot_case in tt
      slots (some n) q = unfold slot_case in (kind-differs 9 tt, (λ i b e t. (let u = both_hold more (ltb i n) t in fair-here (u.0, λ ts p r. (rw q (ltb-true i n u.1), omega arith)))), tt)

  -- the first n terms and the others
  record Parts (n m : ℕ) (ts : Terms) : Type 0 where
    first : AllFineIn (first_terms n ts)
    all : count (first_terms n ts) ≡ n
    others : AllFineIn (others_of n ts)
    rest : count (others_of n ts) ≡ m
    long : records_of (first_terms n ts) + records_of (others_of n ts) ≡ records_of ts

  parts : (n m : ℕ) (ts : Terms) → AllFineIn ts → count ts ≡ n + m → Parts n m ts
  unfolding first_terms others_of
  parts zero m ts f c = record { first = tt; all = refl; others = f; rest = omega arith; long = omega arith }
  parts (suc n) m done f c = absurd (omega arith)
  parts (suc n) m (arg t ts) f c =
      let p = parts n m ts f.1 (omega arith) in
      record { first = (f.0, p.first); all = ap suc p.all; others = p.others; rest = p.rest; long = omega (arith, p.long) }

  join-due : (room due : ℕ) (h : Head) → FineHead h → (ts : Terms) → FineDue room (h.args + due) ts → FineDue (suc room) (suc due) (joined h ts)
  unfolding joined
  join-due room due h f ts d =
      let p = parts h.args due ts d.0 d.1 in
      let g = f (first_terms h.args ts) p.all p.first in
      ((g.0, p.others), ap suc p.rest, omega (arith, g.1, p.long, d.2))

  -- Exactly the terms that are due are read, each fine; with no room for a record, a due term is a fault.
  pub terms-fair : (s : List ℕ) (room due k : ℕ) → Fair s k (FineDue room due) (read_terms s names room due k)
  unfolding read_terms
  terms-fair s zero zero k = fair-here (tt, refl, omega arith)
  terms-fair s (suc room) zero k = fair-here (tt, refl, omega arith)
  terms-fair s zero (suc due) k = fair-after (head-fair s false k) (λ h e q. (let z : ◌≡◌ {A = ℕ} 0 1 = cc in absurd (omega arith)))
  terms-fair s (suc room) (suc due) k = fair-after (head-fair s true k) (λ h e q. fair-make (joined h) (terms-fair s room (h.args + due) e) (join-due room due h q.1))

  the_one_lem : (ts : Terms) → FineDue 255 1 ts → FineIn (the_one ts) × (records (the_one ts) ≤ 255)
  unfolding the_one
  the_one_lem done d = absurd (omega (arith, d.1))
  the_one_lem (arg t ts) d = (d.0.0, omega (arith, d.2))

module _ (s cons funcs : List ℕ) where
  pub right-fair : (slots : Option ℕ) (k : ℕ) → Fair s k (FineRight cons funcs (slots_of slots)) (read_right s cons funcs slots k)
  unfolding read_right
  right-fair slots k = fair-pick s (FineRight cons funcs (slots_of slots)) k _ (
    kind-differs 6 tt,
    (λ v b e t.
        (let names : Names = record { cons = cons; funcs = funcs; slots = slots; vars = v } in
        fair-make _ (terms-fair names s 255 1 e) (λ ts d. (let u = the_one_lem names ts d in (leb-true v 8 t, u.0, u.1))))),
    tt,
  ) (rec_at s k) refl

  rights-fair : (slots n k : ℕ) → Fair s k (λ rs. FineRights cons funcs slots rs × (length rs ≡ n)) (read_rights (read_right s cons funcs (some slots)) n k)
  unfolding read_rights
  rights-fair slots zero k = fair-here (tt, refl)
  rights-fair slots (suc n) k = fair-after (right-fair (some slots) k) (λ r e f. fair-make _ (rights-fair slots n e) (λ rs d. ((f, d.0), ap suc d.1)))

module _ (s : List ℕ) (types : List (List ℕ)) (funcs : List ℕ) where
  trees-fair : (one : ℕ → ℕ → Got Tree) (slots : Slots) (i : ℕ) → ((a k : ℕ) → Fair s k (FineTree types funcs (under slots i a)) (one a k))
      → (l : List ℕ) (k : ℕ) → Fair s k (λ ts. FineTrees types funcs slots i ts l) (read_trees one l k)
  unfolding read_trees
  trees-fair one slots i h [] k = fair-here tt
  trees-fair one slots i h (a ∷ more) k = fair-after (h a k) (λ t e f. fair-make _ (trees-fair one slots i h more e) (λ ts g. (f, g)))

  -- what the test of a SPLIT says
  split-fits : (slots : Slots) (i t : ℕ) → splits types slots i t ≡ true → (i < length slots) × (get_or slots i 8 < 8) × (t < length types) × (all_fit (length slots) (cons_of types t) ≡ true)
  unfolding splits
  split-fits slots i t h =
      let u = both_hold (ltb (get_or slots i 8) 8 && ltb t (length types)) (all_fit (length slots) (cons_of types t)) h in
      let v = both_hold (ltb (get_or slots i 8) 8) (ltb t (length types)) u.0 in
      let d = ltb-true (get_or slots i 8) 8 v.0 in
      (inside (ltb i (length slots)) refl d, d, ltb-true t (length types) v.1, u.1)
    where
      inside : (b : Bool) → ltb i (length slots) ≡ b → get_or slots i 8 < 8 → i < length slots
      inside true q d = ltb-true i (length slots) q
      inside false q d = absurd (omega (arith, get_or-eq_default slots 8 (ltb-false i (length slots) q)))

  pub tree-fair : (n : ℕ) (slots : Slots) (k : ℕ) → Fair s k (FineTree types funcs slots) (read_tree n s types funcs slots k)
  unfolding read_tree
  tree-fair zero slots k = lost
  tree-fair (suc n) slots k = fair-pick s (FineTree types funcs slots) k _ (
    kind-differs 4 tt,
    (λ i t e h.
        (let u = split-fits slots i t h in
        fair-make _ (trees-fair _ slots i (λ a k. tree-fair n (under slots i a) k) (cons_of types t) e) (λ ts f. (u.0, u.1, u.2, f, u.3)))),
    (
      kind-differs 5 tt,
      (λ c b e h.
          (let u = both_hold (leb 1 c) (leb c 16) h in
          let low = leb-true 1 c u.0 in
          let high = leb-true c 16 u.1 in
          fair-make _ (rights-fair s (con_arities types) funcs (length slots) c e) (λ rs f. (omega (arith, f.1), omega (arith, f.1), f.0)))),
      (kind-differs 11 tt, (λ a b e h. fair-here tt), tt),
    ),
  ) (rec_at s k) refl
