-- Where the functions' trees start, in an accepted book.
use Prim.Native.Nat.{ℕ, zero, suc, ◌+◌, ◌-◌, ◌≤◌, ◌<◌}
use mathlib.Core.Path.{◌≡◌, refl, ap, sym, ◌∙◌, subst}
use mathlib.Core.Bool.{Bool, true, false}
use mathlib.Core.List.{List, [], ◌∷◌}
use lib.ListN.{length, get_or, replicate}
use lib.Dec.{ltb, leb}
use native.Mathlib.Omega.{arith}
use native.Mathlib.Numerals.{sub-one}
use borrow.Author.Tests.{leb-true, ltb-true, eq-eqb, ne_eqb}
use Rattle.book.specs.Syntax.{Tree, norule, Func, Book}
use Rattle.book.specs.declared.Sort.TheVariants.{End}
use Rattle.std.specs.Prelude.{Result, Ok, Err}
use Rattle.book.specs.declared.Fault.{Fault}
use Rattle.book.specs.Record.{Rec, Got, got, fault, rec_at, scan, book_fits, func_arities}
use Rattle.book.specs.Reading.{read_types, read_tree, read_funcs, read_book}
use Rattle.book.specs.Facts.{tree_from, func_of, TreeAt, TreeStands}
use Rattle.book.proofs.Records.{of-known, rec-end}
use Rattle.book.proofs.Ahead.{odd, after_both, Reach, stay, pass, In, in-got, Past, past-got, tree-past, types-in}
use Rattle.book.proofs.Wholes.{make-both, picked, book-is}

module _ (s : List ℕ) (n k f : ℕ) where
  from-bad : {w : Fault} → rec_at s k ≡ Err w → tree_from s n k f ≡ k
  unfolding tree_from
  from-bad q = elim n as (λ n. tree_from s n k f ≡ k) [ zero ↦ refl | suc n ↦ rw (q, tree_from) ]

  module _ {r : Rec} (q : rec_at s k ≡ Ok r) where
    from-other : (r.kind ≡ 3 → ⊥) → tree_from s (suc n) k f ≡ tree_from s n r.end f
    unfolding tree_from
    from-other u = rw (q, tree_from, ne_eqb r.kind 3 u)

    from-this : r.kind ≡ 3 → f ≡ 0 → tree_from s (suc n) k f ≡ r.end
    unfolding tree_from
    from-this u z = rw (q, tree_from, eq-eqb r.kind 3 u, eq-eqb f 0 z)

    from_next : r.kind ≡ 3 → (f ≡ 0 → ⊥) → tree_from s (suc n) k f ≡ tree_from s n r.end (f - 1)
    unfolding tree_from
    from_next u z = rw (q, tree_from, eq-eqb r.kind 3 u, ne_eqb f 0 z)

-- some bound is left
more : (s : List ℕ) (n k : ℕ) → k < length s → length s ≤ n + k → (m : ℕ) × ((n ≡ suc m) × (length s ≤ m + k + 1))
more s zero k h l = absurd (omega arith)
more s (suc m) k h l = (m, (refl, omega arith))

-- past no FUNC the tree's place stays
pub record Same (s : List ℕ) (n k e f : ℕ) : Type 0 where
  pub bound : ℕ
  pub enough : length s ≤ bound + e
  pub is : tree_from s n k f ≡ tree_from s bound e f

reach-same : {s : List ℕ} {k e : ℕ} (n f : ℕ) → length s ≤ n + k → Reach s k e → Same s n k e f
reach-same n f l stay = record { bound = n; enough = l; is = refl }
reach-same {s} {k} n f l (pass {r = o} q u r) =
    let g = of-known s k (sym q) refl in
    let d = more s n k (omega (arith, g.on, g.within)) l in
    let i = reach-same d.0 f (omega (arith, d.1.1, g.on)) r in
    record { bound = i.bound; enough = i.enough; is = subst (λ (x : ℕ). tree_from s x k f ≡ tree_from s d.0 o.end f) (sym d.1.0) (from-other s d.0 k f q u) ∙ i.is }

-- the loop of the code
pub record FromIs (s : List ℕ) (k f out : ℕ) : Type 0 where
  pub bound : ℕ
  pub enough : length s ≤ bound + k
  pub is : tree_from s bound k f ≡ out

pub from_start : (s : List ℕ) (f : ℕ) → FromIs s 0 f (tree_from s (length s) 0 f)
from_start s f = record { bound = length s; enough = omega arith; is = refl }

module _ (s : List ℕ) {k f out : ℕ} (i : FromIs s k f out) where
  pub loop-end : length s ≤ k → k ≡ out
  loop-end h = sym (from-bad s i.bound k f (rec-end s k h)) ∙ i.is

  module _ {res : Result Rec Fault} (p : res ≡ rec_at s k) where
    pub loop-bad : {w : Fault} → res ≡ Err w → k ≡ out
    loop-bad q = sym (from-bad s i.bound k f (sym p ∙ q)) ∙ i.is

    module _ (h : k < length s) {r : Rec} (q : res ≡ Ok r) where
      on : (m : ℕ) × ((length s ≤ m + r.end) × (tree_from s (suc m) k f ≡ out))
      on = (let d = more s i.bound k h i.enough in let g = of-known s k p q in (d.0, (omega (arith, d.1.1, g.on), subst (λ (x : ℕ). tree_from s x k f ≡ out) d.1.0 i.is)))

      pub loop-this : r.kind ≡ 3 → f ≡ 0 → r.end ≡ out
      loop-this u z = sym (from-this s on.0 k f (sym p ∙ q) u z) ∙ on.1.1

      pub loop-next : r.kind ≡ 3 → (f ≡ 0 → ⊥) → FromIs s r.end (f - 1) out
      loop-next u z = record { bound = on.0; enough = on.1.0; is = sym (from_next s on.0 k f (sym p ∙ q) u z) ∙ on.1.1 }

      pub loop-other : (r.kind ≡ 3 → ⊥) → FromIs s r.end f out
      loop-other u = record { bound = on.0; enough = on.1.0; is = sym (from-other s on.0 k f (sym p ∙ q) u) ∙ on.1.1 }

-- the functions that are read from place k on
abbrev none : Func
none = record { arity = 0; tree = norule }

record Stands (s : List ℕ) (types : List (List ℕ)) (fs : List ℕ) (funcs : List Func) (f r : ℕ) : Type 0 where
  end : ℕ
  is : read_tree (suc (length s)) s types fs (replicate (get_or funcs f none).arity 1) r ≡ got (get_or funcs f none).tree end

reached : {s : List ℕ} {k e : ℕ} {t : Tree} → Past s k (got t e) → Reach s k e
reached (past-got a b c) = c

module _ (s : List ℕ) (types : List (List ℕ)) (fs : List ℕ) where
  one : (r : Rec) (t : Tree) (rest funcs : List Func) (e1 n m k f : ℕ) → record { arity = r.a; tree = t } ∷ rest ≡ funcs → rec_at s k ≡ Ok r → r.kind ≡ 3 → read_tree (suc (length s)) s types fs (replicate r.a 1) r.end ≡ got t e1
      → ((f m : ℕ) → f < length rest → length s ≤ m + e1 → Stands s types fs rest f (tree_from s m e1 f)) → f < length funcs → length s ≤ m + k → k < length s → Stands s types fs funcs f (tree_from s m k f)
  one r t rest funcs e1 n m k zero j q u y ih l h w =
      let d = more s m k w h in
      let z : tree_from s m k 0 ≡ r.end = subst (λ (x : ℕ). tree_from s x k 0 ≡ r.end) (sym d.1.0) (from-this s d.0 k 0 q u refl) in
      rw (z, ← j) (record { end = e1; is = y })
  one r t rest funcs e1 n m k (suc f) j q u y ih l h w =
      let d = more s m k w h in
      let g = of-known s k (sym q) refl in
      let z : tree_from s m k (suc f) ≡ tree_from s d.0 r.end f = subst (λ (x : ℕ). tree_from s x k (suc f) ≡ tree_from s d.0 r.end f) (sym d.1.0) (from_next s d.0 k (suc f) q u (λ u. omega arith) ∙ rw sub-one) in
      let p = reached (subst (λ (x : Got Tree). Past s r.end x) y (tree-past (suc (length s)) s types fs (replicate r.a 1) r.end g.within)) in
      let i = reach-same d.0 f (omega (arith, d.1.1, g.on)) p in
      let v : suc f < length (record { arity = r.a; tree = t } ∷ rest) = subst (λ (x : List Func). suc f < length x) (sym j) l in
      let x = ih f i.bound (omega (arith, v)) i.enough in
      rw (z, i.is, ← j) (record { end = x.end; is = x.is })

  stands : (n k : ℕ) (funcs : List Func) (e f m : ℕ) → read_funcs n s types fs k ≡ got funcs e → f < length funcs → length s ≤ m + k → Stands s types fs funcs f (tree_from s m k f)
  unfolding read_funcs
  stands zero k funcs e f m q l h = (let z : [] ≡ funcs = cc in let y : f < 0 = subst (λ (x : List Func). f < length x) (sym z) l in absurd (omega (arith, y)))
  stands (suc n) k funcs e f m q l h = go (ltb k (length s)) refl (λ k funcs f m q l h. stands n k funcs e f m q l h)
    where
      go : (b : Bool) → ltb k (length s) ≡ b → ((k : ℕ) (funcs : List Func) (f m : ℕ) → read_funcs n s types fs k ≡ got funcs e → f < length funcs → length s ≤ m + k → Stands s types fs funcs f (tree_from s m k f)) → Stands s types fs funcs f (tree_from s m k f)
      go false b ih = (let x : read_funcs (suc n) s types fs k ≡ got [] k = rw (b, read_funcs) in let z : [] ≡ funcs = cc in let y : f < 0 = subst (λ (x : List Func). f < length x) (sym z) l in absurd (omega (arith, y)))
      go true b ih =
          let p = picked s k _ (rec_at s k) refl (rw (b, read_funcs) at q) in
          let c = after_both _ (read_tree (suc (length s)) s types fs (replicate p.r.a 1) p.r.end) p.read in
          let d = make-both _ (read_funcs n s types fs c.1.0) c.1.1.1 in
          one p.r c.0 d.0 funcs c.1.0 n m k f d.1.1 p.is p.kind c.1.1.0 (λ f m l h. ih c.1.0 d.0 f m d.1.0 l h) l h (ltb-true _ _ b)

typed : {s : List ℕ} {k e : ℕ} {ts : List (List ℕ)} → In s k (got ts e) → Reach s k e
typed (in-got a b c) = c

-- in an accepted book the tree of each function stands after its FUNC record
pub tree-stands : (s : List ℕ) (f : ℕ) {r n : ℕ} → r ≡ tree_from s (length s) 0 n → n ≡ f → TreeStands s f r
unfolding read_book func_of
tree-stands s f {r} {n} o j = record { is = λ book e q l. go book e q l (leb (length s) 32768) refl }
  where
    go : (book : Book) (e : ℕ) → read_book s ≡ got book e → f < length book.funcs → (t : Bool) → leb (length s) 32768 ≡ t → TreeAt s book f r
    go book e q l false t = (let z : read_book s ≡ fault End 32768 = rw (t, read_book) in absurd (odd (sym z ∙ q)))
    go book e q l true t =
        let a = after_both _ (scan s book_fits (length s) 0 0) (sym (book-is s (leb-true _ _ t)) ∙ q) in
        let c = after_both _ (read_types s 65 0 0 0) a.1.1.1 in
        let m = make-both _ (read_funcs (length s) s c.0 (func_arities s) c.1.0) c.1.1.1 in
        let p = typed (subst (λ (x : Got (List (List ℕ))). In s 0 x) c.1.1.0 (types-in s 65 0 0 0 (omega arith))) in
        let i = reach-same (length s) f (omega arith) p in
        let v : f < length m.0 = subst (λ (b : Book). f < length b.funcs) (sym m.1.1) l in
        let x = stands s c.0 (func_arities s) (length s) c.1.0 m.0 e f i.bound m.1.0 v i.enough in
        let w : r ≡ tree_from s i.bound c.1.0 f = o ∙ ap (tree_from s (length s) 0) j ∙ i.is in
        let y : TreeAt s (record { types = c.0; funcs = m.0 }) f (tree_from s i.bound c.1.0 f) = record { end = x.end; is = x.is } in
        subst (λ (b : Book). TreeAt s b f r) m.1.1 (subst (λ (k : ℕ). TreeAt s (record { types = c.0; funcs = m.0 }) f k) (sym w) y)
