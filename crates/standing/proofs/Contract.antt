-- What a contract can say: numbers and forwards aside, two computations are the same when their copies are.
-- Assumes nothing.
use Prim.Native.Nat.{ℕ, ◌<◌}
use native.Mathlib.Omega.{arith}
use mathlib.Core.Path.{◌≡◌, refl, sym, ap, ◌∙◌, subst}
use native.Mathlib.Nat.{zero-add}
use native.Mathlib.Decide.{dec_lt}
use mathlib.Core.Option.{Option, none, some}
use mathlib.Core.List.{List, ◌∷◌, ◌++◌, map, Memᴰ}
use lib.ListN.{length, get_or, take, drop, length-map, get_or-eq_default}
use Rattle.standing.specs.Stands.{Stands, World, Rel, Dom, Ours, Reps}
use Rattle.heap.specs.Alike.{Each, Rep, Alike}
use Rattle.heap.proofs.Laws.Numbers.{up_from-at, up_from-length}
use Rattle.heap.specs.Place.{Rooted, NotFwd}
use Rattle.book.specs.Syntax.{Symbol}
use lib.Seq.{take_at, drop_at}
use Rattle.heap.specs.Graph.{Graph, node, reach, index_of, Comp, copy}
use Rattle.heap.specs.Build.{up_from}
use Rattle.heap.proofs.Laws.Good.{Good}
use Rattle.heap.proofs.Laws.Alike.{Wider, alike_same, rep-keep, each_keep}
use Rattle.heap.proofs.Laws.Shape.{copy-alike, each_append, each-length}
use Rattle.heap.proofs.Laws.Reach.{good-rooted, map_at, mem-at, distinct-at, index_of-mem, index_of-some, gc-length, swept}
use Rattle.heap.proofs.Laws.Same.{graphs, Together, same_alike, same-roots}
use Rattle.engine.specs.Machine.{Held}
use Rattle.heap.specs.Store.{Store}
use Rattle.standing.proofs.Grows.{each_take, each-drop}
use Rattle.standing.specs.Contract.{shape, Placed}

pub stands-shape : (g : Graph) (c : Held) (μ : Store) (c' : Held) → Stands g c μ c' → shape g c ≡ shape μ.nodes c'
unfolding shape
stands-shape g c μ c' S =
    let X = Reps S.world g μ.nodes in
    let a = copy-alike S.holds.alike S.holds.in_p S.holds.in_q c.value c'.value (c.askers ++ c.stack) (c'.askers ++ c'.stack) S.helds.value (each_append X c.askers c'.askers c.stack c'.stack S.helds.askers S.helds.stack) in
    let b = each-length X c.askers c'.askers S.helds.askers in
    λ i. (a i, b i)

-- the number seen where the handle was seen
unfoldable pub paired : List ℕ → List ℕ → ℕ → Option ℕ
paired l l' h = elim (index_of h l) [ some i ↦ some (get_or l' i 0) | none ↦ none ]

paired_at : (l l' : List ℕ) (h i : ℕ) → index_of h l ≡ some i → paired l l' h ≡ some (get_or l' i 0)
unfolding paired
paired_at l l' h i e = rw (e, paired)

paired-some : (l l' : List ℕ) (h k : ℕ) → paired l l' h ≡ some k → (i : ℕ) × (i < length l) × (get_or l i 0 ≡ h) × (get_or l' i 0 ≡ k)
unfolding paired
paired-some l l' h k e = go (index_of h l) refl
  where
    go : (o : Option ℕ) → index_of h l ≡ o → (i : ℕ) × (i < length l) × (get_or l i 0 ≡ h) × (get_or l' i 0 ≡ k)
    go none q = let u : ◌≡◌ {A = Option ℕ} none (some k) = rw (q, paired) at e in let z : ◌≡◌ {A = ℕ} 0 1 = cc in absurd (omega arith)
    go (some j) q =
        let u : some (get_or l' j 0) ≡ some k = rw (q, paired) at e in
        let r = index_of-mem h l (index_of-some h l j q) in
        let v : some r.0 ≡ some j = sym r.1 ∙ q in
        let x : r.0 ≡ j = cc in
        let y : get_or l' j 0 ≡ k = cc in
        (r.0, r.2, r.3, ap (λ (z : ℕ). get_or l' z 0) x ∙ y)

pub shape-stands : {Fine : Symbol → ℕ → Type 0} (g : Graph) (c : Held) (μ : Store) (c' : Held) (own : List ℕ) (G : Good Fine g) → ((h : ℕ) → Memᴰ h (c.value ∷ (c.askers ++ c.stack)) → h < length g) → Placed μ c' own
    → shape g c ≡ shape μ.nodes c' → Stands g c μ c'
unfolding shape
shape-stands g c μ c' own G ins Z e = record {
  world = w;
  holds = record { alike = alike_same A to from to_p (λ x q. q); sized = size; in_p = λ x p. rw size at p; in_q = Z.in_q; fits = Z.fits; idle = Z.idle; distinct = Z.distinct };
  helds = record {
    value = rep-keep again c.value c'.value r.0;
    askers = subst (λ (l : List ℕ). Each (Reps w g μ.nodes) l c'.askers) (take_at c.askers c.stack (length c.askers) refl)
        (subst (λ (l : List ℕ). Each (Reps w g μ.nodes) (take (length c.askers) as₁) l) (take_at c'.askers c'.stack (length c.askers) (sym n)) (each_take (Reps w g μ.nodes) (length c.askers) as₁ as₂ rs));
    stack = subst (λ (l : List ℕ). Each (Reps w g μ.nodes) l c'.stack) (drop_at c.askers c.stack (length c.askers) refl)
        (subst (λ (l : List ℕ). Each (Reps w g μ.nodes) (drop (length c.askers) as₁) l) (drop_at c'.askers c'.stack (length c.askers) (sym n)) (each-drop (Reps w g μ.nodes) (length c.askers) as₁ as₂ rs));
  };
}
  where
    as₁ : List ℕ
    as₁ = c.askers ++ c.stack

    as₂ : List ℕ
    as₂ = c'.askers ++ c'.stack

    l : List ℕ
    l = reach g (c.value ∷ as₁)

    l' : List ℕ
    l' = reach μ.nodes (c'.value ∷ as₂)

    P₁ : ℕ → Type 0
    P₁ x = x < length g

    X₁ : ℕ → Type 0
    X₁ x = (x < length g) × NotFwd (node g x)

    P₂ : ℕ → Type 0
    P₂ x = Memᴰ x own

    X₂ : ℕ → Type 0
    X₂ x = Memᴰ x l'

    Y : Rooted g P₁ X₁ (c.value ∷ as₁)
    Y = good-rooted G (c.value ∷ as₁) ins

    q : copy (record { graph = g; value = c.value; askers = as₁ }) ≡ copy (record { graph = μ.nodes; value = c'.value; askers = as₂ })
    q = ap (λ (z : Comp × ℕ). z.0) e

    n : length c.askers ≡ length c'.askers
    n = ap (λ (z : Comp × ℕ). z.1) e

    T₁ : ℕ → ℕ → Type 0
    T₁ = Together g μ.nodes P₁ X₁ P₂ X₂ c.value c'.value as₁ as₂ Y Z.rooted q

    A : Alike T₁ P₁ P₂ g μ.nodes
    A = same_alike g μ.nodes P₁ X₁ P₂ X₂ c.value c'.value as₁ as₂ Y Z.rooted q

    r : Each (Rep T₁ P₁ P₂ g μ.nodes) (c.value ∷ as₁) (c'.value ∷ as₂)
    r = same-roots g μ.nodes P₁ X₁ P₂ X₂ c.value c'.value as₁ as₂ Y Z.rooted q

    w : World
    w = record { φ = map (paired l l') (up_from 0 (length g)); owned = own }

    size : length w.φ ≡ length g
    size = length-map (up_from 0 (length g)) (paired l l') ∙ up_from-length (length g) 0

    at-h : (h : ℕ) → h < length g → get_or w.φ h none ≡ paired l l' h
    at-h h p = map_at (paired l l') none (up_from 0 (length g)) h (rw (up_from-length (length g) 0) p) ∙ ap (paired l l') (up_from-at (length g) 0 h p ∙ zero-add h)

    same_size : length l ≡ length l'
    same_size = sym (gc-length g P₁ X₁ (c.value ∷ as₁) Y) ∙ ap length (graphs g μ.nodes P₁ X₁ P₂ X₂ c.value c'.value as₁ as₂ Y Z.rooted q) ∙ gc-length μ.nodes P₂ X₂ (c'.value ∷ as₂) Z.rooted

    to : (h k : ℕ) → T₁ h k → Rel w h k
    to h k (i, (p, a), (p', b)) =
        let m : Memᴰ h l = subst (λ (z : ℕ). Memᴰ z l) a (mem-at l i p) in
        let d = index_of-mem h l m in
        let j : d.0 ≡ i = distinct-at l (swept g P₁ X₁ (c.value ∷ as₁) Y).distinct d.0 i d.2 p (d.3 ∙ sym a) in
        at-h h (A.left h k (i, (p, a), (p', b))) ∙ paired_at l l' h d.0 d.1 ∙ ap some (ap (λ (z : ℕ). get_or l' z 0) j ∙ b)

    from : (h k : ℕ) → Rel w h k → T₁ h k
    from h k u = go (dec_lt h (length g))
      where
        go : Dec (h < length g) → T₁ h k
        go (yes p) = let d = paired-some l l' h k (sym (at-h h p) ∙ u) in let i = d.1 in let s = same_size in (d.0, (d.1, d.2), (omega arith, d.3))
        go (no p) =
            let z₁ = size in
            let v : ◌≡◌ {A = Option ℕ} none (some k) = sym (get_or-eq_default w.φ none (omega arith)) ∙ u in
            let z : ◌≡◌ {A = ℕ} 0 1 = cc in absurd (omega arith)

    to_p : (x : ℕ) → x < length g → x < length w.φ
    to_p x p = rw size p

    again : Wider T₁ (Rel w) P₁ (Dom w) P₂ (Ours w) g g μ.nodes μ.nodes
    again = record { same = to; left = to_p; right = λ x o. o; left-node = λ x p. refl; right-node = λ x o. refl }

    rs : Each (Reps w g μ.nodes) as₁ as₂
    rs = each_keep again as₁ as₂ r.1
