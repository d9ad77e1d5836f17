-- Laws of the list in the memory: what stays, a node seen, handles seen one by one, the sweep, the place words set back.
-- Assumes nothing.
use Prim.Native.Nat.{ℕ, suc, ◌+◌, ◌-◌, ◌*◌, ◌≤◌, ◌<◌}
use native.Mathlib.Omega.{arith}
use native.Mathlib.Decide.{ℕ_discrete}
use native.Mathlib.Numerals.{add-one}
use mathlib.Core.Path.{◌≡◌, refl, sym, ap, ◌∙◌, subst}
use mathlib.Core.Logic.{◌⊎◌, inl, inr}
use mathlib.Core.List.Memᴰ
use mathlib.Core.List.{List, [], ◌∷◌, ◌++◌, Memᴰ}
use lib.ListN.{length, get_or, drop, set, replicate, length-set, length-append, length-replicate, get_or-replicate, drop_of_length-le}
use lib.Seq.{length-take-le, take-suc-set, drop-cons, get_or-set_same, get_or-set_other, ext_get_or}
use Rattle.mem.specs.Words.{words}
use Rattle.heap.specs.Graph.{Graph, node, follow, args, sight, sweep, reach}
use Rattle.heap.specs.Place.{Distinct}
use Rattle.heap.proofs.Laws.Few.{few}
use Rattle.heap.proofs.Laws.Shape.{sight-distinct, sweep-done}
use Rattle.heap.proofs.Laws.Reach.{mem-at}
use Rattle.store.specs.Regions.{graph_of, list_of, places_of, Memory, Did, set_list, set_place}
use Rattle.store.proofs.Laws.{length-graph}
use Rattle.store.proofs.Writes.{did_then, length-list, length-places}
use Rattle.copier.specs.Listed.{seen_in, Clean, Below, place_in, Listed, Kept, Ends, Lists, Saw, Solid, cleared}
use Rattle.copier.proofs.Sights.{sight-cons, sight-old, sight-new, sweep-step, sweep-keeps, place_none, place-new, place_other}

pub kept_refl : (L : ℕ) (s : List ℕ) → Kept L s s
kept_refl L s = record { marks = refl; links = refl; frames = refl; rest = refl; long = refl }

pub kept_then : {L : ℕ} {s s' s'' : List ℕ} → Kept L s s' → Kept L s' s'' → Kept L s s''
kept_then a b = record { marks = b.marks ∙ a.marks; links = b.links ∙ a.links; frames = b.frames ∙ a.frames; rest = b.rest ∙ a.rest; long = b.long ∙ a.long }

module _ (L : ℕ) (s : List ℕ) (room : 16 * L ≤ length (words s)) where
  pub length_seen : (k : ℕ) → k ≤ L → length (seen_in L k s) ≡ k
  length_seen k h = let e = length-list L s room in length-take-le k (list_of L s) (omega arith)

  -- a node without a place: there is room for it
  module _ {k : ℕ} (D : Listed L k s) (h n p : ℕ) (e : n ≡ follow (graph_of L s) h) (lt : n < L) (w : p ≡ get_or (places_of L s) n 0) where
    abbrev g : Graph
    g = graph_of L s

    abbrev l : List ℕ
    l = seen_in L k s

    word : place_in l (follow g h) ≡ p
    word = ap (place_in l) (sym e) ∙ sym (D.places n lt) ∙ sym w

    pub see-old : 0 < p → Saw L k (h ∷ []) s s k
    see-old q = record { is = sym (sight-old g l h (rw word q)); listed = D; graph = refl; kept = kept_refl L s }

    module _ (z : p ≤ 0) where
      fresh : sight g l (h ∷ []) ≡ l ++ n ∷ []
      fresh = sight-new g l h (word ∙ omega arith) ∙ ap (λ (x : ℕ). l ++ x ∷ []) (sym e)

      apart : Distinct (l ++ n ∷ [])
      apart = subst Distinct fresh (sight-distinct g l (h ∷ []) D.distinct)

      under : Below L (l ++ n ∷ [])
      under x m = go (Memᴰ.append_cases l m)
        where
          go : Memᴰ x l ⊎ Memᴰ x (n ∷ []) → x < L
          go (inl m) = D.below x m
          go (inr m) = rw (Memᴰ.eq_of_singleton m) lt

      pub see-room : k < L
      see-room =
          let a = few L (l ++ n ∷ []) apart under in
          let b = length-append l (n ∷ []) in
          let c = length_seen k D.fits in
          omega arith

      pub see-new : {s₁ s₂ : List ℕ} → Did L s s₁ (set_list k n) → Did L s₁ s₂ (set_place n (k + 1)) → Saw L k (h ∷ []) s s₂ (k + 1)
      see-new {s₁} {s₂} a b =
          let d = did_then a b in
          let room' : k < length (list_of L s) = rw (length-list L s room) see-room in
          let listed : list_of L s₂ ≡ set (list_of L s) k n = ap (λ (m : Memory). m.list) d.is in
          let places : places_of L s₂ ≡ set (places_of L s) n (k + 1) = ap (λ (m : Memory). m.places) d.is in
          let now : seen_in L (k + 1) s₂ ≡ l ++ n ∷ [] = rw (listed, add-one) (take-suc-set (list_of L s) k n room') in
          record {
            is = now ∙ sym fresh;
            listed = record {
              fits = let q = see-room in omega arith;
              distinct = subst Distinct (sym now) apart;
              below = subst (Below L) (sym now) under;
              places = λ x q. ap (λ (p : List ℕ). get_or p x 0) places ∙ at_x x q (ℕ_discrete x n) ∙ ap (λ (m : List ℕ). place_in m x) (sym now);
            };
            graph = ap (λ (m : Memory). m.graph) d.is;
            kept = record { marks = ap (λ (m : Memory). m.marks) d.is; links = ap (λ (m : Memory). m.links) d.is; frames = ap (λ (m : Memory). m.frames) d.is; rest = ap (λ (m : Memory). m.rest) d.is; long = d.long };
          }
        where
          at_x : (x : ℕ) → x < L → Dec (x ≡ n) → get_or (set (places_of L s) n (k + 1)) x 0 ≡ place_in (l ++ n ∷ []) x
          at_x x q (yes u) =
              let c = length_seen k D.fits in
              let lt' : n < length (places_of L s) = rw (length-places L s room) lt in
              rw u (get_or-set_same (places_of L s) n (k + 1) 0 lt' ∙ add-one k ∙ ap suc (sym c) ∙ sym (place-new l n apart))
          at_x x q (no u) = get_or-set_other (places_of L s) n x (k + 1) 0 u ∙ D.places x q ∙ sym (place_other l n apart x u)

-- nothing seen yet
pub listed-none : (L : ℕ) (s : List ℕ) → Clean L s → Listed L 0 s
unfolding place_in
listed-none L s c = record { fits = omega arith; distinct = tt; below = λ x m. absurd (Memᴰ.not-nil m); places = λ x q. ap (λ (p : List ℕ). get_or p x 0) c ∙ get_or-replicate L x 0 0 q ∙ sym (place_none [] x (λ m. Memᴰ.not-nil m)) }

-- a walk on the way: from what is listed now, f gives the list that is due
pub record Owes (L : ℕ) (s s' : List ℕ) (due : List ℕ) (k : ℕ) (f : List ℕ → List ℕ) : Type 0 where
  pub is : f (seen_in L k s') ≡ due
  pub listed : Listed L k s'
  pub graph : graph_of L s' ≡ graph_of L s
  pub kept : Kept L s s'

module _ {L : ℕ} {s₀ s s' : List ℕ} {due : List ℕ} where
  -- handles one by one
  pub owes-sight : (k j r : ℕ) (hs : List ℕ) → Owes L s₀ s due k (λ l. sight (graph_of L s₀) l (drop j hs)) → j < length hs → Saw L k (get_or hs j 0 ∷ []) s s' r → Owes L s₀ s' due r (λ l. sight (graph_of L s₀) l (drop (j + 1) hs))
  owes-sight k j r hs o p w =
      let e : seen_in L r s' ≡ sight (graph_of L s₀) (seen_in L k s) (get_or hs j 0 ∷ []) = w.is ∙ ap (λ (g : Graph). sight g (seen_in L k s) (get_or hs j 0 ∷ [])) o.graph in
      record {
        is = ap (λ (l : List ℕ). sight (graph_of L s₀) l (drop (j + 1) hs)) e ∙ sym (sight-cons (graph_of L s₀) (seen_in L k s) (get_or hs j 0) (drop (j + 1) hs))
            ∙ ap (sight (graph_of L s₀) (seen_in L k s)) (ap (λ (i : ℕ). get_or hs j 0 ∷ drop i hs) (add-one j) ∙ sym (drop-cons hs j 0 p)) ∙ o.is;
        listed = w.listed;
        graph = w.graph ∙ o.graph;
        kept = kept_then o.kept w.kept;
      }

  -- a node of the list after the other
  pub owes-sweep : (k i r : ℕ) → 16 * L ≤ length (words s) → Owes L s₀ s due k (λ l. sweep (L - i) (graph_of L s₀) i l) → i < k → Saw L k (args (node (graph_of L s) (get_or (seen_in L k s) i 0))) s s' r → Owes L s₀ s' due r (λ l. sweep (L - (i + 1)) (graph_of L s₀) (i + 1) l)
  owes-sweep k i r room o p w =
      let fits = o.listed.fits in
      let c = length_seen L s room k fits in
      let e : seen_in L r s' ≡ sight (graph_of L s₀) (seen_in L k s) (args (node (graph_of L s₀) (get_or (seen_in L k s) i 0))) = w.is ∙ ap (λ (g : Graph). sight g (seen_in L k s) (args (node g (get_or (seen_in L k s) i 0)))) o.graph in
      record {
        is = ap (λ (l : List ℕ). sweep (L - (i + 1)) (graph_of L s₀) (i + 1) l) e ∙ sym (sweep-step (graph_of L s₀) L i (seen_in L k s) (omega arith) (omega arith)) ∙ o.is;
        listed = w.listed;
        graph = w.graph ∙ o.graph;
        kept = kept_then o.kept w.kept;
      }

pub owes-sight-end : {L : ℕ} {s₀ s : List ℕ} {due : List ℕ} (k j : ℕ) (hs : List ℕ) → Owes L s₀ s due k (λ l. sight (graph_of L s₀) l (drop j hs)) → length hs ≤ j → Lists L s₀ s due k
unfolding sight
owes-sight-end {L} {s₀} {s} k j hs o p = record { is = sym (ap (sight (graph_of L s₀) (seen_in L k s)) (drop_of_length-le hs p)) ∙ o.is; listed = o.listed; graph = o.graph; kept = o.kept }

pub owes-sweep-end : {L : ℕ} {s₀ s : List ℕ} {due : List ℕ} (k i : ℕ) → 16 * L ≤ length (words s) → Owes L s₀ s due k (λ l. sweep (L - i) (graph_of L s₀) i l) → k ≤ i → Lists L s₀ s due k
owes-sweep-end {L} {s₀} {s} k i room o p =
    let c = length_seen L s room k o.listed.fits in
    record { is = sym (sweep-done (L - i) (graph_of L s₀) i (seen_in L k s) (omega arith)) ∙ o.is; listed = o.listed; graph = o.graph; kept = o.kept }

-- the arguments of node i of the list end in the memory
pub owes-ends : {L : ℕ} {s₀ s : List ℕ} {due : List ℕ} (k i : ℕ) → 16 * L ≤ length (words s) → Owes L s₀ s due k (λ l. sweep (L - i) (graph_of L s₀) i l) → i < k → Solid L (graph_of L s₀) due
    → Ends L (graph_of L s) (args (node (graph_of L s) (get_or (seen_in L k s) i 0)))
owes-ends {L} {s₀} {s} k i room o p z =
    let c = length_seen L s room k o.listed.fits in
    let m = mem-at (seen_in L k s) i (omega arith) in
    let m' = subst (Memᴰ (get_or (seen_in L k s) i 0)) o.is (sweep-keeps (graph_of L s₀) (L - i) i (seen_in L k s) (get_or (seen_in L k s) i 0) m) in
    subst (λ (g : Graph). Ends L g (args (node g (get_or (seen_in L k s) i 0)))) (sym o.graph) (z (get_or (seen_in L k s) i 0) m')

-- what is reachable: the handles seen, then what is under them
pub reached : {L : ℕ} {s s₁ s₂ : List ℕ} (n r : ℕ) (hs : List ℕ) → Saw L 0 hs s s₁ n → Lists L s₁ s₂ (sweep L (graph_of L s₁) 0 (seen_in L n s₁)) r → Lists L s s₂ (reach (graph_of L s) hs) r
unfolding reach
reached {L} {s} {s₁} n r hs a b = record {
  is = b.is ∙ ap (λ (g : Graph). sweep L g 0 (seen_in L n s₁)) a.graph ∙ ap (sweep L (graph_of L s) 0) a.is ∙ ap (λ (f : ℕ). sweep f (graph_of L s) 0 (sight (graph_of L s) [] hs)) (sym (length-graph L s));
  listed = b.listed;
  graph = b.graph ∙ a.graph;
  kept = kept_then a.kept b.kept;
}

pub reach-solid : {L : ℕ} {s s₁ : List ℕ} (n : ℕ) (hs : List ℕ) → Saw L 0 hs s s₁ n → Solid L (graph_of L s) (reach (graph_of L s) hs) → Solid L (graph_of L s₁) (sweep L (graph_of L s₁) 0 (seen_in L n s₁))
unfolding reach
reach-solid {L} {s} {s₁} n hs a z =
    let e : sweep L (graph_of L s) 0 (seen_in L n s₁) ≡ reach (graph_of L s) hs = ap (sweep L (graph_of L s) 0) a.is ∙ ap (λ (f : ℕ). sweep f (graph_of L s) 0 (sight (graph_of L s) [] hs)) (sym (length-graph L s)) in
    subst (λ (g : Graph). Solid L g (sweep L g 0 (seen_in L n s₁))) (sym a.graph) (subst (Solid L (graph_of L s)) (sym e) z)

-- the place words set back: those of other nodes stay
pub cleared-length : (l p : List ℕ) → length (cleared l p) ≡ length p
unfolding cleared
cleared-length [] p = refl
cleared-length (x ∷ l) p = cleared-length l (set p x 0) ∙ length-set p x 0

cleared-zero : (l p : List ℕ) (x : ℕ) → (¬ (Memᴰ x l) → get_or p x 0 ≡ 0) → x < length p → get_or (cleared l p) x 0 ≡ 0
unfolding cleared
cleared-zero [] p x f q = f (λ m. Memᴰ.not-nil m)
cleared-zero (y ∷ l) p x f q = cleared-zero l (set p y 0) x (λ n. go n (ℕ_discrete x y)) (rw (length-set p y 0) q)
  where
    go : ¬ (Memᴰ x l) → Dec (x ≡ y) → get_or (set p y 0) x 0 ≡ 0
    go n (yes e) = rw (sym e) (get_or-set_same p x 0 0 q)
    go n (no e) = get_or-set_other p y x 0 0 e ∙ f (λ m. cases (Memᴰ.cases_cons m))
      where
        cases : (x ≡ y) ⊎ Memᴰ x l → ⊥
        cases (inl u) = e u
        cases (inr u) = n u

pub cleared-all : {L k : ℕ} {s : List ℕ} → 16 * L ≤ length (words s) → Listed L k s → cleared (seen_in L k s) (places_of L s) ≡ replicate L 0
cleared-all {L} {k} {s} room D =
    let e = cleared-length (seen_in L k s) (places_of L s) in
    let f = length-places L s room in
    ext_get_or 0 (cleared (seen_in L k s) (places_of L s)) (replicate L 0) (e ∙ f ∙ sym (length-replicate L 0))
    (λ x q. cleared-zero (seen_in L k s) (places_of L s) x (λ n. D.places x (omega arith) ∙ place_none (seen_in L k s) x n) (omega arith) ∙ sym (get_or-replicate L x 0 0 (omega arith)))
