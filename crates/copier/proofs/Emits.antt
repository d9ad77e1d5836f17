-- Laws of the copy written: nodes below `made` stay, so handles end where they did; the new numbers; a node of the copy after the other.
-- Assumes nothing.
use Prim.Native.Nat.{ℕ, suc, ◌+◌, ◌-◌, ◌*◌, ◌≤◌, ◌<◌}
use native.Mathlib.Omega.{arith}
use native.Mathlib.Numerals.{add-one}
use mathlib.Core.Path.{◌≡◌, refl, sym, ap, ◌∙◌, subst}
use mathlib.Core.List.{List, [], ◌∷◌, map, Memᴰ}
use lib.ListN.{length, get_or, drop, set, length-map, drop_of_length-le}
use lib.Seq.{get_or-take, get_or-set_other, drop-cons}
use Rattle.mem.specs.Words.{words}
use Rattle.heap.specs.Graph.{Graph, Node, cell, var, fwd, node, follow, args, named, renamed}
use Rattle.heap.specs.Build.{up_from}
use Rattle.heap.specs.Place.{Leads}
use Rattle.heap.specs.Store.{moved, laid}
use Rattle.heap.proofs.Laws.Alike.{leads-follow, leads-keep}
use Rattle.heap.proofs.Laws.Numbers.{up_from-at, up_from-length}
use Rattle.heap.proofs.Laws.Reach.{mem-at, map_at}
use Rattle.store.specs.Regions.{graph_of, list_of, places_of, Memory, Did, set_node}
use Rattle.copier.specs.Listed.{seen_in, Listed, Kept}
use Rattle.copier.specs.Poured.{placed, Spots, Copies, renumbered, Closed, copied, laid_from, Emitted}
use Rattle.copier.proofs.Sights.{place-mem}
use Rattle.copier.proofs.Listing.{kept_then, length_seen}

pub map-two : (f g h : ℕ → ℕ) (l : List ℕ) → ((x : ℕ) → Memᴰ x l → f x ≡ g (h x)) → map f l ≡ map g (map h l)
map-two f g h [] e = refl
map-two f g h (x ∷ l) e = λ i. e x (Memᴰ.head refl) i ∷ map-two f g h l (λ y m. e y (Memᴰ.tail m)) i

-- a memory with the list and the places of s₀, and its nodes below `made`
pub record Like (L made : ℕ) (s₀ s : List ℕ) : Type 0 where
  pub old : (x : ℕ) → x < made → node (graph_of L s) x ≡ node (graph_of L s₀) x
  pub list : list_of L s ≡ list_of L s₀
  pub places : places_of L s ≡ places_of L s₀

pub like-refl : (L made : ℕ) (s : List ℕ) → Like L made s s
like-refl L made s = record { old = λ x p. refl; list = refl; places = refl }

-- handles whose forwards are made end where they did
pub follow-like : {L made : ℕ} {s₀ s : List ℕ} → Like L made s₀ s → (h : ℕ) → Leads (λ y. y < made) (graph_of L s₀) (follow (graph_of L s₀) h) h → follow (graph_of L s) h ≡ follow (graph_of L s₀) h
follow-like {L} {made} {s₀} {s} k h l = leads-follow (λ y. y < made) (graph_of L s) (follow (graph_of L s₀) h) (leads-keep (graph_of L s) (λ x p. p) k.old l)

module _ (L made count : ℕ) (s₀ s : List ℕ) (D : Listed L count s₀) (room : 16 * L ≤ length (words s₀)) (k : Like L made s₀ s) where
  abbrev l : List ℕ
  l = seen_in L count s₀

  abbrev g : Graph
  g = graph_of L s₀

  abbrev ks : List ℕ
  ks = up_from made (length l)

  -- the place word of a handle that ends at a node seen
  pub place-word : (h : ℕ) → follow (graph_of L s) h ≡ follow g h → Memᴰ (follow g h) l → (get_or (places_of L s) (follow (graph_of L s) h) 0 ≡ suc (named g l h)) × (named g l h < length l)
  unfolding named
  place-word h e m =
      let r = place-mem l (follow g h) m in
      let q = r.1 in
      let n : named g l h ≡ r.0 = rw (q, named) in
      (ap (λ (x : ℕ). get_or (places_of L s) x 0) e ∙ ap (λ (p : List ℕ). get_or p (follow g h) 0) k.places ∙ D.places (follow g h) (D.below (follow g h) m) ∙ r.2 ∙ ap suc (sym n), rw n r.3)

  -- its new number
  pub placed-is : (h : ℕ) → follow (graph_of L s) h ≡ follow g h → Memᴰ (follow g h) l → placed L made s h ≡ get_or ks (named g l h) 0
  unfolding placed
  placed-is h e m =
      let r = place-word h e m in
      let a : get_or (places_of L s) (follow (graph_of L s) h) 0 - 1 ≡ named g l h = let u = r.0 in omega arith in
      ap (λ (x : ℕ). made + x) a ∙ sym (up_from-at (length l) made (named g l h) r.1)

  pub spots-are : made + count ≤ L → (hs : List ℕ) → ((h : ℕ) → Memᴰ h hs → (follow (graph_of L s) h ≡ follow g h) × Memᴰ (follow g h) l) → Spots L made s hs
  spots-are fits hs f h w =
      let a = f h w in
      let r = place-word h a.0 a.1 in
      let r₀ = r.0 in
      let r₁ = r.1 in
      let c = length_seen L s₀ room count D.fits in
      let b = D.below (follow g h) a.1 in
      (rw a.0 b, omega arith, omega arith)

  module _ (C : Closed g made l) (i : ℕ) (p : i < count) where
    inl' : i < length l
    inl' = let c = length_seen L s₀ room count D.fits in omega arith

    at-list : get_or (list_of L s) i 0 ≡ get_or l i 0
    at-list = ap (λ (m : List ℕ). get_or m i 0) k.list ∙ sym (get_or-take count (list_of L s₀) i 0 p)

    same : node (graph_of L s) (get_or (list_of L s) i 0) ≡ node g (get_or l i 0)
    same = ap (node (graph_of L s)) at-list ∙ k.old (get_or l i 0) (C.inside (get_or l i 0) (mem-at l i inl'))

    under : (h : ℕ) → Memᴰ h (args (node g (get_or l i 0))) → (follow (graph_of L s) h ≡ follow g h) × Memᴰ (follow g h) l
    under h w = let r = C.under (get_or l i 0) h (mem-at l i inl') w in (follow-like k h r.1, r.0)

    -- node i of the list can be copied to its number
    pub emit-copies : made + count ≤ L → Copies L made (get_or (list_of L s) i 0) (made + i) s
    emit-copies fits =
        let there : (h : ℕ) → Memᴰ h (args (node (graph_of L s) (get_or (list_of L s) i 0))) → Memᴰ h (args (node g (get_or l i 0))) = λ h w. subst (λ (z : Node). Memᴰ h (args z)) same w in
        record {
          inside = rw at-list (C.inside (get_or l i 0) (mem-at l i inl'));
          beyond = omega arith;
          fits = omega arith;
          spots = spots-are fits (args (node (graph_of L s) (get_or (list_of L s) i 0))) (λ h w. under h (there h w));
          leads = λ h w. (let r = (C.under (get_or l i 0) h (mem-at l i inl') (there h w)).1 in subst (λ (e : ℕ). Leads (λ y. y < made) (graph_of L s) e h) (sym (follow-like k h r)) (leads-keep (graph_of L s) (λ x p. p) k.old r));
        }

    -- the node written is the copy's, at its number
    pub emit-is : renumbered (placed L made s) (node (graph_of L s) (get_or (list_of L s) i 0)) ≡ moved ks (renamed g l (node g (get_or l i 0)))
    unfolding renumbered moved renamed args
    emit-is = ap (renumbered (placed L made s)) same ∙ go (node g (get_or l i 0)) refl
      where
        go : (z : Node) → node g (get_or l i 0) ≡ z → renumbered (placed L made s) z ≡ moved ks (renamed g l z)
        go (cell y hs) e = ap (cell y) (map-two (placed L made s) (λ h. get_or ks h 0) (named g l) hs (λ h w. (let r = under h (rw e w) in placed-is h r.0 r.1)))
        go var e = refl
        go (fwd t) e = refl

-- on the way: the rest of the copy laid down gives all of it
pub record Emits (L made : ℕ) (s₀ s : List ℕ) (l : List ℕ) (i : ℕ) : Type 0 where
  pub is : laid (up_from made (length l)) (drop i (copied (graph_of L s₀) l)) (drop i (up_from made (length l))) (graph_of L s) ≡ laid_from made (graph_of L s₀) l
  pub like : Like L made s₀ s
  pub kept : Kept L s₀ s

pub emits-step : (L made count i : ℕ) {s₀ s s' : List ℕ} → 16 * L ≤ length (words s₀) → Listed L count s₀ → Closed (graph_of L s₀) made (seen_in L count s₀) → i < count → Emits L made s₀ s (seen_in L count s₀) i
    → Did L s s' (set_node (made + i) (renumbered (placed L made s) (node (graph_of L s) (get_or (list_of L s) i 0)))) → Emits L made s₀ s' (seen_in L count s₀) (i + 1)
unfolding laid
emits-step L made count i {s₀} {s} {s'} room D C p o d =
    let l : List ℕ = seen_in L count s₀ in
    let g : Graph = graph_of L s₀ in
    let ks : List ℕ = up_from made (length l) in
    let c = length_seen L s₀ room count D.fits in
    let i₁ : i < length l = omega arith in
    let i₂ : i < length ks = rw (up_from-length (length l) made) i₁ in
    let i₃ : i < length (copied g l) = rw (length-map l (λ k. renamed g l (node g k))) i₁ in
    let y : Node = renumbered (placed L made s) (node (graph_of L s) (get_or (list_of L s) i 0)) in
    let a : graph_of L s' ≡ set (graph_of L s) (made + i) y = ap (λ (m : Memory). m.graph) d.is in
    let b : y ≡ moved ks (renamed g l (node g (get_or l i 0))) = emit-is L made count s₀ s D room o.like C i p in
    let e₁ : drop i (copied g l) ≡ renamed g l (node g (get_or l i 0)) ∷ drop (i + 1) (copied g l) =
    drop-cons (copied g l) i var i₃ ∙ ap (λ (z : Node). z ∷ drop (suc i) (copied g l)) (map_at (λ k. renamed g l (node g k)) var l i i₁) ∙ ap (λ (j : ℕ). renamed g l (node g (get_or l i 0)) ∷ drop j (copied g l)) (sym (add-one i)) in
    let e₂ : drop i ks ≡ (made + i) ∷ drop (i + 1) ks = drop-cons ks i 0 i₂ ∙ ap (λ (z : ℕ). z ∷ drop (suc i) ks) (up_from-at (length l) made i i₁) ∙ ap (λ (j : ℕ). (made + i) ∷ drop j ks) (sym (add-one i)) in
    record {
      is = ap (laid ks (drop (i + 1) (copied g l)) (drop (i + 1) ks)) (a ∙ ap (set (graph_of L s) (made + i)) b) ∙ sym (ap (λ (z : List Node). laid ks z (drop i ks) (graph_of L s)) e₁ ∙ ap (λ (z : List ℕ). laid ks (renamed g l (node g (get_or l i 0)) ∷ drop (i + 1) (copied g l)) z (graph_of L s)) e₂) ∙ o.is;
      like = record {
        old = λ x q. ap (λ (z : Graph). node z x) a ∙ get_or-set_other (graph_of L s) (made + i) x y var (omega arith) ∙ o.like.old x q;
        list = ap (λ (m : Memory). m.list) d.is ∙ o.like.list;
        places = ap (λ (m : Memory). m.places) d.is ∙ o.like.places;
      };
      kept = kept_then o.kept (record { marks = ap (λ (m : Memory). m.marks) d.is; links = ap (λ (m : Memory). m.links) d.is; frames = ap (λ (m : Memory). m.frames) d.is; rest = ap (λ (m : Memory). m.rest) d.is; long = d.long });
    }

pub emits-end : (L made i : ℕ) {s₀ s : List ℕ} (l : List ℕ) → Emits L made s₀ s l i → length l ≤ i → Emitted L s₀ s (laid_from made (graph_of L s₀) l)
unfolding laid
emits-end L made i {s₀} {s} l o p =
    let e : drop i (copied (graph_of L s₀) l) ≡ [] = drop_of_length-le (copied (graph_of L s₀) l) {i = i} (rw (length-map l (λ k. renamed (graph_of L s₀) l (node (graph_of L s₀) k))) p) in
    record {
      is = sym (ap (λ (z : List Node). laid (up_from made (length l)) z (drop i (up_from made (length l))) (graph_of L s)) e) ∙ o.is;
      list = o.like.list;
      places = o.like.places;
      kept = o.kept;
    }
