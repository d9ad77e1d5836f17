-- What pour_copy gives, in the shape its two ends need it.
-- Assumes nothing.
use Prim.Native.Nat.{ℕ, ◌+◌, ◌-◌, ◌*◌, ◌≤◌, ◌<◌}
use native.Mathlib.Omega.{arith}
use mathlib.Core.Path.{◌≡◌, refl, ap, ◌∙◌}
use Rattle.std.specs.Prelude.{Some, None}
use mathlib.Core.List.{List, map}
use lib.ListN.{length}
use lib.Seq.{length-take-le}
use Rattle.mem.specs.Words.{words}
use Rattle.heap.specs.Graph.{Graph, node, reach}
use Rattle.heap.specs.Build.{up_from}
use Rattle.heap.proofs.Laws.Pour.{laid-other}
use Rattle.store.specs.Regions.{graph_of, places_of}
use Rattle.store.specs.Roots.{roots_of}
use Rattle.store.specs.declared.Roots.{Roots}
use Rattle.copier.specs.Listed.{seen_in, Lists, cleared}
use Rattle.copier.specs.Poured.{placed, copied, laid_from, Emitted, Placed, Walkable, given, PouredTo}
use Rattle.copier.proofs.Listing.{kept_then}
use Rattle.copier.proofs.Pours.{up_from-from, pours-none, pours-some, pours-clean}

pub some-roots : (hs : Roots) → (1 ≤ hs.n) × (hs.n ≤ 9) → length hs.at ≡ 9 → 1 ≤ length (roots_of hs)
some-roots hs n nine =
    let a = n.0 in
    let b = n.1 in
    let e = length-take-le hs.n hs.at (omega arith) in
    omega arith

module _ (L made count : ℕ) {s s₁ : List ℕ} (hs : Roots) (room : 16 * L ≤ length (words s)) (below : made ≤ L) (n : (1 ≤ hs.n) × (hs.n ≤ 9)) (nine : length hs.at ≡ 9) (W : Walkable (graph_of L s) made (roots_of hs)) (A : Lists L s s₁ (reach (graph_of L s) (roots_of hs)) count) where
  some-hs : 1 ≤ length (roots_of hs)
  some-hs = some-roots hs n nine

  pub done_none : {s₂ : List ℕ} → L - made < count → Placed L s₁ s₂ (cleared (seen_in L count s₁) (places_of L s₁)) → PouredTo L made hs s s₂ None
  unfolding given
  done_none p C = record {
    is = pours-none L made count room (roots_of hs) some-hs W A p;
    stays = C.graph ∙ A.graph;
    before = λ x q. ap (λ (g : Graph). node g x) (C.graph ∙ A.graph);
    more = tt;
    same = tt;
    clean = pours-clean L made count room (roots_of hs) some-hs W A refl refl C;
    kept = kept_then A.kept C.kept;
  }

  pub done-some : {s₂ s₃ : List ℕ} (rs : Roots) → count ≤ L - made → roots_of rs ≡ map (placed L made s₁) (roots_of hs) → rs.n ≡ hs.n → Emitted L s₁ s₂ (laid_from made (graph_of L s₁) (seen_in L count s₁)) → Placed L s₂ s₃ (cleared (seen_in L count s₂) (places_of L s₂))
      → PouredTo L made hs s s₃ (Some (record { made = made + count; roots = rs }))
  unfolding given
  done-some {s₂} {s₃} rs p k e B C = record {
    is = pours-some L made count room (roots_of hs) some-hs W A (omega arith) s₃ (C.graph ∙ B.is) (roots_of rs) k;
    stays = tt;
    before = λ x q. ap (λ (g : Graph). node g x) (C.graph ∙ B.is) ∙ laid-other (up_from made (length l)) (copied g₁ l) (up_from made (length l)) g₁ x (λ m. (let u = up_from-from (length l) made x m in omega arith)) ∙ ap (λ (g : Graph). node g x) A.graph;
    more = (omega arith, omega arith);
    same = e;
    clean = pours-clean L made count room (roots_of hs) some-hs W A B.list B.places C;
    kept = kept_then A.kept (kept_then B.kept C.kept);
  }
    where
      l : List ℕ
      l = seen_in L count s₁

      g₁ : Graph
      g₁ = graph_of L s₁
