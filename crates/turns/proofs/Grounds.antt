-- The part of the store that is searched for a computation that stands there.
-- Here, in order: numbers that are made; the part; what a search for the front relies on; what it leaves.
-- Assumes nothing.
use Prim.Native.Nat.{ℕ, zero, suc, ◌+◌, ◌-◌, ◌≤◌, ◌<◌}
use native.Mathlib.Omega.{arith}
use mathlib.Core.Path.{◌≡◌, refl, sym, subst}
use mathlib.Core.Bool.{Bool, true, false}
use mathlib.Core.List.{List, ◌∷◌, Memᴰ}
use lib.Dec.{ltb}
use borrow.Author.Tests.{ltb-true, ltb-false}
use Rattle.book.specs.Syntax.{Symbol}
use Rattle.heap.specs.Graph.{Graph}
use Rattle.heap.specs.Build.{up_from}
use Rattle.heap.proofs.Laws.Good.{Good}
use Rattle.engine.specs.Machine as m
use Rattle.standing.specs.Stands.{Stands, Ours}
use Rattle.standing.specs.Part.{roots_of}
use Rattle.standing.proofs.Walks.{stands-part}
use Rattle.store.specs.Regions.{graph_of, marks_of, links_of, store_of}
use Rattle.store.proofs.Laws.{length-graph}
use Rattle.alternatives.proofs.Steps.{nodes-are}
use Rattle.seek.specs.Path.{Closed, Resumes}
use Rattle.seek.specs.Search.{Ground}
use Rattle.turns.specs.Front.{Searched}

mem_up : (w a y : ℕ) → a ≤ y → y < a + w → Memᴰ y (up_from a w)
unfolding up_from
mem_up zero a y p q = absurd (omega arith)
mem_up (suc w) a y p q = at (ltb a y) refl (λ p'. mem_up w (suc a) y p' (omega arith))
  where
    at : (b : Bool) → ltb a y ≡ b → (suc a ≤ y → Memᴰ y (up_from (suc a) w)) → Memᴰ y (a ∷ up_from (suc a) w)
    at true t ih = Memᴰ.tail (ih (ltb-true a y t))
    at false t ih = let u = ltb-false a y t in let q : y ≡ a = omega arith in Memᴰ.head q

-- a number that is not free is below those that are
pub below-made : (L made x : ℕ) → x < L → ¬ (Memᴰ x (up_from made (L - made))) → x < made
below-made L made x h n = go (ltb x made) refl
  where
    go : (b : Bool) → ltb x made ≡ b → x < made
    go true t = ltb-true x made t
    go false t = let u = ltb-false x made t in absurd (n (mem_up (L - made) made x u (omega arith)))

-- the numbers of a computation are made
pub ours-made : (L made : ℕ) (s : List ℕ) {g : Graph} {c c' : m.Held} (S : Stands g c (store_of L made s) c') (x : ℕ) → Ours S.world x → x < made
unfolding store_of
ours-made L made s S x w = below-made L made x (let a = S.holds.in_q x w in let l = length-graph L s in omega arith) (λ u. S.holds.idle x u w)

-- the part that is searched from its value
pub stands-ground : (L made : ℕ) (s : List ℕ) {g : Graph} {c c' : m.Held} (S : Stands g c (store_of L made s) c') {Fine : Symbol → ℕ → Type 0} → Good Fine g → Ground made (graph_of L s) S.world.owned (roots_of c') c'.value
stands-ground L made s {c' = c'} S G =
    let P = stands-part S G in
    subst (λ (g : Graph). Ground made g S.world.owned (roots_of c') c'.value) (nodes-are L made s) (record { part = P; handle = P.root c'.value (Memᴰ.head refl); below = ours-made L made s S })

-- with the same graph
pub searched-same : (L made v : ℕ) (s s' : List ℕ) → graph_of L s' ≡ graph_of L s → Closed made (graph_of L s) (marks_of L s') → Resumes made (graph_of L s) (marks_of L s') (links_of L s') v → Searched L made v s'
searched-same L made v s s' e c r = record { closed = subst (λ (g : Graph). Closed made g (marks_of L s')) (sym e) c; resumes = subst (λ (g : Graph). Resumes made g (marks_of L s') (links_of L s') v) (sym e) r }
