-- A copy poured at the next free numbers: what is written for each node seen, and what pour_copy gives.
-- Here, in order: handles by their new numbers; a node's copy; what the nodes seen lead to; what code may rely on; what is given, if anything; the copy poured.
-- Not here: the list of nodes seen (Listed), the copy itself (heap, Graph), pour (standing, Shared).
-- Assumes nothing.
use Rattle.std.specs.Prelude.{ℕ, ◌+◌, ◌-◌, ◌≤◌, ◌<◌, ◌≡◌, Option, Some, None, IfSome, IfNone, length, get_or, drop}
use mathlib.Core.List.{List, [], map, Memᴰ}
use Rattle.std.proofs.Math.Option as pure
use Rattle.heap.specs.Graph.{Graph, Node, cell, var, fwd, node, follow, args, renamed, Comp, copy}
use Rattle.heap.specs.Build.{up_from}
use Rattle.heap.specs.Place.{Leads}
use Rattle.heap.specs.Store.{laid}
use Rattle.engine.specs.Machine.{Held}
use Rattle.standing.specs.Part.{Handle, Part}
use Rattle.standing.specs.Shared.{pour}
use Rattle.store.specs.Regions.{graph_of, list_of, places_of, store_of}
use Rattle.store.specs.Roots.{roots_of}
use Rattle.store.specs.declared.Roots.{Roots}
use Rattle.copier.specs.Listed.{Clean, Kept}
use Rattle.copier.specs.declared.Poured.{Poured}

-- a handle's new number, by the place word of the node it ends at
unfoldable pub placed : ℕ → ℕ → List ℕ → ℕ → ℕ
placed L made s h = made + (get_or (places_of L s) (follow (graph_of L s) h) 0 - 1)

-- the nodes that the handles end at have places, and the new numbers are below the limit
abbrev pub Spots : ℕ → ℕ → List ℕ → List ℕ → Type 0
Spots L made s hs = (h : ℕ) → Memᴰ h hs → (follow (graph_of L s) h < L) × (0 < get_or (places_of L s) (follow (graph_of L s) h) 0) × (made + get_or (places_of L s) (follow (graph_of L s) h) 0 ≤ L)

-- a node's arguments by their new numbers
unfoldable pub new_args : ℕ → ℕ → ℕ → List ℕ → List ℕ
new_args L made n s = map (placed L made s) (args (node (graph_of L s) n))

-- node n can be copied to number `to`: n and all forwards from its arguments are made, `to` is not, and the nodes that they end at have places
pub record Copies (L made n to : ℕ) (s : List ℕ) : Type 0 where
  pub inside : n < made
  pub beyond : made ≤ to
  pub fits : to < L
  pub spots : Spots L made s (args (node (graph_of L s) n))
  pub leads : (h : ℕ) → Memᴰ h (args (node (graph_of L s) n)) → Leads (λ y. y < made) (graph_of L s) (follow (graph_of L s) h) h

-- a node with new numbers
unfoldable pub renumbered : (ℕ → ℕ) → Node → Node
renumbered f (cell y hs) = cell y (map f hs)
renumbered f var = var
renumbered f (fwd k) = var

-- the nodes seen are made, and so are all forwards from their arguments, which end at nodes seen
pub record Closed (g : Graph) (made : ℕ) (l : List ℕ) : Type 0 where
  pub inside : (x : ℕ) → Memᴰ x l → x < made
  pub under : (x h : ℕ) → Memᴰ x l → Memᴰ h (args (node g x)) → Memᴰ (follow g h) l × Leads (λ y. y < made) g (follow g h) h

-- the copy of the nodes seen, and the graph with it at the numbers from `made` on
abbrev pub copied : Graph → List ℕ → Graph
copied g l = map (λ k. renamed g l (node g k)) l

abbrev pub laid_from : ℕ → Graph → List ℕ → Graph
laid_from made g l = laid (up_from made (length l)) (copied g l) (up_from made (length l)) g

-- the graph anew; list, places and all else as before
pub record Emitted (L : ℕ) (s s' : List ℕ) (g : Graph) : Type 0 where
  pub is : graph_of L s' ≡ g
  pub list : list_of L s' ≡ list_of L s
  pub places : places_of L s' ≡ places_of L s
  pub kept : Kept L s s'

-- the place words anew; nodes, list and all else as before
pub record Placed (L : ℕ) (s s' : List ℕ) (p : List ℕ) : Type 0 where
  pub is : places_of L s' ≡ p
  pub list : list_of L s' ≡ list_of L s
  pub graph : graph_of L s' ≡ graph_of L s
  pub kept : Kept L s s'

-- the handles are some of a part of the store, and no number of that part is free
pub record Walkable (g : Graph) (made : ℕ) (hs : List ℕ) : Type 0 where
  pub own : List ℕ
  pub roots : List ℕ
  pub part : Part g own roots
  pub handles : (h : ℕ) → Memᴰ h hs → Handle g own roots h
  pub taken : (x : ℕ) → Memᴰ x own → x < made

-- the computation with these handles, the value's first; and the same as the store holds it, with an empty stack
unfoldable pub comp_of : Graph → List ℕ → Comp
comp_of g hs = record { graph = g; value = get_or hs 0 0; askers = drop 1 hs }

unfoldable pub held_of : List ℕ → Held
held_of hs = record { value = get_or hs 0 0; askers = drop 1 hs; stack = [] }

-- what f gives for a value, if there is one
unfoldable pub given : {A B : Type 0} → (A → B) → Option A → pure.Option B
given f None = pure.none
given f (Some x) = pure.some (f x)

-- the copy of the computation with the handles hs is poured, or does not fit and the graph is as before; the nodes made before are as they were
pub record PouredTo (L made : ℕ) (hs : Roots) (s s' : List ℕ) (r : Option Poured) : Type 0 where
  pub is : pour (copy (comp_of (graph_of L s) (roots_of hs))) (store_of L made s) ≡ given (λ p. (store_of L p.made s', held_of (roots_of p.roots))) r
  pub stays : IfNone r (graph_of L s' ≡ graph_of L s)
  pub before : (x : ℕ) → x < made → node (graph_of L s') x ≡ node (graph_of L s) x
  pub more : IfSome r (λ p. (made ≤ p.made) × (p.made ≤ L))
  pub same : IfSome r (λ p. p.roots.n ≡ hs.n)
  pub clean : Clean L s'
  pub kept : Kept L s s'
