-- The forwards from the top of a stack, led on to their end. A top is a node's number + 1, and 0 is an empty stack.
--
--   before   a -> x -> .. -> e
--   after    a -> e, and x -> a where e is a call, else x -> e
--
-- Here, in order: where the second node is led; the first two nodes led on; the graph and the memory after it; what the code does.
-- Not here: that nothing is read otherwise afterwards (proofs, Ways and Moments).
-- Assumes nothing.
use Rattle.std.specs.Prelude.{ℕ, zero, suc, List, [], ◌∷◌, true, false, set, eqb}
use Rattle.book.specs.Syntax.{con, fun}
use Rattle.heap.specs.Graph.{Node, cell, var, fwd, Graph, node, follow}
use Rattle.heap.specs.Store.{Store}
use Rattle.store.specs.Regions.{Memory, with_graph, Did}

-- where the second node is led: to the first, which goes on with a call that is replaced in its turn; to an end that stays
unfoldable pub led : Node → ℕ → ℕ → ℕ
led (cell (fun f) hs) a e = a
led (cell (con c) hs) a e = e
led var a e = e
led (fwd k) a e = e

-- a, where this node is, and what it forwards to, led on towards the end e; one forward is short already
unfoldable pub led_on : Graph → ℕ → ℕ → Node → Graph
led_on g a e (cell s hs) = g
led_on g a e var = g
led_on g a e (fwd x) = elim (eqb x e) [ true ↦ g | false ↦ set (set g a (fwd e)) x (fwd (led (node g e) a e)) ]

-- the graph with the forwards from a top led on
unfoldable pub shortened : ℕ → Graph → Graph
shortened zero g = g
shortened (suc a) g = led_on g a (follow g a) (node g a)

-- the memory
abbrev pub shorten_top : ℕ → Memory → Memory
shorten_top top m = with_graph (shortened top m.graph) m

-- the store
unfoldable pub short_store : ℕ → Store → Store
short_store top μ = record { nodes = shortened top μ.nodes; free = μ.free }

-- the top of a stack
unfoldable pub top_of : List ℕ → ℕ
top_of [] = 0
top_of (a ∷ N) = suc a

-- the bytes s became s': the graph is shortened; marks, links, list, places, frames and the rest are as before, and the length
abbrev pub Shortened : ℕ → ℕ → List ℕ → List ℕ → Type 0
Shortened L top s s' = Did L s s' (shorten_top top)
