use Prim.Native.Nat.{ℕ, ◌<◌}
use lib.ListN.{get_or}
use Rattle.heap.specs.Graph.{node, args}
use Rattle.store.specs.Regions.{graph_of, marks_of}
use Rattle.seek.specs.Search.{IsQuiet}
use Rattle.seek.proofs.scan.Given as goal

abbrev pub invariant-loop-j : goal.invariant-loop-j
invariant-loop-j l = (i : ℕ) → i < l.j → IsQuiet (graph_of l.store.limit l.store.bytes.now) (marks_of l.store.limit l.store.bytes.now) (get_or (args (node (graph_of l.store.limit l.store.bytes.now) l.n.0)) i 0)
