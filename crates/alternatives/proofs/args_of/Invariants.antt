use mathlib.Core.Path.{◌≡◌}
use lib.ListN.{length, take}
use Rattle.heap.specs.Graph.{node, args}
use Rattle.store.specs.Regions.{graph_of}
use Rattle.alternatives.proofs.args_of.Given as goal

abbrev pub invariant-loop-j : goal.invariant-loop-j
invariant-loop-j l = (take l.j l.args ≡ take l.j (args (node (graph_of l.store.limit l.store.bytes.now) l.n.0))) × (length l.args ≡ 8)
