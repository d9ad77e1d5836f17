use Prim.Native.Nat.{◌-◌}
use mathlib.Core.Path.{◌≡◌}
use Rattle.heap.specs.Graph.{deref}
use Rattle.store.specs.Regions.{graph_of}
use Rattle.store.proofs.whole.View.follow.Given as goal

abbrev pub invariant-loop : goal.invariant-loop
invariant-loop l = deref (l.self.limit - l.counter) (graph_of l.self.limit l.self.bytes.now) l.at.0 ≡ deref l.self.limit (graph_of l.self.limit l.self.bytes.now) l.initial.at.0
