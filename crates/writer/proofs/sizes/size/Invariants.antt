use Rattle.store.specs.Whole.{SameLoan}
use Rattle.writer.specs.Walk.{Framed}
use Rattle.store.specs.Regions.{graph_of}
use Rattle.heap.specs.Graph.{write_each}
use lib.ListN.{length, drop}
use mathlib.Core.Path.{◌≡◌}
use Prim.Native.Nat.{◌+◌, ◌≤◌}
use Rattle.writer.proofs.sizes.size.Given as goal

abbrev pub invariant-loop-h : goal.invariant-loop-h
invariant-loop-h l = Framed l.initial.store.limit l.initial.store.bytes.now l.store.bytes.now
    × (l.sum + length (write_each l.initial.store.limit (graph_of l.initial.store.limit l.initial.store.bytes.now) (drop l.h-index l.h-items)) ≡ length (write_each l.initial.store.limit (graph_of l.initial.store.limit l.initial.store.bytes.now) l.h-items))
    × (l.sum ≤ l.room)
    × SameLoan l.initial.store l.store
