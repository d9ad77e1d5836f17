use Rattle.store.specs.Whole.{SameLoan}
use Rattle.writer.specs.Written.{Clean, over}
use Rattle.writer.specs.Walk.{Kept}
use Rattle.store.specs.Regions.{graph_of}
use Rattle.heap.specs.Graph.{write_each}
use lib.ListN.{length, drop}
use mathlib.Core.Path.{◌≡◌}
use Prim.Native.Nat.{◌+◌, ◌≤◌}
use Rattle.writer.proofs.terms.write.Given as goal

abbrev pub invariant-loop-h : goal.invariant-loop-h
invariant-loop-h l = Kept l.initial.store.limit l.initial.store.bytes.now l.store.bytes.now
    × Clean l.initial.store.limit l.store.bytes.now
    × (over l.out l.at (write_each l.initial.store.limit (graph_of l.initial.store.limit l.initial.store.bytes.now) (drop l.h-index l.h-items)) ≡ over l.initial.out 0 (write_each l.initial.store.limit (graph_of l.initial.store.limit l.initial.store.bytes.now) l.h-items))
    × (l.at + length (write_each l.initial.store.limit (graph_of l.initial.store.limit l.initial.store.bytes.now) (drop l.h-index l.h-items)) ≡ length (write_each l.initial.store.limit (graph_of l.initial.store.limit l.initial.store.bytes.now) l.h-items))
    × (length (write_each l.initial.store.limit (graph_of l.initial.store.limit l.initial.store.bytes.now) l.h-items) ≤ length l.out)
    × SameLoan l.initial.store l.store
    × (length l.out ≡ length l.initial.out)
