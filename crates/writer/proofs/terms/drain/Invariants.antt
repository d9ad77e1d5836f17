use Rattle.store.specs.Whole.{SameLoan}
use Rattle.writer.specs.Written.{Table, seen_of, ends}
use Rattle.writer.specs.Owes.{owes, steps}
use Rattle.writer.specs.Walk.{Stood, Kept}
use Rattle.store.specs.Regions.{graph_of, frames_of, stack}
use lib.ListN.{length}
use mathlib.Core.Path.{◌≡◌}
use Prim.Native.Nat.{◌+◌, ◌-◌, ◌*◌, ◌≤◌}
use Rattle.writer.proofs.terms.drain.Given as goal

abbrev pub invariant-loop-d : goal.invariant-loop-d
invariant-loop-d l = Kept l.initial.store.limit l.initial.store.bytes.now l.store.bytes.now
    × Stood (graph_of l.initial.store.limit l.initial.store.bytes.now) (stack l.d (frames_of l.initial.store.limit l.store.bytes.now))
    × Table l.initial.store.limit l.store.bytes.now l.p.seen
    × (ends l.out l.p.at (owes l.initial.store.limit (graph_of l.initial.store.limit l.initial.store.bytes.now) (seen_of l.initial.store.limit l.store.bytes.now l.p.seen) (stack l.d (frames_of l.initial.store.limit l.store.bytes.now))) ≡ ends l.initial.out l.initial.p.at (owes l.initial.store.limit (graph_of l.initial.store.limit l.initial.store.bytes.now) (seen_of l.initial.store.limit l.initial.store.bytes.now l.initial.p.seen) (stack l.depth (frames_of l.initial.store.limit l.initial.store.bytes.now))))
    × (l.p.at + length (owes l.initial.store.limit (graph_of l.initial.store.limit l.initial.store.bytes.now) (seen_of l.initial.store.limit l.store.bytes.now l.p.seen) (stack l.d (frames_of l.initial.store.limit l.store.bytes.now))).1 ≤ length l.out)
    × SameLoan l.initial.store l.store
    × (length l.out ≡ length l.initial.out)

abbrev pub decreases-loop-d : goal.decreases-loop-d
decreases-loop-d l = 10 * (length l.out - l.p.at) + steps (graph_of l.initial.store.limit l.store.bytes.now) (stack l.d (frames_of l.initial.store.limit l.store.bytes.now))
