use Rattle.store.specs.Whole.{SameLoan}
use Rattle.writer.specs.Owes.{dues, steps}
use Rattle.writer.specs.Walk.{Stood, Framed}
use Rattle.store.specs.Regions.{graph_of, frames_of, stack}
use mathlib.Core.Path.{◌≡◌}
use Prim.Native.Nat.{◌+◌, ◌-◌, ◌*◌, ◌≤◌}
use Rattle.writer.proofs.sizes.tally.Given as goal

abbrev pub invariant-loop-d : goal.invariant-loop-d
invariant-loop-d l = Framed l.initial.store.limit l.initial.store.bytes.now l.store.bytes.now
    × Stood (graph_of l.initial.store.limit l.initial.store.bytes.now) (stack l.d (frames_of l.initial.store.limit l.store.bytes.now))
    × (l.n + dues l.initial.store.limit (graph_of l.initial.store.limit l.initial.store.bytes.now) (stack l.d (frames_of l.initial.store.limit l.store.bytes.now)) ≡ l.sum + dues l.initial.store.limit (graph_of l.initial.store.limit l.initial.store.bytes.now) (stack l.depth (frames_of l.initial.store.limit l.initial.store.bytes.now)))
    × (l.n ≤ l.room + 3)
    × SameLoan l.initial.store l.store

abbrev pub decreases-loop-d : goal.decreases-loop-d
decreases-loop-d l = 10 * (l.room + 3 - l.n) + steps (graph_of l.initial.store.limit l.store.bytes.now) (stack l.d (frames_of l.initial.store.limit l.store.bytes.now))
