use Prim.Native.Nat.{◌-◌, ◌*◌, ◌≤◌}
use lib.ListN.{length}
use Rattle.compiler.specs.Here.{Surveyed}
use Rattle.compiler.proofs.Costs.{Ahead}
use Rattle.compiler.proofs.length.code_length.Given as goal

abbrev pub invariant-loop-at : goal.invariant-loop-at
invariant-loop-at l = ((l.at ≤ length l.book) × (l.sum ≤ 70000 * l.at)) × ((x : Surveyed l.book l.lore) → Ahead x l.at l.sum)

abbrev pub decreases-loop-at : goal.decreases-loop-at
decreases-loop-at l = length l.book - l.at
