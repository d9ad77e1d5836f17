use Prim.Native.Nat.{◌≤◌, ◌-◌}
use Rattle.book.proofs.Fronts.{TypesAre}
use Rattle.book.proofs.front.read_types.Given as goal

abbrev pub invariant-loop-r : goal.invariant-loop-r
invariant-loop-r l = TypesAre l.s l.types l.cons l.at l.table × (l.types ≤ 64)

abbrev pub decreases-loop-r : goal.decreases-loop-r
decreases-loop-r l = 64 - l.types
