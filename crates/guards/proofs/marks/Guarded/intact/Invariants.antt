use Rattle.guards.specs.Pattern.{Filled}
use Rattle.guards.proofs.marks.Guarded.intact.Given as goal

abbrev pub invariant-loop-i : goal.invariant-loop-i
invariant-loop-i g l = Filled l.self.bytes l.from l.i
