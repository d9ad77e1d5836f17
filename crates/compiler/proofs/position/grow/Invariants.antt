use Rattle.compiler.specs.Rows.{Grown}
use Rattle.compiler.proofs.position.grow.Given as goal

abbrev pub invariant-loop-i : goal.invariant-loop-i
invariant-loop-i l = Grown l.initial.rows l.rows l.slot l.n l.i
