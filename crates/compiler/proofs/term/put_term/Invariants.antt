use Rattle.compiler.specs.Rows.{Progress, back}
use Rattle.compiler.proofs.term.put_term.Given as goal

abbrev pub invariant-loop-i : goal.invariant-loop-i
invariant-loop-i l = Progress l.initial.code l.code l.o l.out (back l.rows l.s l.from l.i) (back l.rows l.s l.from l.n)
