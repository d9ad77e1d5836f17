use Rattle.compiler.specs.Rows.{Emits, vars_code}
use Rattle.compiler.proofs.rule.put_vars.Given as goal

abbrev pub invariant-loop-i : goal.invariant-loop-i
invariant-loop-i l = Emits l.initial.code l.code l.o l.out (vars_code l.i)
