use lib.ListN.{replicate}
use Rattle.compiler.specs.Rows.{Emits}
use Rattle.compiler.proofs.arm.put_instance.Given as goal

abbrev pub invariant-loop : goal.invariant-loop
invariant-loop l = Emits l.initial.code l.code l.o l.out (replicate l.counter 0x35)
