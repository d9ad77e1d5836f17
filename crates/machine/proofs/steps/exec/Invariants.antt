use Rattle.store.specs.Whole.{SameLoan}
use Rattle.machine.proofs.Execs.{Along}
use Prim.Native.Nat.{◌-◌}
use Rattle.machine.proofs.steps.exec.Given as goal

abbrev pub invariant-loop : goal.invariant-loop
invariant-loop l = SameLoan l.initial.store l.store
    × Along l.initial.store.limit l.base l.code l.initial.r l.n l.initial.store.bytes.now l.store.bytes.now l.r (l.n - l.counter)
