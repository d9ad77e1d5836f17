use Rattle.machine.proofs.Stacks.{Settling}
use Prim.Native.Nat.{◌-◌}
use Rattle.machine.proofs.calls.settle.Given as goal

abbrev pub invariant-loop : goal.invariant-loop
invariant-loop l = Settling l.store.limit l.store.bytes.now l.top l.t (l.store.limit - l.counter)
