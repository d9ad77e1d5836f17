use Prim.Native.Nat.{◌-◌}
use Rattle.compiler.proofs.Rights.{Left}
use Rattle.compiler.specs.Here.{RightsHere}
use Rattle.compiler.proofs.rule.put_rights.Given as goal

abbrev pub invariant-loop : goal.invariant-loop
invariant-loop l = (x : RightsHere l.s l.lore l.rows l.from l.n l.o l.initial.code) → Left x l.at (l.n - l.counter) l.out l.code
