use Prim.Native.Nat.{◌+◌, ◌-◌}
use lib.ListN.{take, drop}
use Rattle.compiler.specs.Rows.{Progress, arm_code}
use Rattle.compiler.proofs.arm.put_arm.Given as goal

abbrev pub invariant-loop-con : goal.invariant-loop-con
invariant-loop-con l = Progress l.initial.code l.code l.o l.out (arm_code l.con (take (l.c + l.n - l.con) (drop l.con l.lore.cons))) (arm_code l.c (take l.n (drop l.c l.lore.cons)))
