use native.Mathlib.Omega.{arith}
use Prim.Native.Nat.{◌+◌}
use Rattle.compiler.proofs.Writing.{progress_step, progress-end, progress-room}
use Rattle.compiler.proofs.Loops.{arm_step, arm-none, arm-room}
use Rattle.compiler.proofs.arm.put_arm.Goals as goal

pub put_instance-out-requires : goal.put_instance-out-requires
put_instance-out-requires c = arm-room c.args.lore.now.cons c.loop-con.con (c.args.c + c.args.n) c.loop-con.invariant c.loop-con-test.true (omega arith) c.requires.code_in_bounds

pub loop-con-preserved : goal.loop-con-preserved
loop-con-preserved c = progress_step c.loop-con.invariant _ c.put_instance-out.ensures (arm_step _ _ _ c.loop-con-test.true (omega arith))

pub put-requires : goal.put-requires
put-requires c = let e = arm-none c.args.lore.now.cons c.loop-con.con (c.args.c + c.args.n) c.loop-con-test.false in let h = progress-room (rw e at c.loop-con.invariant) c.requires.code_in_bounds in omega arith

pub returns : goal.returns
returns c = progress-end c.loop-con.invariant c.put.ensures (arm-none _ _ _ c.loop-con-test.false)
