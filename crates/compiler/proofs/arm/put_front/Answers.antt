use native.Mathlib.Omega.{arith}
use Rattle.compiler.proofs.Loops.{row-long}
use Rattle.compiler.proofs.Trees.{fronts, front-place}
use Rattle.compiler.proofs.arm.put_front.Goals as goal

pub put-g-requires : goal.put-g-requires
put-g-requires c = let n = row-long c.args.rows.now c.args.slot c.told-rows c.requires.slot_in_bounds in omega arith

pub overflow_add-arm : goal.overflow_add-arm
overflow_add-arm c = let n = front-place _ _ _ _ c.told-rows c.requires.slot_in_bounds c.put_load-p.ensures c.put-g.ensures in omega arith

pub overflow_add-arm-2 : goal.overflow_add-arm-2
overflow_add-arm-2 c = let n = front-place _ _ _ _ c.told-rows c.requires.slot_in_bounds c.put_load-p.ensures c.put-g.ensures in omega arith

pub put_go-requires : goal.put_go-requires
put_go-requires c = let n = front-place _ _ _ _ c.told-rows c.requires.slot_in_bounds c.put_load-p.ensures c.put-g.ensures in omega arith

pub put_arm-requires-clause-code_in_bounds : goal.put_arm-requires-clause-code_in_bounds
put_arm-requires-clause-code_in_bounds c = let n = front-place _ _ _ _ c.told-rows c.requires.slot_in_bounds c.put_load-p.ensures c.put-g.ensures in omega arith

pub returns : goal.returns
returns c = fronts _ _ _ _ c.told-rows c.requires.slot_in_bounds c.put_load-p.ensures c.put-g.ensures _ _ _ c.put_go.ensures c.put_arm.ensures
