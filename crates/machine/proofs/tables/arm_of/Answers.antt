use Rattle.machine.proofs.Walking.{arm-none, arm-some}
use native.Mathlib.Omega.{arith}
use Rattle.machine.proofs.tables.arm_of.Goals as goal

pub returns-then-home-t : goal.returns-then-home-t
returns-then-home-t c = arm-none _ _ _ _ _ (omega (arith, c.struct_known-1.given)) c.rest-home.ensures c.if-home-t.true

pub returns : goal.returns
returns c = arm-some _ _ _ _ _ (omega (arith, c.struct_known-1.given)) c.rest-home.ensures _ (omega arith) (omega (arith, c.ranges.t)) c.rest.ensures
