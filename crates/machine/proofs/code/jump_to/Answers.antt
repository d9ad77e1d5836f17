use Rattle.machine.proofs.Codes.{jump-is}
use native.Mathlib.Omega.{arith}
use Rattle.machine.proofs.code.jump_to.Goals as goal

pub returns : goal.returns
returns c = omega (arith, jump-is c.args.code.now c.args.pc c.args.j _ _ _ _ c.byte_at.ensures c.byte_at-2.ensures c.byte_at-3.ensures c.byte_at-last.ensures)
