use mathlib.Core.Path.{sym}
use lib.ListN.{get_or-eq_default}
use native.Mathlib.Omega.{arith}
use Rattle.machine.proofs.code.byte_at.Goals as goal

pub returns-else-i-code : goal.returns-else-i-code
returns-else-i-code c = sym (get_or-eq_default c.args.code.now 0 (omega arith))
