use native.Mathlib.Omega.{arith}
use Rattle.compiler.specs.Rows.{split_at}
use Rattle.compiler.proofs.length.split_cost.Goals as goal

pub returns : goal.returns
unfolding split_at
returns c = (rw c.arm_length.ensures.0, omega (arith, c.arm_length.ensures.1))
