use native.Mathlib.Omega.{arith}
use mathlib.Core.Path.{sym}
use Rattle.compiler.specs.Rows.{width_at}
use Rattle.compiler.proofs.Costs.{width_two}
use Rattle.compiler.proofs.length.width.Goals as goal

pub returns-in-4 : goal.returns-in-4
unfolding width_at
returns-in-4 c = rw c.in-4.is

pub returns-in-11 : goal.returns-in-11
unfolding width_at
returns-in-11 c = rw c.in-11.is

pub returns-in_default : goal.returns-in_default
returns-in_default c = sym (width_two _ (λ z. omega arith) (λ z. omega arith))
