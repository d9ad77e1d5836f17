use native.Mathlib.Omega.{arith}
use mathlib.Core.Path.{sym}
use Rattle.compiler.specs.Rows.{args_at}
use Rattle.compiler.proofs.Loops.{args_none}
use Rattle.compiler.proofs.term.args_at.Goals as goal

pub returns-in-7 : goal.returns-in-7
unfolding args_at
returns-in-7 c = rw c.in-7.is

pub returns-in-8 : goal.returns-in-8
unfolding args_at
returns-in-8 c = rw c.in-8.is

pub returns-in_default : goal.returns-in_default
returns-in_default c = sym (args_none _ _ _ (λ z. omega arith) (λ z. omega arith))
