use native.Mathlib.Omega.{arith}
use mathlib.Core.Path.{sym}
use Rattle.compiler.specs.Rows.{cost_at}
use Rattle.compiler.proofs.Costs.{cost-rule, cost-front, cost-symbol}
use Rattle.compiler.proofs.length.record_cost.Goals as goal

pub returns-in-5 : goal.returns-in-5
unfolding cost_at
returns-in-5 c = (rw (c.in-5.is, c.if-n-eq1.true), omega arith)

pub returns-in-5-2 : goal.returns-in-5-2
returns-in-5-2 c = (rw c.in-5.is (sym (cost-rule _ c.if-n-eq1.false)), omega arith)

pub returns-in-6 : goal.returns-in-6
unfolding cost_at
returns-in-6 c = (rw c.in-6.is, omega arith)

pub returns-in-9 : goal.returns-in-9
unfolding cost_at
returns-in-9 c = (rw c.in-9.is, omega arith)

pub returns-in-10 : goal.returns-in-10
unfolding cost_at
returns-in-10 c = (rw c.in-10.is, omega arith)

pub returns-in-11 : goal.returns-in-11
unfolding cost_at
returns-in-11 c = (rw c.in-11.is, omega arith)

pub returns-in-0-to-4 : goal.returns-in-0-to-4
returns-in-0-to-4 c = (sym (cost-front _ _ (omega arith)), omega arith)

pub returns-in_default : goal.returns-in_default
returns-in_default c = (sym (cost-symbol _ _ (omega arith) (λ z. omega arith) (λ z. omega arith) (λ z. omega arith)), omega arith)
