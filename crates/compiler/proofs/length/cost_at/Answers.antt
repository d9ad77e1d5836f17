use native.Mathlib.Omega.{arith}
use mathlib.Core.Path.{◌∙◌}
use Rattle.compiler.proofs.Costs.{kinds}
use Rattle.compiler.proofs.length.cost_at.Goals as goal

pub bounds-s-at-in-4 : goal.bounds-s-at-in-4
bounds-s-at-in-4 c = omega (arith, ((kinds c.requires).split c.in-4.is).0)

pub split_cost-requires : goal.split_cost-requires
split_cost-requires c = let h = (kinds c.requires).split c.in-4.is in (h.1, h.3)

pub returns-in-4 : goal.returns-in-4
returns-in-4 c = ((λ x. c.split_cost.ensures.0 ∙ ((kinds x).split c.in-4.is).2), c.split_cost.ensures.1)

pub returns-in-11 : goal.returns-in-11
returns-in-11 c = ((λ x. (kinds x).none c.in-11.is), omega arith)

pub returns-in_default : goal.returns-in_default
returns-in_default c = ((λ x. c.record_cost.ensures.0 ∙ ((kinds x).other (λ z. omega arith) (λ z. omega arith)).1), omega (arith, c.record_cost.ensures.1))
