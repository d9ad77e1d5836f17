use native.Mathlib.Omega.{arith}
use Rattle.compiler.proofs.Costs.{short, ahead-start, ahead-on, ahead-end}
use Rattle.compiler.proofs.length.code_length.Goals as goal

pub loop-at-init : goal.loop-at-init
loop-at-init c = ((omega arith, omega arith), λ x. ahead-start x)

pub cost_at-sum-requires : goal.cost_at-sum-requires
cost_at-sum-requires c = (ahead-on c.requires (c.loop-at.invariant.1 c.requires) c.loop-at-test.true).here

pub overflow_add-sum : goal.overflow_add-sum
overflow_add-sum c = let s = short c.requires in omega (arith, c.cost_at-sum.ensures.1)

pub overflow_add-at : goal.overflow_add-at
overflow_add-at c = omega (arith, ((ahead-on c.requires (c.loop-at.invariant.1 c.requires) c.loop-at-test.true).goes _ c.width-at.ensures).1)

pub loop-at-smaller : goal.loop-at-smaller
loop-at-smaller c = let g = (ahead-on c.requires (c.loop-at.invariant.1 c.requires) c.loop-at-test.true).goes _ c.width-at.ensures in omega arith

pub loop-at-preserved : goal.loop-at-preserved
loop-at-preserved c = let g = (ahead-on c.requires (c.loop-at.invariant.1 c.requires) c.loop-at-test.true).goes _ c.width-at.ensures in ((omega arith, omega (arith, c.cost_at-sum.ensures.1)), λ x. (let o = ahead-on x (c.loop-at.invariant.1 x) c.loop-at-test.true in o.next _ _ (c.cost_at-sum.ensures.0 o.here) c.width-at.ensures))

pub returns : goal.returns
returns c = λ x. ahead-end x (c.loop-at.invariant.1 x) c.loop-at-test.false
