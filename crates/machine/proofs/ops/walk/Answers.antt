use Rattle.machine.proofs.Walking.{at-step, at-stuck, at-end}
use Rattle.machine.specs.View.{cur_of}
use Rattle.engine.specs.Machine.{at}
use mathlib.Core.Path.{ap, sym, ◌∙◌}
use native.Mathlib.Omega.{arith}
use Rattle.machine.proofs.ops.walk.Goals as goal

pub returns-in_err-h : goal.returns-in_err-h
unfolding cur_of
returns-in_err-h c = rw c.from_residual.ensures (sym (at-stuck _ c.steps_of-steps.result.now _ _ (omega arith) c.in_err-h.ensures) ∙ c.loop-step.invariant ∙ ap (at _ _) c.steps_of-steps.ensures)

pub loop-step-preserved : goal.loop-step-preserved
loop-step-preserved c = sym (at-step _ c.steps_of-steps.result.now _ _ _ (omega arith) c.in_ok-h.ensures) ∙ c.loop-step.invariant

pub returns : goal.returns
unfolding cur_of
returns c = sym (at-end _ c.steps_of-steps.result.now _ _ c.loop-step-test.false) ∙ c.loop-step.invariant ∙ ap (at _ _) c.steps_of-steps.ensures
