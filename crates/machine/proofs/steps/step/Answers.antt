use Rattle.store.proofs.Became.{loan_same}
use Rattle.machine.proofs.Execs.{step_past, step_is}
use Rattle.machine.proofs.steps.step.Goals as goal

pub returns-then-at-code : goal.returns-then-at-code
returns-then-at-code c = record { loan = loan_same; went = rw c.ends.ensures (step_past _ _ _ _ _ c.requires.fine c.if-at-code.true) }

pub returns : goal.returns
returns c = record { loan = c.run_op.ensures.loan; went = step_is _ _ _ _ _ c.requires.fine _ _ c.decode_at-op.ensures c.width_of.ensures c.run_op.ensures.went }
