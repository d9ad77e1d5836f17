use Rattle.machine.proofs.Execs.{along-out, along-on, along-ends}
use Rattle.store.proofs.Became.{loan_then}
use native.Mathlib.Omega.{arith}
use Rattle.machine.proofs.steps.exec.Goals as goal

pub returns-in-Err : goal.returns-in-Err
returns-in-Err c = let i = c.loop.invariant in let w = c.step.ensures in record { loan = loan_then i.0 w.loan; came = along-ends i.1 (omega arith) (rw i.0.limit at w.went) _ c.in-Err.is }

pub loop-preserved : goal.loop-preserved
loop-preserved c = let i = c.loop.invariant in let w = c.step.ensures in (loan_then i.0 w.loan, along-on i.1 (omega arith) (rw i.0.limit at w.went) _ _ (omega arith) c.in-Ok.is)

pub returns : goal.returns
returns c = let i = c.loop.invariant in record { loan = i.0; came = along-out i.1 (omega arith) }
