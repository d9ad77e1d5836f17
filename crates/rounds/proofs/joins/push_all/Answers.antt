use Rattle.store.proofs.Became.{loan_same, loan_then}
use native.Mathlib.Omega.{arith}
use mathlib.Core.Path.{refl}
use Rattle.rounds.proofs.Joining.{joined-none, joined-more, joined-all}
use Rattle.rounds.proofs.joins.push_all.Goals as goal

pub loop-i-init : goal.loop-i-init
loop-i-init c = (joined-none _ _ _ _ _ _, loan_same)

pub loop-i-preserved : goal.loop-i-preserved
loop-i-preserved c = let i = c.loop-i.invariant in (joined-more _ refl i.0 (rw (c.view.ensures.limit, c.view.ensures.bytes, i.1.limit) at c.get_scratch-roots.ensures) (rw i.1.limit at c.push.ensures.pushed), loan_then i.1 c.push.ensures.loan)

pub returns : goal.returns
returns c = let i = c.loop-i.invariant in record { loan = i.1; joined = joined-all (omega arith) i.0 }
