use Rattle.store.proofs.Became.{loan_same}
use Rattle.machine.proofs.Driving.{topped-empty, topped-other, topped-call}
use native.Mathlib.Omega.{arith}
use Rattle.machine.proofs.calls.on_top.Goals as goal

pub returns-then-top-eq0 : goal.returns-then-top-eq0
returns-then-top-eq0 c = record { loan = loan_same; topped = rw c.emptied-regs.ensures (topped-empty _ _ _ _ _ _ c.if-top-eq0.true) }

pub returns-in_default : goal.returns-in_default
returns-in_default c = record { loan = loan_same; topped = rw c.emptied-regs.ensures (topped-other _ _ _ _ _ _ _ _ _ (omega arith) (rw (c.view-view.ensures.limit, c.view-view.ensures.bytes) at c.follow-at.ensures) (rw (c.view-view.ensures.limit, c.view-view.ensures.bytes) at c.node_at-k.ensures) c.called.ensures c.in_default.is) }

pub returns : goal.returns
returns c = record { loan = c.exec.ensures.loan; topped = topped-call _ _ _ _ _ _ _ _ _ (omega arith) (rw (c.view-view.ensures.limit, c.view-view.ensures.bytes) at c.follow-at.ensures) (rw (c.view-view.ensures.limit, c.view-view.ensures.bytes) at c.node_at-k.ensures) c.called.ensures _ _ c.in-Some.is (rw (c.view-view.ensures.limit, c.view-view.ensures.bytes) at c.start_of-pc.ensures) (rw c.emptied-regs.ensures at c.exec.ensures.came) }
