use Rattle.machine.proofs.Stacks.{settling-empty, settling-out, settling-call, settling-past, settling-next}
use mathlib.Core.Path.{sym, ◌∙◌}
use native.Mathlib.Omega.{arith}
use Rattle.machine.proofs.calls.settle.Goals as goal

pub returns-then-t-eq0 : goal.returns-then-t-eq0
returns-then-t-eq0 c = settling-empty c.loop.invariant c.if-t-eq0.true

pub returns-then-is_some : goal.returns-then-is_some
returns-then-is_some c = settling-call c.loop.invariant _ _ (omega arith) c.follow-at.ensures c.node_at.ensures _ c.called-call.ensures (sym c.is_some.ensures ∙ c.if-is_some.true)

pub returns-then-n-store : goal.returns-then-n-store
returns-then-n-store c = settling-past c.loop.invariant _ _ (omega arith) c.follow-at.ensures c.node_at.ensures _ c.called-call.ensures (sym c.is_some.ensures ∙ c.if-is_some.false) c.args.store.room.1 c.if-n-store.true

pub loop-preserved : goal.loop-preserved
loop-preserved c = settling-next c.loop.invariant _ _ (omega arith) c.follow-at.ensures c.node_at.ensures _ _ _ c.called-call.ensures (sym c.is_some.ensures ∙ c.if-is_some.false) (omega arith) c.link-t.ensures

pub returns : goal.returns
returns c = settling-out c.loop.invariant (omega arith)
