use Rattle.machine.proofs.Walking.{child-none, child-in, child-some}
use native.Mathlib.Omega.{arith}
use Rattle.machine.proofs.ops.child.Goals as goal

pub returns-then-j-count : goal.returns-then-j-count
returns-then-j-count c = child-none _ _ _ _ _ _ _ _ c.follow-at.ensures c.node_at.ensures c.count-count.ensures (omega arith) c.if-j-count.true

pub arg-requires : goal.arg-requires
arg-requires c =
    let i = child-in _ _ _ _ c.args.step c.saturating_sub-j.result _ _ c.follow-at.ensures c.node_at.ensures c.count-count.ensures (omega arith) (omega arith) in
    record { n_lt_limit = i.0; j_in_bounds = i.1 }

pub returns : goal.returns
returns c = child-some _ _ _ _ _ _ _ _ c.follow-at.ensures c.node_at.ensures c.count-count.ensures (omega arith) _ (omega arith) c.arg.ensures
