use Rattle.machine.proofs.Making.{length-top, lay-word, laid-is}
use Rattle.store.proofs.Became.{loan_same, loan_then}
use Rattle.store.proofs.Laying.{lay-start, lay-room, lay_step}
use native.Mathlib.Omega.{arith}
use Rattle.machine.proofs.makes.lay_cell.Goals as goal

pub loop-j-init : goal.loop-j-init
loop-j-init c = let h = c.put_head.ensures in (loan_same, rw h.loan.limit (lay-start _ _ _ _ _ _ _ c.requires.k_lt_limit (omega (arith, c.requires.space.2)) c.requires.terms_le_term_bound.2 (length-top _ _ _ _ _ c.requires.terms_le_term_bound.1) h.did))

pub put_arg-requires-clause-j_in_bounds : goal.put_arg-requires-clause-j_in_bounds
put_arg-requires-clause-j_in_bounds c =
    let h = c.put_head.ensures.loan in
    let i = c.loop-j.invariant in
    rw i.0.limit (lay-room _ _ _ _ _ _ (rw h.limit c.requires.k_lt_limit) i.1 (rw (length-top _ _ _ _ _ c.requires.terms_le_term_bound.1) (omega arith)))

pub loop-j-preserved : goal.loop-j-preserved
loop-j-preserved c =
    let h = c.put_head.ensures.loan in
    let i = c.loop-j.invariant in
    (loan_then i.0 c.put_arg.ensures.loan, lay_step _ _ _ _ _ _ (rw h.limit c.requires.k_lt_limit) i.1 _ _ (rw (length-top _ _ _ _ _ c.requires.terms_le_term_bound.1) (omega arith)) (lay-word _ _ _ _ _ _ _ _ i.1 _ (omega arith) c.requires.terms_le_term_bound.1 (rw i.0.limit at c.rest-v.ensures)) (rw i.0.limit at c.put_arg.ensures.did))

pub returns : goal.returns
returns c =
    let h = c.put_head.ensures in
    let i = c.loop-j.invariant in
    record { loan = loan_then h.loan i.0; did = laid-is _ _ _ _ _ _ _ _ (rw h.loan.limit at i.1) _ _ _ c.requires.k_lt_limit c.requires.terms_le_term_bound.1 (omega arith) h.did }
