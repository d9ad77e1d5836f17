use native.Mathlib.Omega.{arith}
use Rattle.store.proofs.Became.{loan_same, loan_then, did_at}
use Rattle.turns.proofs.Begins.{standing-search, begins-inside, begun-settled, begun-silent, begun-first}
use Rattle.turns.proofs.calls.begin.Goals as goal

pub returns-then-top-gt0 : goal.returns-then-top-gt0
returns-then-top-gt0 c = record { loan = loan_same; begun = begun-settled _ _ _ _ c.requires.standing c.requires.sized c.requires.searched _ (rw (c.view.ensures.limit, c.view.ensures.bytes) at c.settle-top.ensures) (omega arith) }

pub first_call-requires : goal.first_call-requires
first_call-requires c = record { resumable = standing-search _ _ _ _ c.requires.standing c.requires.sized c.requires.searched }

pub put_link-requires : goal.put_link-requires
put_link-requires c = rw c.first_call.ensures.loan.limit (begins-inside _ _ _ _ c.requires.standing c.requires.sized c.settle-top.result (omega arith) (rw (c.view.ensures.limit, c.view.ensures.bytes) at c.settle-top.ensures) _ c.first_call.ensures.result_value _ c.in_ok-h.was)

pub overflow_add-result : goal.overflow_add-result
overflow_add-result c = omega (arith, begins-inside _ _ _ _ c.requires.standing c.requires.sized c.settle-top.result (omega arith) (rw (c.view.ensures.limit, c.view.ensures.bytes) at c.settle-top.ensures) _ c.first_call.ensures.result_value _ c.in_ok-h.was, c.args.store.now.room.0)

pub returns-in_err-h : goal.returns-in_err-h
returns-in_err-h c = record { loan = c.first_call.ensures.loan; begun = rw c.from_residual.ensures (begun-silent _ _ _ _ c.requires.standing c.requires.sized c.requires.searched _ (rw (c.view.ensures.limit, c.view.ensures.bytes) at c.settle-top.ensures) (omega arith) _ c.first_call.ensures.result_value _ c.first_call.ensures.sought_from c.in_err-h.was) }

pub returns : goal.returns
returns c =
    let f = c.first_call.ensures in
    record { loan = loan_then f.loan c.put_link.ensures.loan; begun = begun-first _ _ _ _ c.requires.standing c.requires.sized c.requires.searched _ (rw (c.view.ensures.limit, c.view.ensures.bytes) at c.settle-top.ensures) (omega arith) _ f.result_value _ f.sought_from _ c.in_ok-h.was (did_at f.loan.limit c.put_link.ensures) c.args.store.now.room.1 }
