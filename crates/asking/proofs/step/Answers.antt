use Rattle.store.proofs.Became.{loan_then, did_at}
use native.Mathlib.Omega.{arith}
use Rattle.asking.proofs.Terms.{arity-is, fresh-stepped, cell-stepped}
use Rattle.asking.proofs.step.Goals as goal

pub returns-then-kind : goal.returns-then-kind
returns-then-kind c = record { loan = c.put_rest.ensures.loan; stepped = fresh-stepped _ _ _ _ _ _ _ _ c.if-kind.true c.requires c.put_rest.ensures.did }

pub take_terms-args-requires-clause-a_bound : goal.take_terms-args-requires-clause-a_bound
take_terms-args-requires-clause-a_bound c = let p = c.requires in
    let k = p.cell c.if-kind.false in
    let e = arity-is _ _ _ _ _ _ (rw (c.view-view.ensures.limit, c.view-view.ensures.bytes) at c.arity_of-a.ensures) c.head_of-head.ensures in
    (omega arith, omega arith, omega (arith, p.deep))

pub put_cell-requires-clause-count_bound : goal.put_cell-requires-clause-count_bound
put_cell-requires-clause-count_bound c = let k = c.requires.cell c.if-kind.false in
    let e = arity-is _ _ _ _ _ _ (rw (c.view-view.ensures.limit, c.view-view.ensures.bytes) at c.arity_of-a.ensures) c.head_of-head.ensures in
    omega arith

pub overflow_sub-d : goal.overflow_sub-d
overflow_sub-d c = let k = c.requires.cell c.if-kind.false in
    let e = arity-is _ _ _ _ _ _ (rw (c.view-view.ensures.limit, c.view-view.ensures.bytes) at c.arity_of-a.ensures) c.head_of-head.ensures in
    omega arith

pub returns : goal.returns
returns c = let d = c.put_cell.ensures in record { loan = loan_then d.loan c.put_rest-2.ensures.loan; stepped = cell-stepped _ _ _ _ _ _ _ _ _ _ _ _ c.if-kind.false c.requires (arity-is _ _ _ _ _ _ (rw (c.view-view.ensures.limit, c.view-view.ensures.bytes) at c.arity_of-a.ensures) c.head_of-head.ensures) c.head_of-head.ensures (rw (c.view-view.ensures.limit, c.view-view.ensures.bytes) at c.take_terms-args.ensures) d.did (did_at d.loan.limit c.put_rest-2.ensures) }
