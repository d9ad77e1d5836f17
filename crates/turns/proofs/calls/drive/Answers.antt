use native.Mathlib.Omega.{arith}
use Rattle.store.proofs.Became.{loan_then, did_at}
use Rattle.turns.proofs.Driving.{driving-inside, driving-next, driving-kept, driven-ends, driven-over}
use Rattle.turns.proofs.calls.drive.Goals as goal

pub on_top-e-requires-clause-space : goal.on_top-e-requires-clause-space
on_top-e-requires-clause-space c = let i = c.loop.invariant in rw (i.3.limit, i.1.long) c.requires.space

pub returns-in_default : goal.returns-in_default
returns-in_default c =
    let i = c.loop.invariant in
    let T = c.on_top-e.ensures in
    record { loan = loan_then i.3 T.loan; driven = driven-ends _ _ _ _ _ _ _ i.0 i.1 i.2 (rw i.3.limit at T.topped) (omega arith) c.in_default.not-Demand }

pub put_link-requires : goal.put_link-requires
put_link-requires c =
    let i = c.loop.invariant in
    let T = c.on_top-e.ensures in
    rw (loan_then i.3 T.loan).limit (driving-inside _ _ _ _ _ _ _ c.requires.calls (i.0 c.requires.calls) i.1 i.2 (rw i.3.limit at T.topped) c.requires.space _ c.in-Demand.is)

pub overflow_add-t : goal.overflow_add-t
overflow_add-t c =
    let i = c.loop.invariant in
    omega (arith, driving-inside _ _ _ _ _ _ _ c.requires.calls (i.0 c.requires.calls) i.1 i.2 (rw i.3.limit at c.on_top-e.ensures.topped) c.requires.space _ c.in-Demand.is)

pub loop-preserved : goal.loop-preserved
loop-preserved c =
    let i = c.loop.invariant in
    let l = loan_then i.3 c.on_top-e.ensures.loan in
    let T = rw i.3.limit at c.on_top-e.ensures.topped in
    let d = did_at l.limit c.put_link.ensures in
    (λ C. driving-next _ _ _ _ _ _ _ C (i.0 C) i.1 i.2 T c.requires.space _ c.in-Demand.is d _ (omega arith), driving-kept _ _ _ 0 0 _ _ i.1 i.2 T d, omega (arith, i.2, T.made), loan_then l c.put_link.ensures.loan)

pub returns : goal.returns
returns c = let i = c.loop.invariant in record { loan = i.3; driven = driven-over _ _ _ _ _ _ _ i.0 i.1 i.2 (omega arith) _ (rw c.emptied.ensures (omega arith, omega arith)) (rw c.emptied.ensures i.2) }
