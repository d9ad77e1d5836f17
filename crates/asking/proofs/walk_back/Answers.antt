use Rattle.store.proofs.Became.{loan_same, loan_then}
use native.Mathlib.Omega.{arith}
use Prim.Native.Nat.{◌+◌, ◌-◌, ◌*◌, ◌<◌}
use lib.ListN.{get_or}
use Rattle.asking.proofs.Walks.{walk_begins, can-walk, walk-goes, walk_ends}
use Rattle.asking.proofs.walk_back.Goals as goal

pub loop-k-init : goal.loop-k-init
loop-k-init c = let p = c.requires.q_len in (loan_same, λ x. walk_begins x _ p.0 (omega arith) _ p.1)

pub step-w-requires : goal.step-w-requires
step-w-requires c = let i = c.loop-k.invariant in
    let k = c.loop-k.k in
    let few : get_or c.args.q.now (2 + 2 * (k - 1) + 1) 0 < 256 = omega (arith, c.type_inv.q (2 + 2 * (k - 1) + 1)) in
    rw i.0.limit (can-walk c.requires.asked_of _ c.requires.q_len.0 k c.loop-k-test.true (omega arith) _ _ _ few (i.1 c.requires.asked_of) c.requires.space (omega arith))

pub loop-k-preserved : goal.loop-k-preserved
loop-k-preserved c = let i = c.loop-k.invariant in
    let k = c.loop-k.k in
    let few : get_or c.args.q.now (2 + 2 * (k - 1) + 1) 0 < 256 = omega (arith, c.type_inv.q (2 + 2 * (k - 1) + 1)) in
    (loan_then i.0 c.step-w.ensures.loan, λ x. walk-goes x _ c.requires.q_len.0 k c.loop-k-test.true (omega arith) _ _ _ few (i.1 x) c.requires.space (omega arith) _ _ (rw i.0.limit at c.step-w.ensures.stepped))

pub returns : goal.returns
returns c = let i = c.loop-k.invariant in record { loan = i.0; done = λ x. walk_ends x _ c.requires.q_len.0 _ _ _ _ (omega arith) (i.1 x) }
