use Rattle.store.proofs.Became.{loan_same, loan_then, did_at}
use borrow.Author.Rules.{rules}
use native.Mathlib.Omega.{arith}
use mathlib.Core.Path.{◌≡◌, refl, sym}
use lib.ListN.{length}
use Rattle.pool.proofs.Laws.{only_none, only-word, both-only, roots-none, put_step}
use Rattle.pool.proofs.put_roots.Goals as goal

pub loop-j-init : goal.loop-j-init
loop-j-init c = record { loan = loan_same; put = sym (roots-none _ _ _); only = only_none _ _ _ _ }

pub loop-j-preserved : goal.loop-j-preserved
loop-j-preserved c = let i = c.loop-j.invariant in
    let d = did_at i.loan.limit c.put_rest.ensures in
    let long = i.only.long in
    let nine : length c.args.r.at ≡ 9 = search rules in
    record { loan = loan_then i.loan c.put_rest.ensures.loan; put = put_step _ _ _ _ _ _ _ nine (omega arith) (omega arith) i.put d refl; only = both-only i.only (only-word d (omega arith) (omega arith)) }
