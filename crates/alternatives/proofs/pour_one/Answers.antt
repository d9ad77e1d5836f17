use Rattle.store.proofs.Became.{loan_then, did_at}
use Rattle.alternatives.proofs.Steps.{opens-walk, one_none, one-some}
use Rattle.alternatives.proofs.pour_one.Goals as goal

pub pour_copy-poured-requires-clause-walkable : goal.pour_copy-poured-requires-clause-walkable
pour_copy-poured-requires-clause-walkable c = let d = c.put_fwd.ensures in rw d.loan.limit (opens-walk _ _ _ _ _ _ _ c.requires.opens d.did)

pub returns-in_err-copy : goal.returns-in_err-copy
returns-in_err-copy c =
    let d = c.put_fwd.ensures in
    let p = loan_then d.loan c.pour_copy-poured.ensures.loan in
    record {
      loan = loan_then p c.put_back.ensures.loan;
      poured = rw c.from_residual.ensures (one_none _ _ _ _ _ _ _ _ _ _ _ _ c.requires.opens c.requires.made_le_limit.0 c.save-saved.ensures.0 d.did (did_at p.limit c.put_back.ensures) (rw d.loan.limit at c.in_err-copy.ensures.poured));
    }

pub returns : goal.returns
returns c =
    let d = c.put_fwd.ensures in
    let p = loan_then d.loan c.pour_copy-poured.ensures.loan in
    let b = loan_then p c.put_back.ensures.loan in
    record {
      loan = loan_then b c.put_scratch.ensures.loan;
      poured = one-some _ _ _ _ _ _ _ _ _ _ _ _ c.requires.opens c.requires.made_le_limit.0 c.save-saved.ensures.0 d.did (did_at p.limit c.put_back.ensures) _ (rw d.loan.limit at c.in_ok-copy.ensures.poured) _ (rw b.limit at c.put_scratch.ensures.put);
    }
