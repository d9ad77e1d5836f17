use Rattle.store.proofs.Became.{loan_then, did_at}
use Rattle.pool.proofs.Laws.{row_put}
use Rattle.pool.proofs.put_row.Goals as goal

pub returns : goal.returns
returns c = let r = c.put_roots.ensures in record { loan = loan_then r.loan c.put_rest.ensures.loan; put = row_put _ _ _ _ _ _ c.requires.sized c.requires.rest_room r.put (did_at r.loan.limit c.put_rest.ensures) }
