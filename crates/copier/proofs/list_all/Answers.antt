use Rattle.store.proofs.Became.{loan_then}
use Rattle.copier.proofs.Listing.{listed-none, reached, reach-solid}
use Rattle.copier.proofs.list_all.Goals as goal

pub see_all-n-requires-clause-listed : goal.see_all-n-requires-clause-listed
see_all-n-requires-clause-listed c = listed-none _ _ c.requires.clean

pub see_below-requires-clause-solid : goal.see_below-requires-clause-solid
see_below-requires-clause-solid c = rw c.see_all-n.ensures.loan.limit (reach-solid _ _ c.see_all-n.ensures.saw c.requires.solid)

pub returns : goal.returns
returns c = let e = c.see_all-n.ensures.loan in record { loan = loan_then e c.see_below.ensures.loan; lists = reached _ _ _ c.see_all-n.ensures.saw (rw e.limit at c.see_below.ensures.lists) }
