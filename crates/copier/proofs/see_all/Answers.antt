use Rattle.store.proofs.Became.{loan_then}
use Rattle.copier.proofs.Listing.{owes-sight, owes-sight-end}
use Rattle.copier.proofs.Steps.{owes-follow}
use Rattle.copier.proofs.see_all.Goals as goal

pub see-k-requires-clause-h_bound : goal.see-k-requires-clause-h_bound
see-k-requires-clause-h_bound c = let i = c.loop-h.invariant in rw i.loan.limit (owes-follow _ _ i.owes c.loop-h-test.true c.requires.ends)

pub loop-h-preserved : goal.loop-h-preserved
loop-h-preserved c = let i = c.loop-h.invariant in record { loan = loan_then i.loan c.see-k.ensures.loan; owes = owes-sight _ _ _ _ i.owes c.loop-h-test.true (rw i.loan.limit at c.see-k.ensures.saw) }

pub returns : goal.returns
returns c = let i = c.loop-h.invariant in record { loan = i.loan; saw = owes-sight-end _ _ _ i.owes c.loop-h-test.false }
