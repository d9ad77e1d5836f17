use Rattle.store.proofs.Became.{loan_then}
use Rattle.writer.proofs.EachTerm.{begun-stands, begun-counted}
use Rattle.writer.proofs.Turning.{root-low, framed_then}
use Rattle.writer.proofs.sizes.size_term.Goals as goal

pub visit-t-requires : goal.visit-t-requires
visit-t-requires c = record { d_lt_limit = root-low _ _ _ c.requires.read }

pub tally-requires-clause-stood : goal.tally-requires-clause-stood
tally-requires-clause-stood c = rw c.visit-t.ensures.loan.limit (begun-stands _ _ _ _ _ c.requires.read c.visit-t.ensures.turned)

pub returns : goal.returns
returns c = let t = c.visit-t.ensures in record { loan = loan_then t.loan c.tally.ensures.loan; framed = framed_then t.turned.framed (rw t.loan.limit at c.tally.ensures.framed); counted = begun-counted _ _ _ _ _ c.requires.read t.turned _ _ _ _ c.weight-w.ensures (rw t.loan.limit at c.tally.ensures.counted) }
