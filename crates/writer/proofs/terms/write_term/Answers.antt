use Rattle.store.proofs.Became.{loan_then}
use Rattle.writer.proofs.EachTerm.{term_fits, term-stands, term-fit, term-writes}
use Rattle.writer.proofs.Counting.{begun}
use Rattle.writer.proofs.Telling.{table_same}
use Rattle.writer.proofs.Turning.{root-low}
use Rattle.writer.proofs.terms.write_term.Goals as goal

pub visit-t-requires : goal.visit-t-requires
visit-t-requires c = record { d_lt_limit = root-low _ _ _ c.requires.read }

pub tell-p-requires-clause-table : goal.tell-p-requires-clause-table
tell-p-requires-clause-table c = let T = c.visit-t.ensures.turned in rw c.visit-t.ensures.loan.limit (table_same _ _ _ _ T.framed.list T.framed.places c.requires.table)

pub tell-p-requires-clause-within : goal.tell-p-requires-clause-within
tell-p-requires-clause-within c = let T = c.visit-t.ensures.turned in (rw c.visit-t.ensures.loan.limit (begun _ _ _ _ _ c.requires.read T).within, term_fits _ _ _ _ _ c.args.out.now _ c.requires.read T c.requires.h_in_bounds)

pub drain-requires-clause-stood : goal.drain-requires-clause-stood
drain-requires-clause-stood c = let v = c.visit-t.ensures in rw (loan_then v.loan c.tell-p.ensures.loan).limit (term-stands _ _ _ _ _ _ _ c.requires.read v.turned c.requires.h_in_bounds _ _ _ _ (rw v.loan.limit at c.tell-p.ensures.told))

pub drain-requires-clause-s_in_bounds : goal.drain-requires-clause-s_in_bounds
drain-requires-clause-s_in_bounds c = let v = c.visit-t.ensures in rw (loan_then v.loan c.tell-p.ensures.loan).limit (term-fit _ _ _ _ _ _ _ c.requires.read v.turned c.requires.h_in_bounds _ _ _ _ (rw v.loan.limit at c.tell-p.ensures.told))

pub returns : goal.returns
returns c =
    let v = c.visit-t.ensures in
    let l = loan_then v.loan c.tell-p.ensures.loan in
    record { loan = loan_then l c.drain.ensures.loan; writes = term-writes _ _ _ _ _ _ _ c.requires.read v.turned c.requires.h_in_bounds _ _ _ _ (rw v.loan.limit at c.tell-p.ensures.told) _ _ _ _ (rw l.limit at c.drain.ensures.writes) }
