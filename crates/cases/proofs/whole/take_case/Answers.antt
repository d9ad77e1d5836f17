use Rattle.std.proofs.Common.{arith}
use Rattle.input.proofs.Reading.{lost-then}
use Rattle.cases.proofs.Reading.{case-taken}
use Rattle.cases.proofs.whole.take_case.Goals as goal

pub returns-in_err-asked-clause-lost : goal.returns-in_err-asked-clause-lost
returns-in_err-asked-clause-lost g c = lost-then c.read_book.ensures.lost c.read_question.ensures.lost

pub returns-in_default-clause-lost : goal.returns-in_default-clause-lost
returns-in_default-clause-lost g c = lost-then c.read_book.ensures.lost c.read_question.ensures.lost

pub returns : goal.returns
returns g c = record {
  taken = case-taken c.args.case c.read_book.new.book _ _ _ _ _ (omega (arith, c.read_book.auto.book, c.requires.0)) c.min-m.ensures (rw c.in-Some.is at c.in_ok-asked.ensures.read) c.run_case.ensures;
  err = tt;
  lost = lost-then c.read_book.ensures.lost c.read_question.ensures.lost;
}
