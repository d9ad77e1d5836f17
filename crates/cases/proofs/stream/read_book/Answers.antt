use Rattle.input.proofs.Reading.{lost-then}
use Rattle.cases.proofs.stream.read_book.Goals as goal

pub returns : goal.returns
returns g c = record { lost = lost-then c.read_full.ensures.lost c.skip.ensures.lost }
