use Rattle.writer.specs.Written.{over}
use Rattle.writer.specs.Owes.{tells}
use native.Mathlib.Numerals.{add-one}
use Rattle.writer.proofs.terms.put_made.Goals as goal

pub returns : goal.returns
unfolding over tells
returns c = rw add-one
