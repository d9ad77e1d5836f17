use Rattle.std.proofs.lemmas.Result.{IfOk-weaker}
use Rattle.input.proofs.Reading.{lost-then}
use Rattle.cases.proofs.Reading.{part-shown}
use Rattle.cases.proofs.stream.read_question.Goals as goal

pub returns : goal.returns
returns g c = record {
  read = IfOk-weaker c.look_on.result _ _ (λ x s. part-shown c.args.question.now c.read_full.new.buf _ c.read_full.auto.buf _ c.min-m.ensures x s) c.look_on.ensures.read;
  lost = lost-then c.read_full.ensures.lost c.look_on.ensures.lost;
}
