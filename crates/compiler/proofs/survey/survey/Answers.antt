use mathlib.Core.Path.{refl}
use Rattle.std.proofs.lemmas.Result.{err_from_is_err_and}
use Rattle.compiler.proofs.Filling.{types-known, book-known, survey-got, survey-lost, survey-is}
use Rattle.compiler.proofs.survey.survey.Goals as goal

pub returns-in_err-sizes : goal.returns-in_err-sizes
returns-in_err-sizes c = let p = err_from_is_err_and c.from_residual.result c.from_residual.ensures.1 in rw (p.1, p.2) (survey-lost _ _ _ c.read_book.ensures c.in_err-sizes.was)

pub note_types-requires : goal.note_types-requires
note_types-requires c = types-known _ _ _ _ (survey-got _ _ _ c.read_book.ensures c.in_ok-sizes.was)

pub returns : goal.returns
returns c = survey-is _ _ (book-known _ _ _ _ (survey-got _ _ _ c.read_book.ensures c.in_ok-sizes.was) _ _ refl refl refl c.read_book.auto.cons c.note_types.ensures)
