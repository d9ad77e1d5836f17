use native.Mathlib.Omega.{arith}
use mathlib.Core.Path.{refl}
use Rattle.std.proofs.lemmas.Result.{err_from_is_err_and}
use Rattle.compiler.specs.Rows.{row}
use Rattle.compiler.proofs.Wholes.{surveyed, known, answer-fault, answer-long, answer-fits}
use Rattle.compiler.proofs.whole.compile_into.Goals as goal

pub returns-in_err-lore : goal.returns-in_err-lore
returns-in_err-lore c = let p = err_from_is_err_and c.from_residual.result c.from_residual.ensures.1 in rw (p.1, p.2) (answer-fault _ _ _ _ c.survey.ensures c.in_err-lore.was)

pub code_length-long-requires : goal.code_length-long-requires
code_length-long-requires c = surveyed (known _ c.survey.ensures c.in_ok-lore.was)

pub returns-then-room-long : goal.returns-then-room-long
returns-then-room-long c = let k = known _ c.survey.ensures c.in_ok-lore.was in answer-long _ _ _ _ _ _ k (c.code_length-long.ensures (surveyed k)) c.if-room-long.true

pub compile_book-requires-clause-book_known : goal.compile_book-requires-clause-book_known
compile_book-requires-clause-book_known c = known _ c.survey.ensures c.in_ok-lore.was

pub compile_book-requires-clause-book_in_bounds : goal.compile_book-requires-clause-book_in_bounds
compile_book-requires-clause-book_in_bounds c = λ x. (let e = c.code_length-long.ensures (surveyed x) in (omega arith, omega arith))

pub compile_book-requires-clause-in_bounds : goal.compile_book-requires-clause-in_bounds
unfolding row
compile_book-requires-clause-in_bounds c = (c.requires.2, refl)

pub returns : goal.returns
returns c = let k = known _ c.survey.ensures c.in_ok-lore.was in answer-fits _ _ _ _ _ _ _ _ k (c.code_length-long.ensures (surveyed k)) c.if-room-long.false c.requires.0 (c.compile_book.ensures k)
