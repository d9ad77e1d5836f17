use Rattle.std.proofs.lemmas.Result.{err_from_is_err_and}
use Rattle.book.proofs.Asked.{mapped-ok, mapped-err, judged-first, was_read, book-refused, book-accepted}
use Rattle.book.proofs.judge.check_book.Goals as goal

pub returns-in_err-map_err : goal.returns-in_err-map_err
returns-in_err-map_err c =
    let m = mapped-err _ c.read_book.result c.map_err.result c.map_err.ensures.cases c.in_err-map_err.was in
    let p = err_from_is_err_and c.from_residual.result c.from_residual.ensures.1 in
    rw (p.1, p.2, m.1.1) (book-refused _ (judged-first _ _ _ c.read_book.ensures m.1.0))

pub returns : goal.returns
returns c = let m = mapped-ok _ c.read_book.result c.map_err.result c.map_err.ensures.cases c.in_ok-map_err.was in book-accepted _ _ _ (was_read _ _ _ c.read_book.ensures m)
