use Rattle.std.proofs.lemmas.Result.{err_from_is_err_and}
use Rattle.book.proofs.Wholes.{part-long}
use Rattle.book.proofs.Asked.{mapped-ok, mapped-err, judged-first, was_read, both-refused, question-refused, question-accepted}
use Rattle.book.proofs.judge.check_question.Goals as goal

pub returns-in_err-b : goal.returns-in_err-b
returns-in_err-b c =
    let m = mapped-err _ c.read_book.result c.map_err.result c.map_err.ensures.cases c.in_err-b.was in
    let p = err_from_is_err_and c.from_residual.result c.from_residual.ensures.1 in
    rw (p.1, p.2, m.1.1) (both-refused _ _ (judged-first _ _ _ c.read_book.ensures m.1.0))

pub slice_bounds-cons-end : goal.slice_bounds-cons-end
slice_bounds-cons-end c = let r = was_read _ _ _ c.read_book.ensures (mapped-ok _ c.read_book.result c.map_err.result c.map_err.ensures.cases c.in_ok-b.was) in r.cons-few

pub slice_bounds-read_question-end : goal.slice_bounds-read_question-end
slice_bounds-read_question-end c = let r = was_read _ _ _ c.read_book.ensures (mapped-ok _ c.read_book.result c.map_err.result c.map_err.ensures.cases c.in_ok-b.was) in part-long _ _ r.cons-few

pub slice_bounds-funcs-end : goal.slice_bounds-funcs-end
slice_bounds-funcs-end c = let r = was_read _ _ _ c.read_book.ensures (mapped-ok _ c.read_book.result c.map_err.result c.map_err.ensures.cases c.in_ok-b.was) in r.funcs-few

pub slice_bounds-read_question-end-2 : goal.slice_bounds-read_question-end-2
slice_bounds-read_question-end-2 c = let r = was_read _ _ _ c.read_book.ensures (mapped-ok _ c.read_book.result c.map_err.result c.map_err.ensures.cases c.in_ok-b.was) in part-long _ _ r.funcs-few

pub returns-in_err-map_err : goal.returns-in_err-map_err
returns-in_err-map_err c =
    let r = was_read _ _ _ c.read_book.ensures (mapped-ok _ c.read_book.result c.map_err.result c.map_err.ensures.cases c.in_ok-b.was) in
    let m = mapped-err _ c.read_question.result c.map_err-2.result c.map_err-2.ensures.cases c.in_err-map_err.was in
    let p = err_from_is_err_and c.from_residual-in_err-map_err.result c.from_residual-in_err-map_err.ensures.1 in
    rw (p.1, p.2, m.1.1) (question-refused _ _ _ _ r c.read_question.ensures m.1.0)

pub returns : goal.returns
returns c =
    let r = was_read _ _ _ c.read_book.ensures (mapped-ok _ c.read_book.result c.map_err.result c.map_err.ensures.cases c.in_ok-b.was) in
    question-accepted _ _ _ _ r c.read_question.ensures (mapped-ok _ c.read_question.result c.map_err-2.result c.map_err-2.ensures.cases c.in_ok-map_err.was)
