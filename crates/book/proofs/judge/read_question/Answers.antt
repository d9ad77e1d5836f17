use Rattle.std.proofs.lemmas.Result.{err_from_is_err_and}
use Rattle.book.proofs.Asked.{ask-first, ask-right, ask-over, ask-ok}
use Rattle.book.proofs.judge.read_question.Goals as goal

pub returns-in_err-whole : goal.returns-in_err-whole
returns-in_err-whole c = let p = err_from_is_err_and c.from_residual.result c.from_residual.ensures.1 in rw (p.1, p.2) (ask-first _ _ _ c.whole.ensures c.in_err-whole.was)

pub returns-in_err-e : goal.returns-in_err-e
returns-in_err-e c = let p = err_from_is_err_and c.from_residual-in_err-e.result c.from_residual-in_err-e.ensures.1 in rw (p.1, p.2) (ask-right _ _ _ c.whole.ensures c.in_ok-whole.was c.read_right.ensures c.in_err-e.was)

pub returns-then-e-q : goal.returns-then-e-q
returns-then-e-q c = rw c.new.ensures (ask-over _ _ _ c.whole.ensures c.in_ok-whole.was c.read_right.ensures c.in_ok-e.was c.if-e-q.true)

pub returns : goal.returns
returns c = ask-ok _ _ _ c.whole.ensures c.in_ok-whole.was c.read_right.ensures c.in_ok-e.was c.if-e-q.false
