-- Where book and question are accepted, `accepted` says what holds, and `size-lent` that the work memory is as long as it is asked to be.
use native.Mathlib.Omega.{arith}
use mathlib.Core.Path.{sym}
use lib.Seq.{length-take-le}
use Rattle.std.proofs.lemmas.Result.{err_from_is_err_and}
use Rattle.run.specs.Passed.{Passed}
use Rattle.run.proofs.Outcomes.{ran-limits, ran-refused, all-passed, size-asks, size-lent, part-passed, ran-part}
use Rattle.run.proofs.whole.run_checked.Goals as goal
use Rattle.run.proofs.whole.run_checked.Goals.{In_ok-check_question}

accepted : (c : In_ok-check_question) → Passed c.args.limits c.args.book.now c.args.question.now c.args.work.now c.args.code.now c.args.results.now
accepted c = all-passed _ _ _ _ _ _ _ c.fit.ensures c.if-not-fit.false _ _ c.check_question.ensures c.in_ok-check_question.was

pub returns-then-not-fit : goal.returns-then-not-fit
returns-then-not-fit c = ran-limits _ _ _ _ _ _ _ c.fit.ensures c.if-not-fit.true

pub returns-in_err-check_question : goal.returns-in_err-check_question
returns-in_err-check_question c = let p = err_from_is_err_and c.from_residual.result c.from_residual.ensures.1 in ran-refused _ _ _ _ _ _ _ c.fit.ensures c.if-not-fit.false _ _ c.check_question.ensures c.in_err-check_question.was _ _ p.1 p.2

pub work_size-size-requires : goal.work_size-size-requires
work_size-size-requires c = size-asks _ _ _ _ _ _ (accepted (goal.at.work_size-size-requires c).In_ok-check_question)

pub slice_bounds-run_accepted-end : goal.slice_bounds-run_accepted-end
slice_bounds-run_accepted-end c = let k = size-lent _ _ _ _ _ _ (accepted (goal.at.slice_bounds-run_accepted-end c).In_ok-check_question) in omega (arith, c.work_size-size.ensures)

pub slice_bounds-run_accepted-end-2 : goal.slice_bounds-run_accepted-end-2
slice_bounds-run_accepted-end-2 c = let k = size-lent _ _ _ _ _ _ (accepted (goal.at.slice_bounds-run_accepted-end-2 c).In_ok-check_question) in sym (length-take-le _ _ (omega (arith, c.work_size-size.ensures)))

pub run_accepted-requires : goal.run_accepted-requires
run_accepted-requires c =
    let p = accepted (goal.at.run_accepted-requires c).In_ok-check_question in
    let k = size-lent _ _ _ _ _ _ p in
    part-passed _ _ _ _ _ _ p _ (omega (arith, c.work_size-size.ensures)) (omega (arith, c.work_size-size.ensures))

pub returns : goal.returns
returns c = ran-part _ _ _ _ _ _ (accepted (goal.at.returns c).In_ok-check_question) _ c.work_size-size.ensures _ _ _ _ c.run_accepted.auto.work c.run_accepted.ensures
