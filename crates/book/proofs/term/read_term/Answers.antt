use native.Mathlib.Omega.{arith}
use mathlib.Core.Path.{refl}
use Rattle.std.proofs.lemmas.Result.{err_from_is_err_and}
use Rattle.book.proofs.Words.{term-end, term-fault, term-more}
use Rattle.book.proofs.term.read_term.Goals as goal

pub loop-due-init : goal.loop-due-init
loop-due-init c = (record { is = refl }, omega arith, omega arith)

pub returns-in_err-h : goal.returns-in_err-h
returns-in_err-h c = let p = err_from_is_err_and c.from_residual.result c.from_residual.ensures.1 in rw (p.1, p.2) (term-fault _ c.loop-due.invariant.0 c.loop-due-test.true c.head_at.ensures c.in_err-h.was)

pub overflow_sub-room : goal.overflow_sub-room
overflow_sub-room c = let g = term-more _ c.loop-due.invariant.0 c.loop-due-test.true c.head_at.ensures c.in_ok-h.was in omega (arith, g.0)

pub loop-due-smaller : goal.loop-due-smaller
loop-due-smaller c = let g = term-more _ c.loop-due.invariant.0 c.loop-due-test.true c.head_at.ensures c.in_ok-h.was in omega (arith, g.0)

pub loop-due-preserved : goal.loop-due-preserved
loop-due-preserved c = let g = term-more _ c.loop-due.invariant.0 c.loop-due-test.true c.head_at.ensures c.in_ok-h.was in (g.1, omega (arith, g.0), omega (arith, g.0))

pub returns : goal.returns
returns c = term-end _ c.loop-due.invariant.0 c.loop-due-test.false
