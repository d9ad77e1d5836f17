use mathlib.Core.Path.{ap}
use native.Mathlib.Omega.{arith}
use Rattle.std.proofs.lemmas.Result.{err_from_is_err_and}
use Rattle.book.specs.Kinds.{by_number}
use Rattle.book.proofs.Records.{of-known}
use Rattle.book.proofs.Scans.{scan-start, scan-end, scan-bad, scan-any}
use Rattle.book.proofs.record.whole.Goals as goal

pub loop-at-init : goal.loop-at-init
loop-at-init c = record { count = 0; scans = scan-start _ _ }

pub returns-in_err-at : goal.returns-in_err-at
returns-in_err-at c = let p = err_from_is_err_and c.from_residual.result c.from_residual.ensures.1 in rw (p.1, p.2) (scan-bad _ _ c.loop-at.invariant.scans c.loop-at-test.true c.rec_at.ensures (ap by_number c.in_err-at.was))

pub loop-at-smaller : goal.loop-at-smaller
loop-at-smaller c = let g = of-known _ _ c.rec_at.ensures (ap by_number c.in_ok-at.was) in omega (arith, g.on, g.within, c.loop-at-test.true)

pub loop-at-preserved : goal.loop-at-preserved
loop-at-preserved c = scan-any _ c.loop-at.invariant c.loop-at-test.true c.rec_at.ensures (ap by_number c.in_ok-at.was)

pub returns : goal.returns
returns c = scan-end _ _ c.loop-at.invariant.scans c.loop-at-test.false
