use native.Mathlib.Omega.{arith}
use mathlib.Core.Path.{refl, ap}
use Rattle.std.proofs.lemmas.Result.{err_from_is_err_and}
use Rattle.std.proofs.Common.{rules}
use Rattle.book.specs.declared.Kind.TheVariants as kind
use Rattle.book.specs.Kinds.{by_number}
use Rattle.book.proofs.Numbers.{same-number, other-number}
use Rattle.book.proofs.Records.{of-known}
use Rattle.book.proofs.Scans.{scan-start, scan-bad, scan-unfit, scan-func, scan-other, fits-other, fits-func, fits-arity, fits-many, funcs-start, funcs-done, funcs-met, funcs-passed, pass-lost, pass-ok}
use Rattle.book.proofs.record.first_pass.Goals as goal

pub loop-at-init : goal.loop-at-init
loop-at-init c = (scan-start _ _, funcs-start _ _ c.requires)

pub returns-in_err-r : goal.returns-in_err-r
returns-in_err-r c = let p = err_from_is_err_and c.from_residual.result c.from_residual.ensures.1 in rw (p.1, p.2) (pass-lost _ _ (scan-bad _ _ c.loop-at.invariant.0 c.loop-at-test.true c.rec_at.ensures (ap by_number c.in_err-r.was)) c.loop-at.invariant.1.long)

pub returns-then-r-gt8 : goal.returns-then-r-gt8
returns-then-r-gt8 c = rw c.new.ensures (pass-lost _ _ (scan-unfit _ _ c.loop-at.invariant.0 c.loop-at-test.true c.rec_at.ensures (ap by_number c.in_ok-r.was) (fits-arity _ _ _ (same-number kind.Func (search rules)) c.if-r-gt8.true)) c.loop-at.invariant.1.long)

pub returns-then-funcs-ge256 : goal.returns-then-funcs-ge256
returns-then-funcs-ge256 c = rw c.new-then-funcs-ge256.ensures (pass-lost _ _ (scan-unfit _ _ c.loop-at.invariant.0 c.loop-at-test.true c.rec_at.ensures (ap by_number c.in_ok-r.was) (fits-many _ _ _ (same-number kind.Func (search rules)) c.if-r-gt8.false c.if-funcs-ge256.true)) c.loop-at.invariant.1.long)

pub loop-at-smaller-else-funcs-ge256 : goal.loop-at-smaller-else-funcs-ge256
loop-at-smaller-else-funcs-ge256 c = let g = of-known _ _ c.rec_at.ensures (ap by_number c.in_ok-r.was) in omega (arith, g.on, g.within, c.loop-at-test.true)

pub loop-at-preserved-else-funcs-ge256 : goal.loop-at-preserved-else-funcs-ge256
loop-at-preserved-else-funcs-ge256 c = (scan-func _ _ c.loop-at.invariant.0 c.loop-at-test.true c.rec_at.ensures (ap by_number c.in_ok-r.was) (fits-func _ _ _ (same-number kind.Func (search rules)) c.if-r-gt8.false c.if-funcs-ge256.false) (same-number kind.Func (search rules)), funcs-met _ c.loop-at.invariant.1 c.loop-at-test.true c.rec_at.ensures (ap by_number c.in_ok-r.was) (same-number kind.Func (search rules)) c.if-funcs-ge256.false)

pub loop-at-smaller : goal.loop-at-smaller
loop-at-smaller c = let g = of-known _ _ c.rec_at.ensures (ap by_number c.in_ok-r.was) in omega (arith, g.on, g.within, c.loop-at-test.true)

pub loop-at-preserved : goal.loop-at-preserved
loop-at-preserved c = (scan-other _ _ c.loop-at.invariant.0 c.loop-at-test.true c.rec_at.ensures (ap by_number c.in_ok-r.was) (fits-other _ _ _ (other-number {k = kind.Func} (search rules))) (other-number {k = kind.Func} (search rules)), funcs-passed _ c.loop-at.invariant.1 c.loop-at-test.true c.rec_at.ensures (ap by_number c.in_ok-r.was) (other-number {k = kind.Func} (search rules)))

pub returns : goal.returns
returns c = pass-ok _ _ (funcs-done _ c.loop-at.invariant.1 c.loop-at.invariant.0 refl c.loop-at-test.false)
