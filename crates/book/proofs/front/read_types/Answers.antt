use native.Mathlib.Omega.{arith}
use Rattle.std.proofs.lemmas.Result.{err_from_is_err_and}
use Rattle.std.proofs.Common.{rules}
use Rattle.book.specs.declared.Kind.TheVariants as kind
use Rattle.book.specs.Kinds.{by_number}
use Rattle.book.proofs.Numbers.{same-number, other-number}
use Rattle.book.proofs.Fronts.{types-start, types-bad, types-stop, types-many, types-none, types-over, types-fault, types_more}
use Rattle.book.proofs.Wholes.{types-read}
use mathlib.Core.Path.{refl, ap}
use Rattle.book.proofs.front.read_types.Goals as goal

pub loop-r-init : goal.loop-r-init
loop-r-init c = (types-start _ _ c.requires, omega arith)

pub returns-in_default : goal.returns-in_default
returns-in_default c = types-read _ (types-bad _ c.loop-r.invariant.0 c.rec_at.ensures (ap by_number c.in_default.is))

pub returns-then-ne : goal.returns-then-ne
returns-then-ne c = types-read _ (types-stop _ c.loop-r.invariant.0 c.rec_at.ensures (ap by_number c.in-Ok.is) (other-number {k = kind.Type} (search rules)))

pub returns-then-types-ge64 : goal.returns-then-types-ge64
returns-then-types-ge64 c = rw c.new.ensures (types-many _ c.loop-r.invariant.0 c.rec_at.ensures (ap by_number c.in-Ok.is) c.loop-r.invariant.1 (same-number kind.Type (search rules)) c.if-types-ge64.true)

pub returns-then-r-eq0 : goal.returns-then-r-eq0
returns-then-r-eq0 c = rw c.new-then-r-eq0.ensures (types-none _ c.loop-r.invariant.0 c.rec_at.ensures (ap by_number c.in-Ok.is) c.loop-r.invariant.1 (same-number kind.Type (search rules)) c.if-types-ge64.false c.if-r-eq0.true)

pub returns-then-r-gt32 : goal.returns-then-r-gt32
returns-then-r-gt32 c = rw c.new-then-r-gt32.ensures (types-over _ c.loop-r.invariant.0 c.rec_at.ensures (ap by_number c.in-Ok.is) c.loop-r.invariant.1 (same-number kind.Type (search rules)) c.if-types-ge64.false c.if-r-eq0.false c.if-r-gt32.true)

pub returns-in_err-at : goal.returns-in_err-at
returns-in_err-at c = let p = err_from_is_err_and c.from_residual.result c.from_residual.ensures.1 in rw (p.1, p.2) (types-fault _ c.loop-r.invariant.0 c.rec_at.ensures (ap by_number c.in-Ok.is) c.loop-r.invariant.1 (same-number kind.Type (search rules)) c.if-types-ge64.false c.if-r-eq0.false c.if-r-gt32.false refl _ _ c.read_cons.ensures c.in_err-at.was)

pub loop-r-preserved : goal.loop-r-preserved
loop-r-preserved c = (types_more _ c.loop-r.invariant.0 c.rec_at.ensures (ap by_number c.in-Ok.is) c.loop-r.invariant.1 (same-number kind.Type (search rules)) c.if-types-ge64.false c.if-r-eq0.false c.if-r-gt32.false refl _ _ c.read_cons.ensures c.in_ok-at.was, omega (arith, c.if-types-ge64.false))
