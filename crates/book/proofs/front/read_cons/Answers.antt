use Prim.Native.Nat.{◌+◌, ◌-◌}
use mathlib.Core.Path.{◌≡◌, ap}
use native.Mathlib.Omega.{arith}
use Rattle.std.proofs.lemmas.Result.{err_from_is_err_and}
use Rattle.std.proofs.Common.{rules}
use Rattle.book.specs.declared.Kind.TheVariants as kind
use Rattle.book.specs.Kinds.{by_number}
use Rattle.book.proofs.Numbers.{same-number, other-number}
use Rattle.book.proofs.Fronts.{cons-end, cons-bad, cons-odd, cons-many, cons-arity, cons-more}
use Rattle.book.proofs.front.read_cons.Goals as goal

pub returns-in_err-r : goal.returns-in_err-r
returns-in_err-r c = let p = err_from_is_err_and c.from_residual.result c.from_residual.ensures.1 in rw (p.1, p.2) (cons-bad _ c.loop-i.invariant (omega arith) c.rec_at.ensures (ap by_number c.in_err-r.was))

pub returns-then-ne : goal.returns-then-ne
returns-then-ne c = rw c.new.ensures (cons-odd _ c.loop-i.invariant (omega arith) c.rec_at.ensures (ap by_number c.in_ok-r.was) (other-number {k = kind.Cons} (search rules)))

pub returns-then-before-i-ge256 : goal.returns-then-before-i-ge256
returns-then-before-i-ge256 c = rw c.new-then-before-i-ge256.ensures (cons-many _ c.loop-i.invariant (omega arith) c.rec_at.ensures (ap by_number c.in_ok-r.was) (same-number kind.Cons (search rules)) c.if-before-i-ge256.true)

pub returns-then-r-gt8 : goal.returns-then-r-gt8
returns-then-r-gt8 c = rw c.new-then-r-gt8.ensures (cons-arity _ c.loop-i.invariant (omega arith) c.rec_at.ensures (ap by_number c.in_ok-r.was) (same-number kind.Cons (search rules)) c.if-before-i-ge256.false c.if-r-gt8.true)

pub loop-i-preserved : goal.loop-i-preserved
loop-i-preserved c =
    let b = c.args.before in
    let i = c.loop-i.i in
    let e : b + (i + 1) ≡ b + i + 1 = omega arith in
    let f : c.args.n - (i + 1) ≡ c.args.n - i - 1 = omega arith in
    rw (e, f) (cons-more _ c.loop-i.invariant (omega arith) c.rec_at.ensures (ap by_number c.in_ok-r.was) (same-number kind.Cons (search rules)) c.if-before-i-ge256.false c.if-r-gt8.false)

pub returns : goal.returns
returns c = cons-end _ c.loop-i.invariant (omega arith)
