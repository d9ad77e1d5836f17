use Prim.Native.Nat.{◌+◌, ◌-◌, ◌*◌}
use mathlib.Core.Path.{◌≡◌, refl}
use native.Mathlib.Omega.{arith}
use Rattle.book.proofs.Fronts.{fit-end, fit-over, fit-more}
use Rattle.book.proofs.tree.all_fit.Goals as goal

pub returns-then-have-s-gt64 : goal.returns-then-have-s-gt64
returns-then-have-s-gt64 c = fit-over _ c.loop-i.invariant (omega arith) refl c.if-have-s-gt64.true

pub loop-i-preserved : goal.loop-i-preserved
loop-i-preserved c =
    let i = c.loop-i.i in
    let e : c.args.cons + 2 * (i + 1) ≡ c.args.cons + 2 * i + 2 = omega arith in
    let f : c.args.n - (i + 1) ≡ c.args.n - i - 1 = omega arith in
    rw (e, f) (fit-more _ c.loop-i.invariant (omega arith) refl c.if-have-s-gt64.false)

pub returns : goal.returns
returns c = fit-end _ c.loop-i.invariant (omega arith)
