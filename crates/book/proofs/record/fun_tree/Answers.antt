use native.Mathlib.Omega.{arith}
use mathlib.Core.Path.{refl, ap}
use Rattle.std.proofs.Common.{rules}
use Rattle.book.specs.declared.Kind.TheVariants as kind
use Rattle.book.specs.Kinds.{by_number}
use Rattle.book.proofs.Numbers.{same-number, other-number}
use Rattle.book.proofs.Records.{of-known}
use Rattle.book.proofs.Starts.{loop-end, loop-bad, loop-this, loop-next, loop-other, tree-stands}
use Rattle.book.proofs.record.fun_tree.Goals as goal

pub returns-in_default : goal.returns-in_default
returns-in_default c = tree-stands _ _ (loop-bad _ c.loop-at.invariant c.rec_at.ensures (ap by_number c.in_default.is)) refl

pub returns-then-left-eq0 : goal.returns-then-left-eq0
returns-then-left-eq0 c = tree-stands _ _ (loop-this _ c.loop-at.invariant c.rec_at.ensures c.loop-at-test.true (ap by_number c.in-Ok.is) (same-number kind.Func (search rules)) c.if-left-eq0.true) refl

pub loop-at-smaller-else-left-eq0 : goal.loop-at-smaller-else-left-eq0
loop-at-smaller-else-left-eq0 c = let g = of-known _ _ c.rec_at.ensures (ap by_number c.in-Ok.is) in omega (arith, g.on, g.within, c.loop-at-test.true)

pub loop-at-preserved-else-left-eq0 : goal.loop-at-preserved-else-left-eq0
loop-at-preserved-else-left-eq0 c = loop-next _ c.loop-at.invariant c.rec_at.ensures c.loop-at-test.true (ap by_number c.in-Ok.is) (same-number kind.Func (search rules)) c.if-left-eq0.false

pub loop-at-smaller : goal.loop-at-smaller
loop-at-smaller c = let g = of-known _ _ c.rec_at.ensures (ap by_number c.in-Ok.is) in omega (arith, g.on, g.within, c.loop-at-test.true)

pub loop-at-preserved : goal.loop-at-preserved
loop-at-preserved c = loop-other _ c.loop-at.invariant c.rec_at.ensures c.loop-at-test.true (ap by_number c.in-Ok.is) (other-number {k = kind.Func} (search rules))

pub returns : goal.returns
returns c = tree-stands _ _ (loop-end _ c.loop-at.invariant c.loop-at-test.false) refl
