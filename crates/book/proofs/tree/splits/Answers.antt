use native.Mathlib.Omega.{arith}
use Rattle.book.proofs.Places.{split-none, split-deep, split-type, split-can, split-over}
use Rattle.book.proofs.tree.splits.Goals as goal

pub returns-then-slots-slot : goal.returns-then-slots-slot
returns-then-slots-slot c = split-none _ _ _ _ c.requires.1 c.if-slots-slot.true

pub returns-then-slots-slot-ge8 : goal.returns-then-slots-slot-ge8
returns-then-slots-slot-ge8 c = split-deep _ _ _ _ c.requires.1 c.if-slots-slot.false c.if-slots-slot-ge8.true

pub returns-then-types-ty : goal.returns-then-types-ty
returns-then-types-ty c = split-type _ _ _ _ c.requires.1 c.if-slots-slot.false c.if-slots-slot-ge8.false (omega (arith, c.requires.0.many, c.if-types-ty.true))

pub returns-then-all_fit : goal.returns-then-all_fit
returns-then-all_fit c = split-can _ _ _ _ c.requires.1 c.if-slots-slot.false c.if-slots-slot-ge8.false (omega (arith, c.requires.0.many, c.if-types-ty.false)) c.type_at-i.ensures c.all_fit.ensures c.if-all_fit.true

pub returns-else-all_fit : goal.returns-else-all_fit
returns-else-all_fit c = split-over _ _ _ _ c.requires.1 c.if-slots-slot.false c.if-slots-slot-ge8.false (omega (arith, c.requires.0.many, c.if-types-ty.false)) c.type_at-i.ensures c.all_fit.ensures c.if-all_fit.false
