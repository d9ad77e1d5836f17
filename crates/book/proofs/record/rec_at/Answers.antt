use native.Mathlib.Omega.{arith}
use mathlib.Core.Path.{sym, ap, ◌∙◌}
use Rattle.book.specs.Kinds.{number_of}
use Rattle.book.proofs.Numbers.{other-number, number-within, number-back, no-kind}
use Rattle.book.proofs.Records.{rec-end, rec-unknown, rec-none, rec-two, rec-two-cut, rec_one, rec-one-cut}
use Rattle.book.proofs.record.rec_at.Goals as goal

pub returns-then-s-at : goal.returns-then-s-at
returns-then-s-at c = rw c.new.ensures (sym (rec-end _ _ c.if-s-at.true))

pub returns-in_default : goal.returns-in_default
returns-in_default c = rw c.new-in_default.ensures (sym (rec-unknown _ _ c.if-s-at.false (no-kind _ (sym c.of.ensures ∙ c.in_default.is))))

pub returns-in-None : goal.returns-in-None
returns-in-None c = let b = number-back _ (sym c.of.ensures ∙ c.in-Some.is) in rw b (rec-none _ _ c.if-s-at.false (sym b ∙ ap number_of c.in-None.is))

pub returns-in-Split : goal.returns-in-Split
returns-in-Split c = let b = number-back _ (sym c.of.ensures ∙ c.in-Some.is) in rw b (rec-two _ _ c.if-s-at.false (sym b ∙ ap number_of c.in-Split.is) c.if-left-ge3.true)

pub returns-in-Split-2 : goal.returns-in-Split-2
returns-in-Split-2 c = let b = number-back _ (sym c.of.ensures ∙ c.in-Some.is) in rw c.new-in-Split-2.ensures (rec-two-cut _ _ c.if-s-at.false (sym b ∙ ap number_of c.in-Split-2.is) c.if-left-ge3.false)

pub returns-in_default-kind : goal.returns-in_default-kind
returns-in_default-kind c =
    let b = number-back _ (sym c.of.ensures ∙ c.in-Some.is) in
    let w = number-within c.in-Some.kind in
    let n = other-number c.in_default-kind.not-None in
    rw b (rec_one _ _ c.if-s-at.false (omega (arith, w.0, b)) (omega (arith, w.1, b, n)) (λ q. other-number c.in_default-kind.not-Split (b ∙ q)) c.if-left-ge2.true)

pub returns-in_default-2 : goal.returns-in_default-2
returns-in_default-2 c =
    let b = number-back _ (sym c.of.ensures ∙ c.in-Some.is) in
    let w = number-within c.in-Some.kind in
    let n = other-number c.in_default-2.not-None in
    rw c.new-in_default-2.ensures (rec-one-cut _ _ c.if-s-at.false (omega (arith, w.0, b)) (omega (arith, w.1, b, n)) (λ q. other-number c.in_default-2.not-Split (b ∙ q)) c.if-left-ge2.false)
