use Rattle.std.proofs.Common.{ℕ, List, ◌*◌, ◌/◌, ◌%◌, ◌≡◌, refl, get_or, length, take, sym, ap, ◌∙◌, arith}
use Rattle.std.proofs.lemmas.List.{take_all}
use Rattle.lines.specs.Written.{hex}
use Rattle.lines.proofs.Hex.{spelled-more}
use Rattle.lines.proofs.spell.Goals as goal

pub loop-i-init : goal.loop-i-init
unfolding hex
loop-i-init c = refl

pub loop-i-preserved : goal.loop-i-preserved
loop-i-preserved c =
    let x = get_or c.args.bytes.now c.loop-i.i 0 in
    let fits = c.type_inv.bytes c.loop-i.i in
    let high : x / 16 % 16 ≡ x / 16 = omega arith in
    let low : x % 16 % 16 ≡ x % 16 = omega arith in
    spelled-more c.args.bytes.now c.loop-i.out c.loop-i.i _ _ c.loop-i-test.true (omega arith) c.loop-i.invariant (rw high at c.digit.ensures) (rw low at c.digit-in-loop-i.ensures)

all_spelled : (s out : List ℕ) (i : ℕ) → i ≡ length s → take (2 * i) out ≡ hex (take i s) → take (2 * length s) out ≡ hex s
all_spelled s out i e h = ap (λ (k : ℕ). take (2 * k) out) (sym e) ∙ h ∙ ap hex (take_all i s (omega arith))

pub returns : goal.returns
returns c = all_spelled c.args.bytes.now c.loop-i.out c.loop-i.i (omega arith) c.loop-i.invariant
