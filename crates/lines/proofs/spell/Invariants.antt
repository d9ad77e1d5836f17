use Rattle.std.proofs.Common.{◌≡◌, ◌*◌, take}
use Rattle.lines.specs.Written.{hex}
use Rattle.lines.proofs.spell.Given as goal

abbrev pub invariant-loop-i : goal.invariant-loop-i
invariant-loop-i l = take (2 * l.i) l.out ≡ hex (take l.i l.bytes)
