use mathlib.Core.Path.{◌≡◌}
use Prim.Native.Nat.{◌*◌, ◌≤◌}
use Rattle.compiler.specs.Tables.{front_at}
use Rattle.compiler.proofs.survey.front_at.Given as goal

abbrev pub invariant-loop-t : goal.invariant-loop-t
invariant-loop-t l = (l.at ≡ front_at l.lore l.t) × (l.at ≤ 512 * l.t)
