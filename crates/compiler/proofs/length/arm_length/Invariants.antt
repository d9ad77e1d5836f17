use mathlib.Core.Path.{◌≡◌}
use Prim.Native.Nat.{◌+◌, ◌*◌, ◌≤◌}
use lib.ListN.{drop}
use Rattle.compiler.specs.Records.{arm_cost}
use Rattle.compiler.specs.Rows.{arm_at}
use Rattle.compiler.proofs.length.arm_length.Given as goal

abbrev pub invariant-loop-a : goal.invariant-loop-a
invariant-loop-a l = (l.sum + arm_cost (drop l.a-index l.a-items) ≡ arm_at l.lore.cons l.c l.n + 1) × (l.sum ≤ 258 * l.a-index + 1)
