-- `mem::put` meets its contract. Assumes nothing.
use native.Mathlib.Omega.{arith}
use mathlib.Core.Path.{◌≡◌}
use Prim.Native.Nat.{◌/◌, ◌%◌}
use lib.ListN.{length-set}
use Rattle.mem.proofs.Laws.{room, word-wrote}
use Rattle.mem.proofs.put.Goals as goal

pub overflow_mul-at : goal.overflow_mul-at
overflow_mul-at c = omega (arith, room _ _ c.requires)

pub bounds-s-at : goal.bounds-s-at
bounds-s-at c = omega (arith, room _ _ c.requires)

pub overflow_add-s : goal.overflow_add-s
overflow_add-s c = omega (arith, room _ _ c.requires)

pub bounds-s-at-2 : goal.bounds-s-at-2
bounds-s-at-2 c = simp length-set (omega (arith, room _ _ c.requires))

pub returns : goal.returns
returns c = let high : c.args.v / 256 % 256 ≡ c.args.v / 256 = omega arith in rw (c.to_le_bytes.ensures, high) (word-wrote _ _ _ c.requires)
