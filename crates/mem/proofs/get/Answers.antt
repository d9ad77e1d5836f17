-- `mem::get` meets its contract. Assumes nothing.
use native.Mathlib.Omega.{arith}
use Rattle.mem.proofs.Laws.{room, word-get}
use Rattle.mem.proofs.get.Goals as goal

pub overflow_mul-at : goal.overflow_mul-at
overflow_mul-at c = omega (arith, room _ _ c.requires)

pub bounds-s-at : goal.bounds-s-at
bounds-s-at c = omega (arith, room _ _ c.requires)

pub overflow_add-at : goal.overflow_add-at
overflow_add-at c = omega (arith, room _ _ c.requires)

pub bounds-s-at-2 : goal.bounds-s-at-2
bounds-s-at-2 c = omega (arith, room _ _ c.requires)

pub returns : goal.returns
returns c = omega (arith, word-get _ _ c.requires)
