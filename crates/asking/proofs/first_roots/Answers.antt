use native.Mathlib.Omega.{arith}
use mathlib.Core.Path.{refl}
use lib.ListN.{length-set}
use Rattle.asking.proofs.Pours.{first-none, first_step}
use Rattle.asking.proofs.first_roots.Goals as goal

pub loop-j-init : goal.loop-j-init
loop-j-init c = (first-none _, refl)

pub loop-j-preserved : goal.loop-j-preserved
loop-j-preserved c = let i = c.loop-j.invariant in (first_step _ _ _ _ i.1 (omega arith) i.0 refl, simp length-set i.1)
