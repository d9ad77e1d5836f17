use native.Mathlib.Omega.{arith}
use mathlib.Core.Path.{refl}
use lib.ListN.{length-set}
use Rattle.asking.proofs.Terms.{taken_step}
use Rattle.asking.proofs.take_terms.Goals as goal

pub loop-j-preserved : goal.loop-j-preserved
loop-j-preserved c = let i = c.loop-j.invariant in (taken_step _ _ _ _ _ _ _ _ i.1 (omega arith) (omega arith) i.0 refl c.rest.ensures, simp length-set i.1, i.2)
