use native.Mathlib.Omega.{arith}
use mathlib.Core.Path.{refl, ◌∙◌}
use Rattle.store.proofs.Writes.{pasted, filled_zero}
use Rattle.store.proofs.put_args.Goals as goal

pub loop-j-init : goal.loop-j-init
loop-j-init c = record { so_far = filled_zero _ _ _; long = refl }

pub loop-j-preserved : goal.loop-j-preserved
loop-j-preserved c = let i = c.loop-j.invariant in record {
  so_far = pasted _ _ _ _ _ _ (omega arith) (omega arith) i.so_far c.put.ensures.is;
  long = c.put.ensures.long ∙ i.long;
}
