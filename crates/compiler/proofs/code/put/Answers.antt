use native.Mathlib.Omega.{arith}
use mathlib.Core.Path.{refl}
use Rattle.compiler.proofs.Writing.{pasted}
use Rattle.compiler.proofs.code.put.Goals as goal

pub returns : goal.returns
returns c = record { is = pasted _ _ _ _ _ c.copy_from_slice.ensures.after (omega arith) c.requires; next = refl }
