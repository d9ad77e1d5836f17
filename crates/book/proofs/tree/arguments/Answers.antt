use Rattle.book.proofs.Wholes.{take-ones}
use mathlib.Core.Path.{refl}
use native.Mathlib.Omega.{arith}
use Rattle.book.proofs.tree.arguments.Goals as goal

pub returns : goal.returns
returns c = (record { few = omega arith; long = refl }, take-ones 64 c.args.n (omega arith))
