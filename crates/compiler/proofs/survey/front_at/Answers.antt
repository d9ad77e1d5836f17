use native.Mathlib.Omega.{arith}
use mathlib.Core.Path.{sym}
use Rattle.compiler.proofs.Filling.{front-more, front-none}
use Rattle.compiler.proofs.survey.front_at.Goals as goal

pub loop-t-init : goal.loop-t-init
loop-t-init c = (sym (front-none _), omega arith)

pub loop-t-preserved : goal.loop-t-preserved
loop-t-preserved c = let e = front-more c.args.lore.now c.loop-t.t in (omega arith, omega (arith))
