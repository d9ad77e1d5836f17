use Rattle.compiler.proofs.Writing.{emits_then, emits-as}
use Rattle.compiler.proofs.Loops.{row-part}
use Rattle.compiler.proofs.position.put_load.Goals as goal

pub returns : goal.returns
returns c = emits_then c.put-p.ensures (emits-as c.put.ensures _ (row-part _ _))
