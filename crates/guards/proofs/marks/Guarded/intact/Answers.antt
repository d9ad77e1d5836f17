use Rattle.std.proofs.Common.{◌∙◌}
use Rattle.guards.proofs.Seen.{filled_none, filled_more, filled-upto}
use Rattle.guards.proofs.marks.Guarded.intact.Goals as goal

pub loop-i-init : goal.loop-i-init
loop-i-init g c = filled_none _ _

pub loop-i-preserved : goal.loop-i-preserved
loop-i-preserved g c = filled_more _ _ _ c.loop-i.invariant (c.if-self-i.false ∙ c.pattern.ensures)

pub returns : goal.returns
returns g c = λ e. filled-upto _ _ _ _ c.loop-i.invariant c.loop-i-test.false
