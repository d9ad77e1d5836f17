use Rattle.compiler.proofs.Rowing.{stepped}
use Rattle.compiler.proofs.position.put_step.Goals as goal

pub returns : goal.returns
returns c = stepped _ _ _ c.told-rows c.requires.in_bounds.0 c.requires.in_bounds.1 _ _ c.copy_within.ensures.after c.requires.fact.1
