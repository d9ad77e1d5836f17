use Rattle.compiler.proofs.Trees.{grow-kept}
use Rattle.compiler.proofs.position.grow.Goals as goal

pub put_step-requires-clause-fact : goal.put_step-requires-clause-fact
put_step-requires-clause-fact c = let k = grow-kept _ _ _ _ _ _ c.loop-i.invariant c.loop-i-test.true c.requires.in_bounds.1 c.requires.in_bounds.0 c.requires.fact.0 c.requires.fact.1 in (k.1, k.0)
