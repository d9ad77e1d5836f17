use Rattle.run.proofs.Looping.{going_start, going-past, going_done, going-never}
use Rattle.run.proofs.loops.run_from.Goals as goal

pub loop-init : goal.loop-init
loop-init c = going_start _ _ _ _ _ _ c.requires.bounded.0 c.requires.bounded.1 c.requires.runs

pub step-requires : goal.step-requires
step-requires c = let G = c.loop.invariant in record { bounded = G.bounded; code_len_bound = c.requires.code_len_bound; runs = G.runs }

pub returns-in-Err : goal.returns-in-Err
returns-in-Err c = going_done _ _ _ _ _ _ _ _ _ _ _ _ c.loop.invariant _ _ c.in-Err.is c.step.ensures

pub loop-preserved : goal.loop-preserved
loop-preserved c = going-past _ _ _ _ _ _ _ _ _ _ _ _ c.loop.invariant _ _ c.in-Ok.is c.step.ensures

pub returns : goal.returns
returns c = absurd (going-never _ _ _ _ _ _ _ _ _ _ c.loop-test.false c.loop.invariant)
