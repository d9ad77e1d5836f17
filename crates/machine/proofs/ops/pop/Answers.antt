use Rattle.machine.proofs.Runs.{pop-empty, pop-is}
use native.Mathlib.Omega.{arith}
use Rattle.machine.proofs.ops.pop.Goals as goal

pub returns-then-regs-eq0 : goal.returns-then-regs-eq0
returns-then-regs-eq0 c = rw c.ends.ensures (pop-empty _ _ _ _ _ c.requires.fine c.if-regs-eq0.true)

pub returns : goal.returns
returns c = pop-is _ _ _ _ _ c.requires.fine _ (omega arith) c.rest-k.ensures
