use Rattle.machine.proofs.Runs.{choice-empty, choice-is}
use native.Mathlib.Omega.{arith}
use Rattle.machine.proofs.ops.choice.Goals as goal

pub returns-then-regs-eq0 : goal.returns-then-regs-eq0
returns-then-regs-eq0 c = rw c.ends.ensures (choice-empty _ _ _ _ _ c.requires.fine c.if-regs-eq0.true)

pub returns : goal.returns
returns c = rw c.ends-2.ensures (choice-is _ _ _ _ _ c.requires.fine _ (omega arith) c.follow-at.ensures)
