use Rattle.machine.proofs.Runs.{replace-empty, replace-lost, replace-is}
use native.Mathlib.Omega.{arith}
use Rattle.machine.proofs.ops.replace.Goals as goal

pub returns-then-regs-eq0 : goal.returns-then-regs-eq0
returns-then-regs-eq0 c = rw c.ends.ensures (replace-empty _ _ _ _ _ c.requires.fine c.if-regs-eq0.true)

pub returns-in_default : goal.returns-in_default
returns-in_default c = rw c.ends-in_default.ensures (replace-lost _ _ _ _ _ c.requires.fine (omega arith) c.in_default.is)

pub returns : goal.returns
returns c = rw c.ends-2.ensures (replace-is _ _ _ _ _ c.requires.fine _ _ (omega arith) c.in-Some.is c.follow-at.ensures)
