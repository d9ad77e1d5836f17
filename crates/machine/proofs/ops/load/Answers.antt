use Rattle.machine.proofs.Runs.{load-empty, load-lost, load_found}
use native.Mathlib.Omega.{arith}
use Rattle.machine.proofs.ops.load.Goals as goal

pub returns-then-regs-eq0 : goal.returns-then-regs-eq0
returns-then-regs-eq0 c = rw c.ends.ensures (load-empty _ _ _ _ _ c.requires.fine _ c.if-regs-eq0.true)

pub returns-in_default : goal.returns-in_default
returns-in_default c = rw c.ends-in_default.ensures (load-lost _ _ _ _ _ c.requires.fine _ _ (omega arith) c.walk.ensures c.in_default.is)

pub returns : goal.returns
returns c = load_found _ _ _ _ _ c.requires.fine _ _ _ (omega arith) c.walk.ensures c.in-Some.is
