use Rattle.machine.proofs.Runs.{narrow-lost, narrow-is}
use Rattle.machine.proofs.ops.narrow.Goals as goal

pub returns-in_default : goal.returns-in_default
returns-in_default c = rw c.ends.ensures (narrow-lost _ _ _ _ _ c.requires.fine c.in_default.is)

pub returns : goal.returns
returns c = rw c.ends-2.ensures (narrow-is _ _ _ _ _ c.requires.fine _ _ c.in-Some.is c.follow-at.ensures)
