use Rattle.machine.proofs.Runs.{branch-lost, branch-call, branch-con, branch-misfit, branch-var, branch-fwd}
use Rattle.machine.proofs.ops.branch.Goals as goal

pub returns-in_default : goal.returns-in_default
returns-in_default c = rw c.ends.ensures (branch-lost _ _ _ _ _ c.requires.fine _ c.in_default.is)

pub returns-in-Call : goal.returns-in-Call
returns-in-Call c = rw c.ends-in-Call.ensures (branch-call _ _ _ _ _ c.requires.fine _ _ _ _ c.in-Some.is c.follow-at.ensures c.node_at.ensures _ _ c.in-Call.is)

pub returns-in-Some-arm_of : goal.returns-in-Some-arm_of
returns-in-Some-arm_of c = branch-con _ _ _ _ _ c.requires.fine _ _ _ _ c.in-Some.is c.follow-at.ensures c.node_at.ensures _ _ _ _ _ c.in-Con.is c.arm_of.ensures c.in-Some-arm_of.is c.jump_to-pc.ensures

pub returns-in_default-arm_of : goal.returns-in_default-arm_of
returns-in_default-arm_of c = rw c.ends-in_default-arm_of.ensures (branch-misfit _ _ _ _ _ c.requires.fine _ _ _ _ c.in-Some.is c.follow-at.ensures c.node_at.ensures _ _ _ c.in-Con.is c.arm_of.ensures c.in_default-arm_of.is)

pub returns-in-Var : goal.returns-in-Var
returns-in-Var c = branch-var _ _ _ _ _ c.requires.fine _ _ _ _ c.in-Some.is c.follow-at.ensures c.node_at.ensures _ c.in-Var.is c.jump_to-pc-in-Var.ensures

pub returns-in-Fwd : goal.returns-in-Fwd
returns-in-Fwd c = rw c.ends-in-Fwd.ensures (branch-fwd _ _ _ _ _ c.requires.fine _ _ _ _ c.in-Some.is c.follow-at.ensures c.node_at.ensures _ c.in-Fwd.is)
