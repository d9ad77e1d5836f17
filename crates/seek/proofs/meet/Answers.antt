-- What a handle leads to: each arm is one law.
-- Assumes nothing.
use Rattle.seek.proofs.Walkables.{walkable-below}
use Rattle.seek.proofs.Meets.{met-cell, met-call, met-other}
use Rattle.seek.proofs.meet.Goals as goal

pub look-requires : goal.look-requires
look-requires c = rw c.follow-n.ensures (walkable-below _ _ _ c.requires.walkable).1

pub mark-requires : goal.mark-requires
mark-requires c = rw c.follow-n.ensures (walkable-below _ _ _ c.requires.walkable).1

pub returns-in-Con-2 : goal.returns-in-Con-2
returns-in-Con-2 c = met-cell _ _ _ _ c.follow-n.ensures _ _ c.in-Con.ensures _ c.mark.ensures c.if-mark-eq2.false

pub returns-in-Call : goal.returns-in-Call
returns-in-Call c = met-call _ _ _ c.follow-n.ensures _ _ c.in-Call.ensures

pub returns-in_default : goal.returns-in_default
returns-in_default c = met-other _ _ _ _ c.follow-n.ensures _ c.look.ensures c.in_default.not-Con c.in_default.not-Call c.requires.walkable
