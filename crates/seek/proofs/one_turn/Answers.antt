-- A turn, by what the arguments lead to.
-- Assumes nothing.
use Rattle.seek.proofs.Meets.{turn_in}
use Rattle.seek.proofs.one_turn.Goals as goal

pub put_link-requires : goal.put_link-requires
put_link-requires c = turn_in _ _ _ _ c.in-Cell.ensures c.requires.fit.under
