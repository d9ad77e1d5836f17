-- The first call, by what the root leads to.
-- Assumes nothing.
use Rattle.seek.specs.Walkable.{found_of}
use Rattle.seek.proofs.Ends.{quiet_none, call-some}
use Rattle.seek.proofs.first_call.Goals as goal

pub returns-in-Quiet-clause-result_value : goal.returns-in-Quiet-clause-result_value
unfolding found_of
returns-in-Quiet-clause-result_value c = quiet_none _ _ _ c.requires.resumable c.in-Quiet.ensures

pub returns-in-Call-clause-result_value : goal.returns-in-Call-clause-result_value
unfolding found_of
returns-in-Call-clause-result_value c = call-some _ _ _ c.requires.resumable _ c.in-Call.ensures
