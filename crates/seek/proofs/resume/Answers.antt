-- The search from a root that leads to a constructor: the path's top, the walk, and the place kept where it found a call.
-- Assumes nothing.
use Rattle.store.proofs.Became.{loan_then}
use Rattle.seek.specs.Search.{call_of}
use Rattle.seek.proofs.Ends.{root_in, root-linked, start-walks, sought-nothing, sought-call}
use Rattle.seek.proofs.resume.Goals as goal

pub top_of-top-requires-clause-root_lt_limit : goal.top_of-top-requires-clause-root_lt_limit
top_of-top-requires-clause-root_lt_limit c = root_in _ _ _ c.requires.resumable

pub top_of-top-requires-clause-bound : goal.top_of-top-requires-clause-bound
top_of-top-requires-clause-bound c = root-linked _ _ _ c.requires.resumable _ c.requires.cell

pub walk-requires : goal.walk-requires
walk-requires c = record { walks = start-walks _ _ _ c.requires.resumable _ c.requires.cell _ c.top_of-top.ensures }

pub keep-requires : goal.keep-requires
keep-requires c = record { root_lt_limit = rw c.walk.ensures.loan.limit (root_in _ _ _ c.requires.resumable, c.walk.ensures.went.low _ c.in_ok-stopped.was) }

pub returns : goal.returns
unfolding call_of
returns c = let w = c.walk.ensures.went in record { loan = loan_then c.walk.ensures.loan c.keep.ensures.loan; result_value = rw c.in_ok-stopped.was at w.found; sought_from = λ G. sought-call _ _ _ G _ c.requires.cell _ c.top_of-top.ensures _ _ w _ c.in_ok-stopped.was _ (rw c.walk.ensures.loan.limit at c.keep.ensures.held) c.args.store.now.room.1 }

pub returns-in_err-stopped : goal.returns-in_err-stopped
unfolding call_of
returns-in_err-stopped c = let w = c.walk.ensures.went in record { loan = c.walk.ensures.loan; result_value = rw c.from_residual.ensures (rw c.in_err-stopped.was at w.found); sought_from = λ G. sought-nothing _ _ _ G _ c.requires.cell _ c.top_of-top.ensures _ _ w c.in_err-stopped.was }
