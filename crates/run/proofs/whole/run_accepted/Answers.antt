use mathlib.Core.Path.{sym}
use lib.Seq.{length-take-le}
use Rattle.std.proofs.lemmas.Result.{err_from_is_err_and}
use Rattle.run.proofs.Outcomes.{lends, code-there, roomy, code-short, asks, gives-asked, gives-unset}
use Rattle.run.proofs.whole.run_accepted.Goals as goal

pub set_up-requires : goal.set_up-requires
set_up-requires c = lends _ _ _ _ _ _ c.requires

pub slice_bounds-ask-end : goal.slice_bounds-ask-end
slice_bounds-ask-end c = code-there _ _ _ _ _ _ c.requires _ _ _ _ c.set_up.ensures c.in_ok-n.was

pub slice_bounds-ask-end-2 : goal.slice_bounds-ask-end-2
slice_bounds-ask-end-2 c = sym (length-take-le _ _ (code-there _ _ _ _ _ _ c.requires _ _ _ _ c.set_up.ensures c.in_ok-n.was))

pub ask-requires : goal.ask-requires
ask-requires c = record { roomy = roomy _ _ _ _ _ _ c.requires _ _ _ _ c.set_up.ensures c.in_ok-n.was; code_len_bound = code-short _ _ _ _ _ _ c.requires _ _ _ _ c.set_up.ensures c.in_ok-n.was; asks = asks _ _ _ _ _ _ c.requires _ _ _ _ c.set_up.ensures c.in_ok-n.was }

pub returns-in_err-n : goal.returns-in_err-n
returns-in_err-n c = let p = err_from_is_err_and c.from_residual.result c.from_residual.ensures.1 in gives-unset _ _ _ _ _ _ c.requires _ _ _ _ c.set_up.ensures c.in_err-n.was _ _ p.1 p.2

pub returns : goal.returns
returns c = gives-asked _ _ _ _ _ _ c.requires _ _ _ _ c.set_up.ensures c.in_ok-n.was _ _ _ c.ask.ensures c.ask.auto.results
