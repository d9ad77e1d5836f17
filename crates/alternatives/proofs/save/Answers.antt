use native.Mathlib.Omega.{arith}
use Rattle.store.proofs.Laws.{count-looked}
use Rattle.copier.proofs.Steps.{args-short}
use Rattle.alternatives.specs.Copies.{node_is}
use Rattle.alternatives.proofs.Laws.{saved-as}
use Rattle.alternatives.proofs.save.Goals as goal

pub args_of-args-requires-clause-count_value : goal.args_of-args-requires-clause-count_value
args_of-args-requires-clause-count_value c = let e = count-looked _ _ _ c.look-what.ensures c.count.ensures in let z = args-short _ _ _ c.requires.n_lt_limit c.args.store.now.room.1 in (e, omega arith)

pub returns : goal.returns
unfolding node_is
returns c = let e = count-looked _ _ _ c.look-what.ensures c.count.ensures in let z = args-short _ _ _ c.requires.n_lt_limit c.args.store.now.room.1 in (saved-as _ _ _ _ c.look-what.ensures c.count.ensures c.args_of-args.ensures, omega arith)
