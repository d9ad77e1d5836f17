use native.Mathlib.Omega.{arith}
use mathlib.Core.Path.{◌∙◌}
use Rattle.store.proofs.Laws.{arg-word}
use Rattle.store.proofs.whole.View.arg.Goals as goal

pub get-requires : goal.get-requires
get-requires c = omega (arith, (arg-word _ _ _ _ c.requires.n_lt_limit c.args.self.room.1 c.requires.j_in_bounds).1)

pub returns : goal.returns
returns c = c.get.ensures ∙ (arg-word _ _ _ _ c.requires.n_lt_limit c.args.self.room.1 c.requires.j_in_bounds).0
