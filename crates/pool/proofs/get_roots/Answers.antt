use borrow.Author.Rules.{rules}
use mathlib.Core.Path.{refl}
use Rattle.pool.proofs.Laws.{nine-got, got-all}
use Rattle.pool.proofs.get_roots.Goals as goal

pub returns : goal.returns
returns c = got-all _ _ _ _ _ refl c.requires.n_bound (nine-got c.args.store.limit c.args.k c.args.store.bytes.now c.from_fn-at.result (search rules) c.requires.rest_room.2 (search rules) (search rules) (search rules) (search rules) (search rules) (search rules) (search rules) (search rules) (search rules))
