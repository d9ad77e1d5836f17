use Rattle.std.proofs.Common.{rules}
use mathlib.Core.Path.{refl}
use native.Mathlib.Omega.{arith}
use Rattle.store.proofs.Laws.{arg-word}
use Rattle.store.proofs.Laying.{did-arg}
use Rattle.store.proofs.whole.Store.put_arg.Goals as goal

pub put-requires : goal.put-requires
put-requires c = omega (arith, (arg-word _ _ _ _ c.requires.n_lt_limit c.args.self.now.room.1 c.requires.j_in_bounds).1)

pub returns : goal.returns
returns c = record { loan = record { limit = refl; lent = refl; long = search rules }; did = did-arg _ _ _ _ _ _ c.requires.n_lt_limit c.args.self.now.room.1 c.requires.j_in_bounds c.put.ensures }
