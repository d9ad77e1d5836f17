use Rattle.std.proofs.Common.{rules}
use mathlib.Core.Path.{refl}
use Rattle.store.proofs.Laying.{did-head}
use Rattle.store.proofs.whole.Store.put_head.Goals as goal

pub returns : goal.returns
returns c = record { loan = record { limit = refl; lent = refl; long = search rules }; did = did-head _ _ _ _ _ _ _ _ c.requires.n_lt_limit c.args.self.now.room.1 c.requires.count_bound c.head_word.ensures c.put.ensures c.put-2.ensures }
