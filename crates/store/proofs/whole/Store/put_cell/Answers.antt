use mathlib.Core.Path.{refl}
use Rattle.store.proofs.Writes.{did-cell}
use borrow.Author.Rules.{rules}
use Rattle.store.proofs.whole.Store.put_cell.Goals as goal

pub returns : goal.returns
returns c = record { loan = record { limit = refl; lent = refl; long = search rules }; did = did-cell _ _ _ _ _ _ _ _ _ _ c.requires.n_lt_limit c.args.self.now.room.1 c.requires.count_bound (let g = c.well_formed in search (rules, g)) c.head_word.ensures c.put.ensures c.put-2.ensures c.put_args.ensures.is }
