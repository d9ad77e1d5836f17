use Rattle.std.proofs.Common.{rules}
use mathlib.Core.Path.{refl}
use Rattle.store.proofs.Writes.{did-var}
use Rattle.store.proofs.whole.Store.put_var.Goals as goal

pub returns : goal.returns
returns c = record { loan = record { limit = refl; lent = refl; long = search rules }; did = did-var _ _ _ _ c.requires c.args.self.now.room.1 c.put.ensures }
