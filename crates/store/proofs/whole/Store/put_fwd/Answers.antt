use Rattle.std.proofs.Common.{rules}
use mathlib.Core.Path.{refl}
use Rattle.store.proofs.Writes.{did-fwd}
use Rattle.store.proofs.whole.Store.put_fwd.Goals as goal

pub returns : goal.returns
returns c = record { loan = record { limit = refl; lent = refl; long = search rules }; did = did-fwd _ _ _ _ _ _ c.requires c.args.self.now.room.1 (rw c.from_le_bytes.ensures at c.put.ensures) c.put-2.ensures }
