use Rattle.std.proofs.Common.{rules}
use mathlib.Core.Path.{refl}
use Rattle.store.proofs.Writes.{did-frame}
use Rattle.store.proofs.whole.Store.put_frame.Goals as goal

pub returns : goal.returns
returns c = record { loan = record { limit = refl; lent = refl; long = search rules }; did = did-frame _ _ _ _ _ _ _ c.requires c.put.ensures c.put-2.ensures }
