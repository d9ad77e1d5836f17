use Rattle.std.proofs.Common.{rules}
use mathlib.Core.Path.{refl}
use Rattle.store.proofs.Writes.{did-next}
use Rattle.store.proofs.whole.Store.put_next.Goals as goal

pub returns : goal.returns
returns c = record { loan = record { limit = refl; lent = refl; long = search rules }; did = did-next _ _ _ _ _ c.requires c.put.ensures }
