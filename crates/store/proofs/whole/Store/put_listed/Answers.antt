use Rattle.std.proofs.Common.{rules}
use mathlib.Core.Path.{refl}
use Rattle.store.proofs.Writes.{did-list}
use Rattle.store.proofs.whole.Store.put_listed.Goals as goal

pub returns : goal.returns
returns c = record { loan = record { limit = refl; lent = refl; long = search rules }; did = did-list _ _ _ _ _ c.requires c.put.ensures }
