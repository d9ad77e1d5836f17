-- The root's mark and its link, one behind the other.
-- Assumes nothing.
use Rattle.store.proofs.Became.{became_then}
use Rattle.seek.proofs.keep.Goals as goal

pub returns : goal.returns
returns c = let b = became_then c.put_mark.ensures c.put_link.ensures in record { loan = b.loan; held = b.did }
