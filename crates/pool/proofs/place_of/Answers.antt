use mathlib.Core.Path.{sym}
use Rattle.pool.proofs.Rings.{place-straight, place-round}
use Rattle.pool.proofs.place_of.Goals as goal

pub returns-then-at-places : goal.returns-then-at-places
returns-then-at-places c = sym (place-straight _ _ _ c.if-at-places.true)

pub returns-else-at-places : goal.returns-else-at-places
returns-else-at-places c = sym (place-round _ _ _ c.if-at-places.false)
