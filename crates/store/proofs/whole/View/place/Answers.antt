use Rattle.store.proofs.Laws.{place-word}
use Rattle.store.proofs.whole.View.place.Goals as goal

pub returns : goal.returns
returns c = place-word _ _ _ _ c.requires c.get.ensures
