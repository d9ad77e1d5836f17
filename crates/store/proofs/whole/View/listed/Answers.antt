use Rattle.store.proofs.Laws.{list-word}
use Rattle.store.proofs.whole.View.listed.Goals as goal

pub returns : goal.returns
returns c = list-word _ _ _ _ c.requires c.get.ensures
