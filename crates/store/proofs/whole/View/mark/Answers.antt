use Rattle.store.proofs.Laws.{mark-word}
use Rattle.store.proofs.whole.View.mark.Goals as goal

pub returns : goal.returns
returns c = mark-word _ _ _ _ c.requires c.get.ensures
