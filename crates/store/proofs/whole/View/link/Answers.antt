use Rattle.store.proofs.Laws.{link-word}
use Rattle.store.proofs.whole.View.link.Goals as goal

pub returns : goal.returns
returns c = link-word _ _ _ _ c.requires c.get.ensures
