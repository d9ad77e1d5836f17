use Rattle.store.proofs.Laws.{frame-words}
use Rattle.store.proofs.whole.View.frame.Goals as goal

pub returns : goal.returns
returns c = frame-words _ _ _ _ _ c.requires c.get.ensures c.get-2.ensures
