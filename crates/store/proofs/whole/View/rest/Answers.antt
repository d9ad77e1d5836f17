use Rattle.store.proofs.Laws.{rest-word}
use Rattle.store.proofs.whole.View.rest.Goals as goal

pub returns : goal.returns
returns c = rest-word _ _ _ _ c.get.ensures
