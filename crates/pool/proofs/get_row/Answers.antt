use Rattle.pool.proofs.Laws.{row-got}
use Rattle.pool.proofs.get_row.Goals as goal

pub returns : goal.returns
returns c = row-got _ _ _ _ _ c.get_roots-roots.ensures c.rest-top.ensures
