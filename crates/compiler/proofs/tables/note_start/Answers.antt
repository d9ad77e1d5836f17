use Rattle.compiler.proofs.Funcs.{started}
use Rattle.compiler.proofs.tables.note_start.Goals as goal

pub returns : goal.returns
returns c = started _ _ _ _ _ c.requires.0 c.requires.2 c.put.ensures c.put-2.ensures
