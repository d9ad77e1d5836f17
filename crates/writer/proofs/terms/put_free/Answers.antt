use Rattle.writer.proofs.Telling.{free_bytes}
use mathlib.Core.Path.{◌∙◌}
use Rattle.writer.proofs.terms.put_free.Goals as goal

pub returns : goal.returns
returns c = free_bytes _ _ _ _ c.requires (c.copy_from_slice.ensures.after ∙ c.to_le_bytes.ensures)
