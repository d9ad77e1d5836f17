use mathlib.Core.Path.{◌∙◌}
use Rattle.rounds.proofs.Records.{headed-is}
use Rattle.rounds.proofs.results.put_head.Goals as goal

pub returns : goal.returns
returns c = headed-is _ _ _ _ c.requires.0 (c.copy_from_slice.ensures.after ∙ c.to_le_bytes.ensures)
