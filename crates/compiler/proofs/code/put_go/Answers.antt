use mathlib.Core.Path.{ap}
use mathlib.Core.List.{◌∷◌}
use Rattle.compiler.proofs.Writing.{emits-as, four-bytes}
use Rattle.compiler.proofs.code.put_go.Goals as goal

pub returns : goal.returns
returns c = emits-as c.put.ensures _ (ap (λ l. 0x32 ∷ l) (four-bytes _ _ c.to_le_bytes.ensures))
