use native.Mathlib.Omega.{arith}
use Rattle.compiler.proofs.Funcs.{types-small}
use Rattle.compiler.proofs.survey.note_types.Goals as goal

pub overflow_cast-lore : goal.overflow_cast-lore
overflow_cast-lore c = let z = types-small _ c.requires.fine c.loop-t.t (omega (arith, c.requires.many)) in omega (arith, c.type_at-info.ensures.first)
