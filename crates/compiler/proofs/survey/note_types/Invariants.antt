use Rattle.compiler.specs.Here.{TypesNoted}
use Rattle.compiler.proofs.survey.note_types.Given as goal

abbrev pub invariant-loop-t : goal.invariant-loop-t
invariant-loop-t l = TypesNoted l.book l.initial.lore l.lore l.t
