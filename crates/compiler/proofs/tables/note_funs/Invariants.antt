use mathlib.Core.Path.{◌≡◌}
use lib.ListN.{length}
use Rattle.mem.specs.Words.{words}
use Rattle.compiler.specs.Tables.{FunsNoted}
use Rattle.compiler.proofs.tables.note_funs.Given as goal

abbrev pub invariant-loop-f : goal.invariant-loop-f
invariant-loop-f l = (length l.tables ≡ length l.initial.tables) × FunsNoted l.lore (words l.initial.tables) (words l.tables) l.f
