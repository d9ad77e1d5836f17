use mathlib.Core.Path.{◌≡◌}
use lib.ListN.{length}
use Rattle.mem.specs.Words.{words}
use Rattle.compiler.specs.Tables.{ConsNoted}
use Rattle.compiler.proofs.tables.note_cons.Given as goal

abbrev pub invariant-loop-c : goal.invariant-loop-c
invariant-loop-c l = (length l.tables ≡ length l.initial.tables) × ConsNoted l.book l.lore (words l.initial.tables) (words l.tables) l.c
