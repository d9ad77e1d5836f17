use mathlib.Core.Path.{◌≡◌}
use Prim.Native.Nat.{◌-◌}
use lib.ListN.{length}
use Rattle.mem.specs.Words.{words}
use Rattle.compiler.specs.Here.{FuncsHere}
use Rattle.compiler.proofs.Funcs.{Left}
use Rattle.compiler.proofs.whole.compile_funcs.Given as goal

abbrev pub invariant-loop-at : goal.invariant-loop-at
invariant-loop-at l = (length l.tables ≡ length l.initial.tables) × ((x : FuncsHere l.book l.lore l.initial.rows (words l.initial.tables) l.from l.initial.code) → Left x l.rows (words l.tables) l.code l.at l.out l.f)

abbrev pub decreases-loop-at : goal.decreases-loop-at
decreases-loop-at l = length l.book - l.at
