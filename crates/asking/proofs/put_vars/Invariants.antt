use Rattle.store.specs.Whole.{SameLoan}
use mathlib.Core.Path.{◌≡◌}
use lib.ListN.{length}
use Rattle.mem.specs.Words.{words}
use Rattle.asking.specs.Question.{VarsPut}
use Rattle.asking.proofs.put_vars.Given as goal

abbrev pub invariant-loop-i : goal.invariant-loop-i
invariant-loop-i l = VarsPut l.initial.store.limit l.i l.initial.store.bytes.now l.store.bytes.now × SameLoan l.initial.store l.store × (length (words l.store.bytes.now) ≡ length (words l.initial.store.bytes.now))
