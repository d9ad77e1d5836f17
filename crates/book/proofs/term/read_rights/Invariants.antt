use mathlib.Core.Option.{some}
use Prim.Native.Nat.{◌-◌}
use Rattle.book.specs.Steps.{step}
use Rattle.book.specs.Reading.{read_right, read_rights}
use Rattle.book.proofs.Words.{RightsAre}
use Rattle.book.proofs.term.read_rights.Given as goal

abbrev pub invariant-loop : goal.invariant-loop
invariant-loop l = RightsAre (read_right l.s l.cons l.funcs (some l.slots)) (l.n - l.counter) l.at (step (read_rights (read_right l.s l.cons l.funcs (some l.slots)) l.n l.from))
