use Prim.Native.Nat.{◌+◌, ◌-◌, ◌*◌}
use Rattle.book.specs.Reading.{all_fit}
use Rattle.book.specs.Steps.{cons_from}
use Rattle.book.proofs.Fronts.{FitIs}
use Rattle.book.proofs.tree.all_fit.Given as goal

abbrev pub invariant-loop-i : goal.invariant-loop-i
invariant-loop-i l = FitIs l.s l.have (l.cons + 2 * l.i) (l.n - l.i) (all_fit l.have (cons_from l.s l.cons l.n))
