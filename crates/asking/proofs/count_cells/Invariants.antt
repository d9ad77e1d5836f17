use mathlib.Core.Path.{◌≡◌}
use Prim.Native.Nat.{◌+◌, ◌-◌, ◌*◌, ◌≤◌}
use Rattle.asking.specs.Question.{cells}
use Rattle.asking.proofs.count_cells.Given as goal

abbrev pub invariant-loop-k : goal.invariant-loop-k
invariant-loop-k l = (l.count + cells l.q (2 + 2 * l.k) (l.n - l.k) ≡ cells l.q 2 l.n) × (l.count ≤ l.k)
