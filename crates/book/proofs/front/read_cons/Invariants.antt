use Prim.Native.Nat.{◌+◌, ◌-◌}
use Rattle.book.proofs.Fronts.{ConsAre}
use Rattle.book.proofs.front.read_cons.Given as goal

abbrev pub invariant-loop-i : goal.invariant-loop-i
invariant-loop-i l = ConsAre l.s l.before l.n l.from l.initial.table (l.before + l.i) (l.n - l.i) l.at l.table
