use Prim.Native.Nat.{◌≤◌, ◌-◌, ◌+◌}
use mathlib.Core.Path.{◌≡◌}
use lib.ListN.{get_or, length}
use Rattle.book.proofs.Lookups.{HomeAt}
use Rattle.book.proofs.front.con_home.Given as goal

abbrev pub invariant-loop-n : goal.invariant-loop-n
invariant-loop-n l = HomeAt l.s l.at l.ty l.arm l.initial.arm × (l.n ≡ get_or l.s (l.at + 1) 0) × (l.ty ≤ l.at)

abbrev pub decreases-loop-n : goal.decreases-loop-n
decreases-loop-n l = length l.s - l.at
