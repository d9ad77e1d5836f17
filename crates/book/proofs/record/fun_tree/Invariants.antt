use Prim.Native.Nat.{◌-◌}
use lib.ListN.{length}
use Rattle.book.specs.Facts.{tree_from}
use Rattle.book.proofs.Starts.{FromIs}
use Rattle.book.proofs.record.fun_tree.Given as goal

abbrev pub invariant-loop-at : goal.invariant-loop-at
invariant-loop-at l = FromIs l.s l.at l.left (tree_from l.s (length l.s) 0 l.initial.left)

abbrev pub decreases-loop-at : goal.decreases-loop-at
decreases-loop-at l = length l.s - l.at
