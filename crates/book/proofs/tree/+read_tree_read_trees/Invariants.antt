use Prim.Native.Nat.{◌+◌, ◌*◌, ◌-◌}
use lib.ListN.{length}
use Rattle.book.specs.Steps.{types_of, live, AreSplit}
use Rattle.book.proofs.Woods.{TreesAre}
use Rattle.book.proofs.tree.+read_tree_read_trees.Given as goal

abbrev pub decreases-read_tree : goal.decreases-read_tree
decreases-read_tree l = 2 * (length l.s.now - l.at)

abbrev pub decreases-read_trees : goal.decreases-read_trees
decreases-read_trees l = 2 * (length l.s.now - l.from) + 1

abbrev pub invariant-read_trees-loop-i : goal.invariant-read_trees-loop-i
invariant-read_trees-loop-i l = (TreesAre l.s l.book (types_of l.book) l.funcs (live l.slots) l.slot l.slots.n l.first l.n l.from (l.first + 2 * l.i) (l.n - l.i) l.at) × AreSplit l.slots l.slot l.child
