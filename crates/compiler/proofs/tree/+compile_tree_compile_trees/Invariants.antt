use lib.ListN.{length}
use Prim.Native.Nat.{◌+◌, ◌*◌, ◌-◌}
use Rattle.compiler.proofs.Children.{Onward}
use Rattle.compiler.proofs.tree.+compile_tree_compile_trees.Given as goal

abbrev pub decreases-compile_tree : goal.decreases-compile_tree
decreases-compile_tree l = 2 * (length l.s.now - l.at)

abbrev pub decreases-compile_trees : goal.decreases-compile_trees
decreases-compile_trees l = 2 * (length l.s.now - l.at) + 1

abbrev pub invariant-compile_trees-loop-i : goal.invariant-compile_trees-loop-i
invariant-compile_trees-loop-i l = Onward l.s l.lore l.initial.rows l.n l.slot l.c l.m l.at l.g l.o l.initial.code l.rows (l.c + l.i) (l.m - l.i) l.ends.at (l.g + 5 * l.i) l.ends.out l.code
