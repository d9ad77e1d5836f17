use native.Mathlib.Omega.{arith}
use mathlib.Core.Path.{refl, ◌∙◌}
use Prim.Native.Nat.{◌+◌}
use Rattle.compiler.proofs.Funcs.{left-start, left_end, left-turns, part-all}
use Rattle.compiler.proofs.whole.compile_funcs.Goals as goal

pub loop-at-init : goal.loop-at-init
loop-at-init c = (refl, λ x. left-start x)

pub bounds-book-at : goal.bounds-book-at
bounds-book-at c = omega (arith, (left-turns c.requires (c.loop-at.invariant.1 c.requires) _ refl c.loop-at-test.true).inside)

pub note_start-requires : goal.note_start-requires
note_start-requires c = (left-turns c.requires (c.loop-at.invariant.1 c.requires) _ refl c.loop-at-test.true).starting

pub grow-requires : goal.grow-requires
grow-requires c = let g = (left-turns c.requires (c.loop-at.invariant.1 c.requires) _ refl c.loop-at-test.true).grows in record { in_bounds = g.0; fact = g.1 }

pub slice_bounds-compile_tree-count : goal.slice_bounds-compile_tree-count
slice_bounds-compile_tree-count c = omega (arith, (left-turns c.requires (c.loop-at.invariant.1 c.requires) _ refl c.loop-at-test.true).inside)

pub slice_bounds-compile_tree-start : goal.slice_bounds-compile_tree-start
slice_bounds-compile_tree-start c = omega (arith, (left-turns c.requires (c.loop-at.invariant.1 c.requires) _ refl c.loop-at-test.true).inside)

pub compile_tree-e-requires : goal.compile_tree-e-requires
compile_tree-e-requires c = ((left-turns c.requires (c.loop-at.invariant.1 c.requires) _ refl c.loop-at-test.true).tree _ _ (part-all c.args.book.now (c.loop-at.at + 2)) c.grow.ensures)

pub overflow_add-at : goal.overflow_add-at
overflow_add-at c = omega (arith, (left-turns c.requires (c.loop-at.invariant.1 c.requires) _ refl c.loop-at-test.true).inside_too _ _ _ (part-all c.args.book.now (c.loop-at.at + 2)) c.grow.ensures c.compile_tree-e.result (c.compile_tree-e.ensures.0 ((left-turns c.requires (c.loop-at.invariant.1 c.requires) _ refl c.loop-at-test.true).tree _ _ (part-all c.args.book.now (c.loop-at.at + 2)) c.grow.ensures)))

pub overflow_add-f : goal.overflow_add-f
overflow_add-f c = omega (arith, (left-turns c.requires (c.loop-at.invariant.1 c.requires) _ refl c.loop-at-test.true).starting.0)

pub loop-at-smaller : goal.loop-at-smaller
loop-at-smaller c = let h = (left-turns c.requires (c.loop-at.invariant.1 c.requires) _ refl c.loop-at-test.true).inside_too _ _ _ (part-all c.args.book.now (c.loop-at.at + 2)) c.grow.ensures c.compile_tree-e.result (c.compile_tree-e.ensures.0 ((left-turns c.requires (c.loop-at.invariant.1 c.requires) _ refl c.loop-at-test.true).tree _ _ (part-all c.args.book.now (c.loop-at.at + 2)) c.grow.ensures)) in let k = c.loop-at-test.true in omega arith

pub loop-at-preserved : goal.loop-at-preserved
loop-at-preserved c = (c.note_start.auto.tables ∙ c.loop-at.invariant.0, λ x. (left-turns x (c.loop-at.invariant.1 x) _ refl c.loop-at-test.true).next _ _ _ _ _ (part-all c.args.book.now (c.loop-at.at + 2)) c.grow.ensures c.compile_tree-e.result (c.compile_tree-e.ensures.0 ((left-turns x (c.loop-at.invariant.1 x) _ refl c.loop-at-test.true).tree _ _ (part-all c.args.book.now (c.loop-at.at + 2)) c.grow.ensures)) c.compile_tree-e.ensures.1 c.note_start.ensures)

pub returns : goal.returns
returns c = λ x. left_end x (c.loop-at.invariant.1 x) c.loop-at-test.false
