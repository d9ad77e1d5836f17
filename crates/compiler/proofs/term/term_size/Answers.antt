use native.Mathlib.Omega.{arith}
use Rattle.compiler.proofs.Terms.{due-start, due-small, due-none, due-goes}
use Rattle.compiler.proofs.term.term_size.Goals as goal

pub loop-due-init : goal.loop-due-init
loop-due-init c = λ x. due-start x

pub bounds-s-at : goal.bounds-s-at
bounds-s-at c = omega (arith, (due-goes c.requires (c.loop-due.invariant c.requires) c.loop-due-test.true).inside)

pub overflow_add-at : goal.overflow_add-at
overflow_add-at c = omega (arith, (due-goes c.requires (c.loop-due.invariant c.requires) c.loop-due-test.true).inside)

pub bounds-s-at-in-loop-due : goal.bounds-s-at-in-loop-due
bounds-s-at-in-loop-due c = omega (arith, (due-goes c.requires (c.loop-due.invariant c.requires) c.loop-due-test.true).inside)

pub overflow_add-due : goal.overflow_add-due
overflow_add-due c = let h = due-small c.requires (due-goes c.requires (c.loop-due.invariant c.requires) c.loop-due-test.true).next in rw c.args_at.ensures (omega arith)

pub overflow_add-at-in-loop-due : goal.overflow_add-at-in-loop-due
overflow_add-at-in-loop-due c = omega (arith, (due-goes c.requires (c.loop-due.invariant c.requires) c.loop-due-test.true).inside)

pub overflow_add-n : goal.overflow_add-n
overflow_add-n c = let h = due-small c.requires (due-goes c.requires (c.loop-due.invariant c.requires) c.loop-due-test.true).next in omega arith

pub loop-due-smaller : goal.loop-due-smaller
loop-due-smaller c = omega (arith, (due-goes c.requires (c.loop-due.invariant c.requires) c.loop-due-test.true).inside)

pub loop-due-preserved : goal.loop-due-preserved
loop-due-preserved c = λ x. rw c.args_at.ensures (due-goes x (c.loop-due.invariant x) c.loop-due-test.true).next

pub returns : goal.returns
returns c = λ x. due-none x (c.loop-due.invariant x) c.loop-due-test.false
