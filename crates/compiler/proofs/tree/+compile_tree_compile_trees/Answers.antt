use native.Mathlib.Omega.{arith}
use mathlib.Core.Path.{refl}
use Rattle.compiler.proofs.Splits.{tree-inside, none_is, first-is, split-is}
use Rattle.compiler.proofs.Children.{keeps-refl, onward-start, onward-end, onward-more, onward-as, child-is}
use Rattle.compiler.proofs.tree.+compile_tree_compile_trees.Goals as goal

pub compile_tree-bounds-s-at : goal.compile_tree-bounds-s-at
compile_tree-bounds-s-at t c = omega (arith, tree-inside c.requires)

pub compile_tree-bounds-s-at-in-4 : goal.compile_tree-bounds-s-at-in-4
compile_tree-bounds-s-at-in-4 t c = omega (arith, (first-is c.requires c.in-4.is).inside)

pub compile_tree-bounds-s-at-in-4-2 : goal.compile_tree-bounds-s-at-in-4-2
compile_tree-bounds-s-at-in-4-2 t c = omega (arith, (first-is c.requires c.in-4.is).inside)

pub compile_tree-bounds-lore-ty : goal.compile_tree-bounds-lore-ty
compile_tree-bounds-lore-ty t c = omega (arith, (first-is c.requires c.in-4.is).type)

pub compile_tree-bounds-lore-ty-in-4 : goal.compile_tree-bounds-lore-ty-in-4
compile_tree-bounds-lore-ty-in-4 t c = omega (arith, (first-is c.requires c.in-4.is).type)

pub compile_tree-put_front-body-requires-clause-cons_in_bounds : goal.compile_tree-put_front-body-requires-clause-cons_in_bounds
compile_tree-put_front-body-requires-clause-cons_in_bounds t c = (split-is c.requires c.in-4.is).cons

pub compile_tree-put_front-body-requires-clause-code_in_bounds : goal.compile_tree-put_front-body-requires-clause-code_in_bounds
compile_tree-put_front-body-requires-clause-code_in_bounds t c = (split-is c.requires c.in-4.is).room

pub compile_tree-compile_trees-requires : goal.compile_tree-compile_trees-requires
compile_tree-compile_trees-requires t c = (omega (arith, (first-is c.requires c.in-4.is).inside, c.decreases), (split-is c.requires c.in-4.is).here _ _ c.put_front-body.ensures)

pub compile_tree-returns-in-4 : goal.compile_tree-returns-in-4
compile_tree-returns-in-4 t c = ((λ x. (let h = split-is x c.in-4.is in h.finish _ _ _ _ c.put_front-body.ensures (c.compile_trees.ensures.0 (h.here _ _ c.put_front-body.ensures)))), c.compile_trees.ensures.1)

pub compile_tree-put-out-requires : goal.compile_tree-put-out-requires
compile_tree-put-out-requires t c = (none_is c.requires (λ z. omega arith) (λ z. omega arith)).room

pub compile_tree-overflow_add-result : goal.compile_tree-overflow_add-result
compile_tree-overflow_add-result t c = omega (arith, tree-inside c.requires)

pub compile_tree-returns-in_default : goal.compile_tree-returns-in_default
compile_tree-returns-in_default t c = ((λ x. (none_is x (λ z. omega arith) (λ z. omega arith)).finish _ _ refl c.put-out.ensures), keeps-refl _ _)

pub compile_trees-loop-i-init : goal.compile_trees-loop-i-init
compile_trees-loop-i-init t c = onward-as (onward-start _ _ _ _ _ _ _ _ _ _ _) _ _ _ (omega arith) (omega arith) (omega arith)

pub compile_trees-grow-requires-clause-in_bounds : goal.compile_trees-grow-requires-clause-in_bounds
compile_trees-grow-requires-clause-in_bounds t c = (child-is c.loop-i.invariant c.requires refl (omega arith)).grows.0

pub compile_trees-grow-requires-clause-fact : goal.compile_trees-grow-requires-clause-fact
compile_trees-grow-requires-clause-fact t c = (child-is c.loop-i.invariant c.requires refl (omega arith)).grows.1

pub compile_trees-compile_tree-ends-requires : goal.compile_trees-compile_tree-ends-requires
compile_trees-compile_tree-ends-requires t c = (omega (arith, c.decreases, c.loop-i.invariant.past), (child-is c.loop-i.invariant c.requires refl (omega arith)).tree _ _ _ c.put_go.ensures c.grow.ensures)

pub compile_trees-loop-i-preserved : goal.compile_trees-loop-i-preserved
compile_trees-loop-i-preserved t c = onward-as (onward-more c.loop-i.invariant c.requires refl (omega arith) c.put_go.ensures c.grow.ensures c.compile_tree-ends.ensures.0 c.compile_tree-ends.ensures.1) _ _ _ (omega arith) (omega arith) (omega arith)

pub compile_trees-returns : goal.compile_trees-returns
compile_trees-returns t c = ((λ x. onward-end c.loop-i.invariant x (omega arith)), c.loop-i.invariant.kept)
