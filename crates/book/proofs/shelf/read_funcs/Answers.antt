use native.Mathlib.Omega.{arith}
use mathlib.Core.Path.{refl, ap, sym}
use Rattle.std.proofs.lemmas.Result.{err_from_is_err_and}
use Rattle.std.proofs.Common.{rules}
use Rattle.book.specs.declared.Kind.TheVariants as kind
use Rattle.book.specs.Kinds.{by_number}
use Rattle.book.proofs.Numbers.{same-number, other-number}
use Rattle.book.proofs.Records.{of-known}
use Rattle.book.proofs.Parts.{moved, place-next, place-fault}
use Rattle.book.proofs.Woods.{tree-next, tree-part, part-within}
use Rattle.book.proofs.Wholes.{funcs-end, funcs-bad, funcs-odd, funcs-over, funcs-fault, funcs-more}
use Rattle.book.proofs.shelf.read_funcs.Goals as goal

pub returns-in_err-r : goal.returns-in_err-r
returns-in_err-r c = let p = err_from_is_err_and c.from_residual.result c.from_residual.ensures.1 in rw (p.1, p.2) (funcs-bad _ c.loop-at.invariant c.loop-at-test.true c.rec_at.ensures (ap by_number c.in_err-r.was))

pub returns-then-ne : goal.returns-then-ne
returns-then-ne c = rw c.new.ensures (funcs-odd _ c.loop-at.invariant c.loop-at-test.true c.rec_at.ensures (ap by_number c.in_ok-r.was) (other-number {k = kind.Func} (search rules)))

pub returns-then-r-gt8 : goal.returns-then-r-gt8
returns-then-r-gt8 c = rw c.new-then-r-gt8.ensures (funcs-over _ c.loop-at.invariant c.loop-at-test.true c.rec_at.ensures (ap by_number c.in_ok-r.was) (same-number kind.Func (search rules)) c.if-r-gt8.true)

pub slice_bounds-read_tree-count : goal.slice_bounds-read_tree-count
slice_bounds-read_tree-count c = let g = of-known _ _ c.rec_at.ensures (ap by_number c.in_ok-r.was) in omega (arith, g.within)

pub slice_bounds-read_tree-start : goal.slice_bounds-read_tree-start
slice_bounds-read_tree-start c = let g = of-known _ _ c.rec_at.ensures (ap by_number c.in_ok-r.was) in omega (arith, g.within)

pub overflow_add-at : goal.overflow_add-at
overflow_add-at c = let g = of-known _ _ c.rec_at.ensures (ap by_number c.in_ok-r.was) in let w = part-within c.args.s.now _ _ _ _ g.within c.read_tree.ensures in omega (arith, w, place-next c.in-Ok.is)

pub loop-at-smaller : goal.loop-at-smaller
unfolding moved
loop-at-smaller c = let g = of-known _ _ c.rec_at.ensures (ap by_number c.in_ok-r.was) in let b = tree-next c.args.s.now _ _ _ _ (tree-part c.args.s.now _ _ _ _ g.within c.read_tree.ensures (sym (ap (moved c.in_ok-r.r.end) c.in-Ok.is))) refl in omega (arith, g.on, b.0, b.1, c.loop-at-test.true)

pub loop-at-preserved : goal.loop-at-preserved
unfolding moved
loop-at-preserved c = let g = of-known _ _ c.rec_at.ensures (ap by_number c.in_ok-r.was) in funcs-more _ c.loop-at.invariant c.loop-at-test.true c.rec_at.ensures (ap by_number c.in_ok-r.was) (same-number kind.Func (search rules)) c.if-r-gt8.false refl c.arguments-slots.ensures.1 (tree-part c.args.s.now _ _ _ _ g.within c.read_tree.ensures (sym (ap (moved c.in_ok-r.r.end) c.in-Ok.is))) refl

pub overflow_add-result : goal.overflow_add-result
overflow_add-result c = let g = of-known _ _ c.rec_at.ensures (ap by_number c.in_ok-r.was) in let w = part-within c.args.s.now _ _ _ _ g.within c.read_tree.ensures in omega (arith, w, place-fault c.in-Err.is)

pub returns-in-Err : goal.returns-in-Err
unfolding moved
returns-in-Err c = let g = of-known _ _ c.rec_at.ensures (ap by_number c.in_ok-r.was) in funcs-fault _ c.loop-at.invariant c.loop-at-test.true c.rec_at.ensures (ap by_number c.in_ok-r.was) (same-number kind.Func (search rules)) c.if-r-gt8.false refl c.arguments-slots.ensures.1 (tree-part c.args.s.now _ _ _ _ g.within c.read_tree.ensures (sym (ap (moved c.in_ok-r.r.end) c.in-Err.is))) refl

pub returns : goal.returns
returns c = funcs-end _ c.loop-at.invariant c.loop-at-test.false
