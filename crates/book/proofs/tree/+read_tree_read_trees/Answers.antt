use Prim.Native.Nat.{◌+◌, ◌-◌, ◌*◌}
use mathlib.Core.Path.{◌≡◌, refl, ap}
use native.Mathlib.Omega.{arith}
use Rattle.std.proofs.lemmas.Result.{err_from_is_err_and}
use Rattle.book.specs.Kinds.{number_of, by_number}
use Rattle.book.proofs.Numbers.{other-number}
use Rattle.book.proofs.Records.{of-known}
use Rattle.book.proofs.Places.{live-long, was-can, was-not}
use Rattle.book.proofs.Woods.{tree-bad, tree-unsplit, tree-split', tree-none, tree_over, tree-rule, tree-nil, tree-odd, trees-end, trees-fault, trees-more, fits-first}
use Rattle.book.proofs.tree.+read_tree_read_trees.Goals as goal

pub read_tree-returns-in_err-r : goal.read_tree-returns-in_err-r
read_tree-returns-in_err-r t c = let p = err_from_is_err_and c.from_residual.result c.from_residual.ensures.1 in rw (p.1, p.2) (tree-bad _ _ _ _ _ c.rec_at.ensures (ap by_number c.in_err-r.was))

pub read_tree-returns-in_default-splits : goal.read_tree-returns-in_default-splits
read_tree-returns-in_default-splits t c = rw c.new.ensures (tree-unsplit _ _ _ _ _ c.rec_at.ensures (ap by_number c.in_ok-r.was) (ap number_of c.in-Split.is) refl refl (was-not _ _ _ _ c.splits.ensures c.in_default-splits.is))

pub read_tree-overflow_add-i : goal.read_tree-overflow_add-i
read_tree-overflow_add-i t c = let h = was-can _ _ _ _ c.splits.ensures c.in-Some.is in omega (arith, h.fit.within)

pub read_tree-read_trees-requires : goal.read_tree-read_trees-requires
read_tree-read_trees-requires t c = let h = was-can _ _ _ _ c.splits.ensures c.in-Some.is in let g = of-known _ _ c.rec_at.ensures (ap by_number c.in_ok-r.was) in (omega (arith, c.decreases, g.on, g.within), ((c.requires.0, h.can), h.fit))

pub read_tree-returns-then-r-eq0 : goal.read_tree-returns-then-r-eq0
read_tree-returns-then-r-eq0 t c = rw c.new-then-r-eq0.ensures (tree-none _ _ _ _ _ c.rec_at.ensures (ap by_number c.in_ok-r.was) (ap number_of c.in-Rule.is) c.if-r-eq0.true)

pub read_tree-returns-then-r-gt16 : goal.read_tree-returns-then-r-gt16
read_tree-returns-then-r-gt16 t c = rw c.new-then-r-gt16.ensures (tree_over _ _ _ _ _ c.rec_at.ensures (ap by_number c.in_ok-r.was) (ap number_of c.in-Rule.is) c.if-r-eq0.false c.if-r-gt16.true)

pub read_tree-returns-in-Some : goal.read_tree-returns-in-Some
read_tree-returns-in-Some t c = let h = was-can _ _ _ _ c.splits.ensures c.in-Some.is in tree-split' _ _ _ _ _ c.rec_at.ensures (ap by_number c.in_ok-r.was) (ap number_of c.in-Split.is) refl refl h.test h.are c.read_trees.ensures

pub read_tree-returns-else-r-gt16 : goal.read_tree-returns-else-r-gt16
read_tree-returns-else-r-gt16 t c = tree-rule _ _ _ _ _ c.rec_at.ensures (ap by_number c.in_ok-r.was) (ap number_of c.in-Rule.is) c.if-r-eq0.false c.if-r-gt16.false refl (live-long _ c.requires.1) c.requires.0.are c.read_rights.ensures

pub read_tree-returns-in-None : goal.read_tree-returns-in-None
read_tree-returns-in-None t c = tree-nil _ _ _ _ _ c.rec_at.ensures (ap by_number c.in_ok-r.was) (ap number_of c.in-None.is)

pub read_tree-returns-in_default : goal.read_tree-returns-in_default
read_tree-returns-in_default t c = rw c.new-in_default.ensures (tree-odd _ _ _ _ _ c.rec_at.ensures (ap by_number c.in_ok-r.was) (other-number c.in_default.not-Split) (other-number c.in_default.not-Rule) (other-number c.in_default.not-None))

pub read_trees-under-requires : goal.read_trees-under-requires
read_trees-under-requires t c = record { can_split = (c.requires.lore.1, (fits-first _ _ _ _ (omega arith) c.loop-i.invariant.0.fit).1); are_split = c.loop-i.invariant.1 }

pub read_trees-returns-in_err-at : goal.read_trees-returns-in_err-at
read_trees-returns-in_err-at t c = let p = err_from_is_err_and c.from_residual.result c.from_residual.ensures.1 in rw (p.1, p.2) (trees-fault _ _ _ _ _ _ _ _ _ _ c.loop-i.invariant.0 (omega arith) refl c.under.ensures.0.is c.read_tree.ensures c.in_err-at.was)

pub read_trees-loop-i-preserved : goal.read_trees-loop-i-preserved
read_trees-loop-i-preserved t c =
    let i = c.loop-i.i in
    let e : c.args.first + 2 * (i + 1) ≡ c.args.first + 2 * i + 2 = omega arith in
    let f : c.args.n - (i + 1) ≡ c.args.n - i - 1 = omega arith in
    rw (e, f) (trees-more _ _ _ _ _ _ _ _ _ _ c.loop-i.invariant.0 (omega arith) refl c.under.ensures.0.is c.read_tree.ensures c.in_ok-at.was, c.under.ensures.1)

pub read_trees-returns : goal.read_trees-returns
read_trees-returns t c = trees-end _ _ _ _ _ _ _ _ _ _ c.loop-i.invariant.0 (omega arith)
