use native.Mathlib.Omega.{arith}
use mathlib.Core.Path.{sym, subst}
use mathlib.Core.List.{List}
use Prim.Native.Nat.{ℕ}
use Rattle.heap.specs.Graph.{node, args}
use Rattle.store.specs.Regions.{graph_of}
use Rattle.store.proofs.Became.{loan_then}
use Rattle.store.proofs.Laws.{count-looked}
use Rattle.copier.specs.Listed.{Ends, Saw}
use Rattle.copier.proofs.Listing.{owes-sight-end}
use Rattle.copier.proofs.Steps.{under-args, under-below, under-there, under-follow, under_next}
use Rattle.copier.proofs.see_under.Goals as goal

pub look-what-requires : goal.look-what-requires
look-what-requires c = under-below _ c.args.store.now.room.1 c.requires.listed c.listed-n.ensures c.requires.i_lt_count

pub arg-h-requires-clause-n_lt_limit : goal.arg-h-requires-clause-n_lt_limit
arg-h-requires-clause-n_lt_limit c = rw c.loop-j.invariant.loan.limit (under-below _ c.args.store.now.room.1 c.requires.listed c.listed-n.ensures c.requires.i_lt_count)

pub arg-h-requires-clause-j_in_bounds : goal.arg-h-requires-clause-j_in_bounds
arg-h-requires-clause-j_in_bounds c = let a = count-looked _ _ _ c.look-what.ensures c.count-j-end.ensures in (let i = c.loop-j.invariant in rw i.loan.limit (under-there _ _ _ i.owes (omega arith)))

pub see-k-requires-clause-h_bound : goal.see-k-requires-clause-h_bound
see-k-requires-clause-h_bound c = let a = count-looked _ _ _ c.look-what.ensures c.count-j-end.ensures in
    let e = subst (λ (l : List ℕ). Ends c.args.store.now.limit (graph_of c.args.store.now.limit c.args.store.now.bytes.now) l) (sym (under-args _ _ _ _ _ c.listed-n.ensures c.requires.i_lt_count)) c.requires.ends in
    let i = c.loop-j.invariant in rw i.loan.limit (under-follow _ _ _ i.owes (omega arith) _ (rw i.loan.limit at c.arg-h.ensures) e)

pub loop-j-preserved : goal.loop-j-preserved
loop-j-preserved c = let a = count-looked _ _ _ c.look-what.ensures c.count-j-end.ensures in (let i = c.loop-j.invariant in record { loan = loan_then i.loan c.see-k.ensures.loan; owes = under_next _ _ _ i.owes (omega arith) _ _ _ (rw i.loan.limit at c.arg-h.ensures) (rw i.loan.limit at c.see-k.ensures.saw) })

pub returns : goal.returns
returns c = let a = count-looked _ _ _ c.look-what.ensures c.count-j-end.ensures in
    let i = c.loop-j.invariant in
    record { loan = i.loan; saw = subst (λ (l : List ℕ). Saw c.args.store.now.limit c.args.count l c.args.store.now.bytes.now c.loop-j.store.bytes.now c.loop-j.k) (under-args _ _ _ _ _ c.listed-n.ensures c.requires.i_lt_count) (owes-sight-end _ _ (args (node (graph_of c.args.store.now.limit c.args.store.now.bytes.now) c.listed-n.result.0)) i.owes (omega arith)) }
