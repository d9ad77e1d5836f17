use Rattle.store.proofs.Became.{loan_then}
use Rattle.writer.proofs.EachTerm.{read-now, each_fits, each-small, each_all, each-sum, each_long, write-all, size-all}
use Rattle.writer.proofs.Telling.{table_none}
use Rattle.writer.proofs.Turning.{kept_then}
use mathlib.Core.Path.{◌∙◌}
use native.Mathlib.Omega.{arith}
use Rattle.writer.proofs.terms.write.Goals as goal

pub write_term-p-requires-clause-read : goal.write_term-p-requires-clause-read
write_term-p-requires-clause-read c = let i = c.loop-h.invariant in rw i.5.limit (read-now _ _ _ _ _ i.0 c.loop-h-test.true c.requires.reads)

pub write_term-p-requires-clause-table : goal.write_term-p-requires-clause-table
write_term-p-requires-clause-table c = let i = c.loop-h.invariant in rw i.5.limit (table_none _ _ i.1)

pub write_term-p-requires-clause-h_in_bounds : goal.write_term-p-requires-clause-h_in_bounds
write_term-p-requires-clause-h_in_bounds c = let i = c.loop-h.invariant in rw i.5.limit (each_fits _ _ _ _ _ c.loop-h.store.bytes.now _ _ c.loop-h.store.bytes.now _ 0 0 i.0 c.loop-h-test.true i.2 i.3 i.4)

pub overflow_add-at : goal.overflow_add-at
overflow_add-at c = let i = c.loop-h.invariant in omega (arith, each-small _ _ _ _ _ _ _ _ _ _ _ _ i.0 c.loop-h-test.true i.2 i.3 i.4 (rw i.5.limit at c.write_term-p.ensures.writes))

pub loop-h-preserved : goal.loop-h-preserved
loop-h-preserved c = let i = c.loop-h.invariant in let l = loan_then i.5 c.write_term-p.ensures.loan in let W = rw i.5.limit at c.write_term-p.ensures.writes in let C = rw l.limit at c.clear.ensures.cleared in let t = c.loop-h-test.true in
    let long = each_long _ _ _ _ _ _ _ _ _ _ _ _ i.0 t i.2 i.3 i.4 W in
    (kept_then i.0 (kept_then W.kept C.kept), C.clean, each_all _ _ _ _ _ _ _ _ _ _ _ _ i.0 t i.2 i.3 i.4 W, each-sum _ _ _ _ _ _ _ _ _ _ _ _ i.0 t i.2 i.3 i.4 W, omega (arith, i.4, long), loan_then l c.clear.ensures.loan, long ∙ i.6)

pub returns : goal.returns
returns c = let i = c.loop-h.invariant in let q = c.loop-h-test.false in
    record { loan = i.5; written = record { bytes = write-all _ _ _ _ _ _ _ q i.2 c.requires.roots_in_bounds; count = size-all _ _ _ _ _ _ q i.3; clean = i.1; kept = i.0 } }
