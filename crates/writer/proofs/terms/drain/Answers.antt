use Rattle.store.proofs.Became.{loan_then}
use Rattle.writer.proofs.Turning.{kept_then}
use Rattle.writer.proofs.Draining.{drain-fits, drain-is, drain-long, drain-fit, drain-stands, drain-falls, drained}
use Rattle.writer.proofs.Counting.{onward-at, step-ready}
use Rattle.writer.proofs.Telling.{table_same}
use Rattle.store.specs.Regions.{graph_of}
use mathlib.Core.Path.{◌∙◌}
use Rattle.writer.proofs.terms.drain.Goals as goal

pub step-t-requires-clause-e_lt_limit : goal.step-t-requires-clause-e_lt_limit
step-t-requires-clause-e_lt_limit c = let i = c.loop-d.invariant in rw i.5.limit (step-ready _ _ _ _ c.loop-d-test.true c.args.store.now.room i.0 i.1).1.1

pub tell-p-requires-clause-table : goal.tell-p-requires-clause-table
tell-p-requires-clause-table c =
    let i = c.loop-d.invariant in
    let t = rw i.5.limit at c.step-t.ensures.turned in
    rw (loan_then i.5 c.step-t.ensures.loan).limit (table_same _ _ _ _ t.framed.list t.framed.places i.2)

pub tell-p-requires-clause-within : goal.tell-p-requires-clause-within
tell-p-requires-clause-within c =
    let i = c.loop-d.invariant in
    let t = rw i.5.limit at c.step-t.ensures.turned in
    let s1 = c.step-t.new.store.bytes.now in
    let o = onward-at _ _ _ _ c.loop-d-test.true c.args.store.now.room i.0 i.1 _ _ t in
    (rw (loan_then i.5 c.step-t.ensures.loan).limit o.within, drain-fits _ _ _ _ _ _ _ s1 c.loop-d.out s1 _ 0 0 o t.framed i.4)

pub loop-d-smaller : goal.loop-d-smaller
loop-d-smaller c =
    let i = c.loop-d.invariant in
    let t = rw i.5.limit at c.step-t.ensures.turned in
    let o = onward-at _ _ _ _ c.loop-d-test.true c.args.store.now.room i.0 i.1 _ _ t in
    drain-falls _ _ _ _ _ _ _ _ _ _ _ _ _ o t.framed i.4 (rw (loan_then i.5 c.step-t.ensures.loan).limit at c.tell-p.ensures.told)

pub loop-d-preserved : goal.loop-d-preserved
loop-d-preserved c =
    let i = c.loop-d.invariant in
    let l = loan_then i.5 c.step-t.ensures.loan in
    let t = rw i.5.limit at c.step-t.ensures.turned in
    let F = t.framed in
    let T = rw l.limit at c.tell-p.ensures.told in
    let o = onward-at _ _ _ _ c.loop-d-test.true c.args.store.now.room i.0 i.1 _ _ t in
    (kept_then (kept_then i.0 F.kept) T.kept, drain-stands _ _ _ _ _ _ _ _ _ _ _ _ _ o F i.4 T, T.table, drain-is _ _ _ _ _ _ _ _ _ _ _ _ _ o F i.4 T ∙ i.3, drain-fit _ _ _ _ _ _ _ _ _ _ _ _ _ o F i.4 T, loan_then l c.tell-p.ensures.loan, drain-long _ _ _ _ _ _ _ _ _ _ _ _ _ o F i.4 T ∙ i.6)

pub returns : goal.returns
returns c = let i = c.loop-d.invariant in
    record { loan = i.5; writes = record { is = drained _ _ _ _ (graph_of c.args.store.now.limit c.args.store.now.bytes.now) _ _ c.loop-d-test.false ∙ i.3; table = i.2; kept = i.0 } }
