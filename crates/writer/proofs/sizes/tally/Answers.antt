use Rattle.store.proofs.Became.{loan_then}
use Rattle.writer.proofs.Counting.{onward-at, step-ready, weigh-small, dues-none}
use Rattle.writer.proofs.Turning.{framed_then}
use Rattle.store.specs.Regions.{graph_of, frames_of}
use native.Mathlib.Omega.{arith}
use Rattle.writer.proofs.sizes.tally.Goals as goal

pub step-t-requires-clause-e_lt_limit : goal.step-t-requires-clause-e_lt_limit
step-t-requires-clause-e_lt_limit c = rw c.loop-d.invariant.4.limit (step-ready _ _ _ _ c.loop-d-test.true c.args.store.now.room c.loop-d.invariant.0.kept c.loop-d.invariant.1).1.1

pub loop-d-smaller : goal.loop-d-smaller
loop-d-smaller c = let o = onward-at _ _ _ _ c.loop-d-test.true c.args.store.now.room c.loop-d.invariant.0.kept c.loop-d.invariant.1 _ _ (rw c.loop-d.invariant.4.limit at c.step-t.ensures.turned) in omega (arith, weigh-small c.step-t.result.met, c.weight-n.ensures, o.falls)

pub loop-d-preserved : goal.loop-d-preserved
loop-d-preserved c = let i = c.loop-d.invariant in
    let o = onward-at _ _ _ _ c.loop-d-test.true c.args.store.now.room c.loop-d.invariant.0.kept c.loop-d.invariant.1 _ _ (rw c.loop-d.invariant.4.limit at c.step-t.ensures.turned) in
    (framed_then i.0 (rw i.4.limit at c.step-t.ensures.turned).framed, o.stands, omega (arith, i.2, o.counts, c.weight-n.ensures), omega (arith, weigh-small c.step-t.result.met, c.weight-n.ensures), loan_then i.4 c.step-t.ensures.loan)

pub returns : goal.returns
returns c = let i = c.loop-d.invariant in let z = dues-none c.args.store.now.limit c.loop-d.d (graph_of c.args.store.now.limit c.args.store.now.bytes.now) (frames_of c.args.store.now.limit c.loop-d.store.bytes.now) c.loop-d-test.false in record { loan = i.4; framed = i.0; counted = record { most = omega (arith, i.2, z); exact = λ h. omega (arith, i.2, z) } }
