use Rattle.store.proofs.Became.{loan_same, loan_then, did_at}
use Rattle.writer.proofs.Draining.{clear-start, clear-low, clear-again, clear-done, kept-place}
use Rattle.writer.proofs.Turning.{kept-none, kept_then}
use mathlib.Core.Path.{refl, ◌∙◌}
use Rattle.writer.proofs.terms.clear.Goals as goal

pub loop-i-init : goal.loop-i-init
loop-i-init c = (kept-none _ _, refl, clear-start _ _ _ c.args.store.now.room.1 c.requires.table, loan_same)

pub put_place-requires : goal.put_place-requires
put_place-requires c = let i = c.loop-i.invariant in rw i.3.limit (clear-low _ _ _ c.args.store.now.room.1 c.requires.table _ _ _ c.loop-i-test.true i.1 (rw i.3.limit at c.listed-n.ensures))

pub loop-i-preserved : goal.loop-i-preserved
loop-i-preserved c = let i = c.loop-i.invariant in
    let p = did_at i.3.limit c.put_place.ensures in
    let k = kept-place _ _ _ _ _ p in
    (kept_then i.0 k.0, k.1 ∙ i.1, clear-again _ _ _ c.args.store.now.room.1 c.requires.table _ _ _ c.loop-i-test.true i.1 (rw i.3.limit at c.listed-n.ensures) _ i.0.long p i.2, loan_then i.3 c.put_place.ensures.loan)

pub returns : goal.returns
returns c = let i = c.loop-i.invariant in record { loan = i.3; cleared = record { clean = clear-done _ _ _ c.args.store.now.room.1 c.requires.table _ _ c.loop-i-test.false i.0.long i.2; kept = i.0 } }
