use native.Mathlib.Omega.{arith}
use Rattle.store.proofs.Writes.{length-list}
use Rattle.store.proofs.Became.{loan_then, did_at}
use Rattle.copier.proofs.Listing.{length_seen}
use Rattle.copier.proofs.Steps.{clears-below, clears-step, clears-end}
use Rattle.copier.proofs.clear.Goals as goal

pub put_place-requires : goal.put_place-requires
put_place-requires c = let r = c.args.store.now.room.1 in let i = c.loop-i.invariant in rw i.loan.limit (clears-below _ _ _ i.clears c.loop-i-test.true (rw length-list (omega arith)) _ (rw i.loan.limit at c.listed-n.ensures) c.requires.below)

pub loop-i-preserved : goal.loop-i-preserved
loop-i-preserved c =
    let r = c.args.store.now.room.1 in
    let i = c.loop-i.invariant in
    record {
      loan = loan_then i.loan c.put_place.ensures.loan;
      clears = clears-step _ _ _ i.clears c.loop-i-test.true (rw length-list (omega arith)) _ (rw i.loan.limit at c.listed-n.ensures) (did_at i.loan.limit c.put_place.ensures);
    }

pub returns : goal.returns
returns c = let e = length_seen _ _ c.args.store.now.room.1 _ c.requires.count_le_limit in let i = c.loop-i.invariant in record { loan = i.loan; placed = clears-end _ _ _ i.clears (omega arith) }
