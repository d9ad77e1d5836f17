use Rattle.store.proofs.Became.{loan_same, loan_then}
use Rattle.copier.proofs.Copying.{copies-short, copying-start, copying-spot, copying-room, copying-step, copying-end}
use Rattle.copier.proofs.put_copy.Goals as goal

pub put_head-requires-clause-count_bound : goal.put_head-requires-clause-count_bound
put_head-requires-clause-count_bound c = copies-short c.requires.copies c.args.store.now.room.1 c.requires.count_value

pub loop-j-init : goal.loop-j-init
loop-j-init c = let h = c.put_head.ensures in record { loan = loan_same; copying = rw h.loan.limit (copying-start _ _ _ _ _ _ _ _ c.args.store.now.room.1 c.requires.copies c.requires.count_value h.did) }

pub place_of-v-requires : goal.place_of-v-requires
place_of-v-requires c = let i = c.loop-j.invariant in record { spots = rw i.loan.limit (copying-spot _ _ _ _ _ _ _ _ i.copying c.loop-j-test.true _ (rw i.loan.limit at c.arg-h.ensures)) }

pub put_arg-requires-clause-j_in_bounds : goal.put_arg-requires-clause-j_in_bounds
put_arg-requires-clause-j_in_bounds c = let i = c.loop-j.invariant in rw i.loan.limit (copying-room _ _ _ _ _ _ _ _ i.copying c.loop-j-test.true)

pub loop-j-preserved : goal.loop-j-preserved
loop-j-preserved c =
    let i = c.loop-j.invariant in
    record {
      loan = loan_then i.loan c.put_arg.ensures.loan;
      copying = copying-step _ _ _ _ _ _ _ _ i.copying c.loop-j-test.true _ _ _ (rw i.loan.limit at c.arg-h.ensures) (rw i.loan.limit at c.place_of-v.ensures) (rw i.loan.limit at c.put_arg.ensures.did);
    }

pub returns : goal.returns
returns c =
    let h = c.put_head.ensures in
    let i = c.loop-j.invariant in
    record { loan = loan_then h.loan i.loan; did = copying-end _ _ _ _ _ _ _ _ _ _ _ c.requires.copies h.did (rw h.loan.limit at i.copying) c.loop-j-test.false }
