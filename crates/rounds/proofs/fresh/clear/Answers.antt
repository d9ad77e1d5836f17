use Rattle.store.proofs.Became.{loan_then, did_at}
use native.Mathlib.Omega.{arith}
use Rattle.rounds.proofs.Zeros.{clearing-more, clearing-all}
use Rattle.rounds.proofs.fresh.clear.Goals as goal

pub loop-k-preserved : goal.loop-k-preserved
loop-k-preserved c = let i = c.loop-k.invariant in let l = loan_then i.1 c.put_mark.ensures.loan in (clearing-more c.loop-k-test.true c.args.store.now.room.1 i.0 (did_at i.1.limit c.put_mark.ensures) (did_at l.limit c.put_place.ensures), loan_then l c.put_place.ensures.loan)

pub returns : goal.returns
returns c = let i = c.loop-k.invariant in record { loan = i.1; fresh = clearing-all (omega arith) i.0 }
