use native.Mathlib.Omega.{arith}
use Rattle.store.proofs.Became.{loan_same, loan_then, did_at}
use Rattle.copier.proofs.Listing.{see-old, see-room, see-new}
use Rattle.copier.proofs.see.Goals as goal

pub returns-then-p-gt0 : goal.returns-then-p-gt0
returns-then-p-gt0 c = record { loan = loan_same; saw = see-old _ _ c.args.store.now.room.1 c.requires.listed _ _ _ c.follow-n.ensures (let e = c.follow-n.ensures in let p = c.requires.h_bound in omega arith) c.place-p.ensures c.if-p-gt0.true }

pub put_listed-requires : goal.put_listed-requires
put_listed-requires c = see-room _ _ c.args.store.now.room.1 c.requires.listed _ _ _ c.follow-n.ensures (let e = c.follow-n.ensures in let p = c.requires.h_bound in omega arith) c.place-p.ensures c.if-p-gt0.false

pub returns : goal.returns
returns c = record { loan = loan_then c.put_listed.ensures.loan c.put_place.ensures.loan; saw = see-new _ _ c.args.store.now.room.1 c.requires.listed _ _ _ c.follow-n.ensures (let e = c.follow-n.ensures in let p = c.requires.h_bound in omega arith) c.place-p.ensures c.if-p-gt0.false c.put_listed.ensures.did (did_at c.put_listed.ensures.loan.limit c.put_place.ensures) }
