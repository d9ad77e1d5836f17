use Rattle.store.proofs.Became.{loan_same, loan_then, did_at}
use Rattle.writer.proofs.Telling.{number-old, number-room, number-new}
use Rattle.writer.proofs.terms.number.Goals as goal

pub returns-then-p-gt0 : goal.returns-then-p-gt0
returns-then-p-gt0 c = record { loan = loan_same; named = number-old _ _ _ _ _ c.args.store.now.room.1 c.requires.table c.requires.n_lt_limit c.place-p.ensures c.if-p-gt0.true }

pub put_listed-requires : goal.put_listed-requires
put_listed-requires c = number-room _ _ _ _ _ c.args.store.now.room.1 c.requires.table c.requires.n_lt_limit c.place-p.ensures c.if-p-gt0.false

pub returns : goal.returns
returns c = record { loan = loan_then c.put_listed.ensures.loan c.put_place.ensures.loan; named = number-new _ _ _ _ _ c.args.store.now.room.1 c.requires.table c.requires.n_lt_limit c.place-p.ensures c.if-p-gt0.false _ _ c.put_listed.ensures.did (did_at c.put_listed.ensures.loan.limit c.put_place.ensures) }
