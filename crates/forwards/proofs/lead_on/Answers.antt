use Rattle.store.proofs.Became.{loan_then, did_at}
use mathlib.Core.Path.{sym}
use Rattle.std.proofs.lemmas.Bool.{eqb-true, eqb-false}
use Rattle.forwards.proofs.Cases.{none-led, one-forward, second-inside, both-led}
use Rattle.forwards.proofs.lead_on.Goals as goal

pub returns-then-eq : goal.returns-then-eq
returns-then-eq c = none-led _ _ (one-forward _ _ _ c.requires.a_lt_limit.1 _ c.follow-e.ensures (eqb-true _ _ (sym c.if-eq.ensures)))

pub put_fwd-requires-2 : goal.put_fwd-requires-2
put_fwd-requires-2 c = rw c.put_fwd.ensures.loan.limit (second-inside _ _ _ _ _ c.requires.a_lt_limit.1 c.follow-e.ensures (eqb-false _ _ (sym c.if-eq.ensures)) c.requires.a_lt_limit.0)

pub returns : goal.returns
returns c = let d = c.put_fwd.ensures in record { loan = loan_then d.loan c.put_fwd-2.ensures.loan; did = both-led _ _ _ _ _ c.requires.a_lt_limit.1 c.follow-e.ensures (eqb-false _ _ (sym c.if-eq.ensures)) _ _ _ c.lead-y.ensures d.did (did_at d.loan.limit c.put_fwd-2.ensures) }
