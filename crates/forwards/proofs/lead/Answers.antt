use Rattle.forwards.proofs.Cases.{led-past, led-call, led-other}
use Rattle.forwards.proofs.lead.Goals as goal

pub returns-then-e-store : goal.returns-then-e-store
returns-then-e-store c = led-past _ _ _ _ c.if-e-store.true

pub returns-in-Call : goal.returns-in-Call
returns-in-Call c = led-call _ _ _ _ _ c.in-Call.ensures

pub returns-in_default : goal.returns-in_default
returns-in_default c = led-other _ _ _ _ c.look.ensures c.in_default.not-Call
