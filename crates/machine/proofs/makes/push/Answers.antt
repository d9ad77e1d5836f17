use Rattle.store.proofs.Became.{loan_same}
use Rattle.machine.proofs.Making.{push-lost, push-is}
use Rattle.machine.proofs.makes.push.Goals as goal

pub returns-in_default : goal.returns-in_default
returns-in_default c = record { loan = loan_same; went = rw c.ends.ensures (push-lost _ _ _ _ _ c.requires.fine c.in_default.is) }

pub returns : goal.returns
returns c = record { loan = c.push_term.ensures.loan; went = push-is _ _ _ _ _ c.requires.fine _ c.in-Some.is c.push_term.ensures.went }
