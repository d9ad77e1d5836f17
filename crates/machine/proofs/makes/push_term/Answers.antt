use Rattle.store.proofs.Became.{loan_same}
use Rattle.machine.proofs.Making.{push-full, push_goes}
use native.Mathlib.Omega.{arith}
use Rattle.machine.proofs.makes.push_term.Goals as goal

pub returns-then-regs-ge320 : goal.returns-then-regs-ge320
returns-then-regs-ge320 c = record { loan = loan_same; went = rw c.ends.ensures (push-full _ _ _ _ _ c.requires.fine _ c.if-regs-ge320.true) }

pub returns : goal.returns
returns c = record { loan = c.put_rest.ensures.loan; went = push_goes _ _ _ _ _ c.requires.fine _ c.requires.space (omega arith) c.put_rest.ensures.did }
