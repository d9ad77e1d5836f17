use Rattle.store.proofs.Became.{loan_same}
use Rattle.machine.proofs.Making.{var-lost, var-is}
use native.Mathlib.Omega.{arith}
use Rattle.machine.proofs.makes.make_var.Goals as goal

pub returns-then-at-regs : goal.returns-then-at-regs
returns-then-at-regs c = record { loan = loan_same; went = rw c.ends.ensures (var-lost _ _ _ _ _ c.requires.fine _ c.if-at-regs.true) }

pub returns : goal.returns
returns c = record { loan = c.push_term.ensures.loan; went = var-is _ _ _ _ _ c.requires.fine _ _ c.requires.space (omega arith) c.rest-k.ensures c.push_term.ensures.went }
