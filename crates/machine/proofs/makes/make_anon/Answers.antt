use Rattle.store.proofs.Became.{loan_same, loan_then}
use Rattle.machine.proofs.Making.{anon-full, anon-is}
use native.Mathlib.Omega.{arith}
use Rattle.machine.proofs.makes.make_anon.Goals as goal

pub returns-then-regs-store : goal.returns-then-regs-store
returns-then-regs-store c = record { loan = loan_same; went = rw c.ends.ensures (anon-full _ _ _ _ _ c.requires.fine c.if-regs-store.true) }

pub returns : goal.returns
returns c = let l = c.put_var.ensures.loan in record { loan = loan_then l c.push_term.ensures.loan; went = anon-is _ _ _ _ _ c.requires.fine (omega arith) c.put_var.ensures.did (rw l.limit at c.push_term.ensures.went) }
