use Rattle.store.proofs.Became.{loan_same, loan_then, did_at}
use Rattle.machine.proofs.Making.{store-lost, store-full, store_is, register_set}
use native.Mathlib.Omega.{arith}
use Rattle.machine.proofs.makes.store_var.Goals as goal

pub returns-then-at-regs : goal.returns-then-at-regs
returns-then-at-regs c = record { loan = loan_same; went = rw c.ends.ensures (store-lost _ _ _ _ _ c.requires.fine _ (omega arith) c.requires.space) }

pub returns-then-regs-store : goal.returns-then-regs-store
returns-then-regs-store c = record { loan = loan_same; went = rw c.ends-then-regs-store.ensures (store-full _ _ _ _ _ c.requires.fine _ (omega arith) c.requires.space (omega arith)) }

pub returns : goal.returns
returns c = let l = c.put_var.ensures.loan in record { loan = loan_then l c.put_rest.ensures.loan; went = rw c.max.ensures (store_is _ _ _ _ _ c.requires.fine _ _ (omega arith) (omega (arith, c.ranges.v)) c.requires.space (omega arith) c.put_var.ensures.did (did_at l.limit c.put_rest.ensures) (register_set _ _ _ (omega arith) (omega (arith, c.ranges.v)) c.requires.fine.1) (omega (arith, c.ranges.v))) }
