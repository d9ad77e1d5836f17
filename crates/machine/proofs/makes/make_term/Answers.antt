use Rattle.store.proofs.Became.{loan_same, loan_then}
use Rattle.machine.proofs.Making.{term-lost, term-full, term_is}
use Rattle.machine.proofs.makes.make_term.Goals as goal

pub returns-then-n-gt8 : goal.returns-then-n-gt8
returns-then-n-gt8 c = record { loan = loan_same; went = rw c.ends.ensures (term-lost _ _ _ _ _ c.requires.fine _ _ (rw (c.view.ensures.limit, c.view.ensures.bytes) at c.arity-count.ensures) c.then-n-gt8.either) }

pub returns-then-regs-store : goal.returns-then-regs-store
returns-then-regs-store c = record { loan = loan_same; went = rw c.ends-then-regs-store.ensures (term-full _ _ _ _ _ c.requires.fine _ _ (rw (c.view.ensures.limit, c.view.ensures.bytes) at c.arity-count.ensures) c.if-n-regs.false c.if-regs-store.true) }

pub returns : goal.returns
returns c = let l = c.lay_cell.ensures.loan in record { loan = loan_then l c.push_term.ensures.loan; went = term_is _ _ _ _ _ c.requires.fine _ _ (rw (c.view.ensures.limit, c.view.ensures.bytes) at c.arity-count.ensures) c.if-n-regs.false c.if-regs-store.false c.lay_cell.ensures.did (rw l.limit at c.push_term.ensures.went) }
