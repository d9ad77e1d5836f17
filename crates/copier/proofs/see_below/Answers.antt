use native.Mathlib.Omega.{arith}
use Rattle.store.proofs.Became.{loan_same, loan_then}
use Rattle.copier.proofs.Listing.{owes-sweep, owes-sweep-end, owes-ends}
use Rattle.copier.proofs.Steps.{owes-start}
use Rattle.copier.proofs.see_below.Goals as goal

pub loop-i-init : goal.loop-i-init
loop-i-init c = record { loan = loan_same; owes = owes-start _ _ _ c.requires.listed }

pub see_under-k-requires-clause-ends : goal.see_under-k-requires-clause-ends
see_under-k-requires-clause-ends c = let i = c.loop-i.invariant in let k = i.owes.kept.long in let r = c.args.store.now.room.1 in rw i.loan.limit (owes-ends _ _ (omega arith) i.owes c.loop-i-test.true c.requires.solid)

pub loop-i-preserved : goal.loop-i-preserved
loop-i-preserved c = let i = c.loop-i.invariant in let k = i.owes.kept.long in let r = c.args.store.now.room.1 in record { loan = loan_then i.loan c.see_under-k.ensures.loan; owes = owes-sweep _ _ _ (omega arith) i.owes c.loop-i-test.true (rw i.loan.limit at c.see_under-k.ensures.saw) }

pub returns : goal.returns
returns c = let i = c.loop-i.invariant in let k = i.owes.kept.long in let r = c.args.store.now.room.1 in record { loan = i.loan; lists = owes-sweep-end _ _ (omega arith) i.owes c.loop-i-test.false }
