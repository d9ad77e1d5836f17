use Rattle.store.proofs.Became.{loan_same, loan_then}
use Rattle.writer.proofs.Turning.{counted, step-done, step-more, top-low, arg-low}
use native.Mathlib.Omega.{arith}
use Rattle.writer.proofs.walk.step.Goals as goal

pub look-requires : goal.look-requires
look-requires c = top-low _ _ _ _ _ c.frame-f.ensures.0 c.frame-f.ensures.1 c.requires.stood

pub arg-h-requires-clause-n_lt_limit : goal.arg-h-requires-clause-n_lt_limit
arg-h-requires-clause-n_lt_limit c = top-low _ _ _ _ _ c.frame-f.ensures.0 c.frame-f.ensures.1 c.requires.stood

pub arg-h-requires-clause-j_in_bounds : goal.arg-h-requires-clause-j_in_bounds
arg-h-requires-clause-j_in_bounds c = omega (arith, counted _ _ _ c.look.ensures c.count.ensures)

pub visit-requires : goal.visit-requires
visit-requires c = record { d_lt_limit = rw c.put_next.ensures.loan.limit (arg-low _ _ _ _ _ c.frame-f.ensures.0 c.frame-f.ensures.1 c.requires.stood _ _ (omega (arith, counted _ _ _ c.look.ensures c.count.ensures)) c.arg-h.ensures c.put_next.ensures.did) }

pub returns-then-f-count : goal.returns-then-f-count
returns-then-f-count c = let n = c.put_next.ensures in record { loan = loan_then n.loan c.visit.ensures.loan; turned = step-more _ _ _ _ _ c.frame-f.ensures.0 c.frame-f.ensures.1 _ _ _ _ c.requires.e_lt_limit c.args.store.now.room.1 (omega (arith, counted _ _ _ c.look.ensures c.count.ensures)) c.arg-h.ensures n.did (rw n.loan.limit at c.visit.ensures.turned) }

pub returns : goal.returns
returns c = record { loan = loan_same; turned = step-done _ _ _ _ _ c.frame-f.ensures.0 c.frame-f.ensures.1 (omega (arith, counted _ _ _ c.look.ensures c.count.ensures)) }
