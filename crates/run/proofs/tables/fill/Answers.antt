use native.Mathlib.Omega.{arith}
use Rattle.store.proofs.Became.{loan_same, loan_then, did_at}
use Rattle.run.proofs.Filling.{filled_none, filled_more, filled-all}
use Rattle.run.proofs.tables.fill.Goals as goal

pub loop-k-init : goal.loop-k-init
loop-k-init c = record { loan = loan_same; filled = filled_none _ _ _ _ }

pub put_rest-requires : goal.put_rest-requires
put_rest-requires c = let i = c.loop-k.invariant in let l = i.loan.limit in omega (arith, i.filled.long)

pub loop-k-preserved : goal.loop-k-preserved
loop-k-preserved c = let i = c.loop-k.invariant in record { loan = loan_then i.loan c.put_rest.ensures.loan; filled = filled_more (omega arith) (omega (arith, i.filled.long)) i.filled (did_at i.loan.limit c.put_rest.ensures) }

pub returns : goal.returns
returns c = let i = c.loop-k.invariant in record { loan = i.loan; filled = filled-all (omega arith) i.filled }
