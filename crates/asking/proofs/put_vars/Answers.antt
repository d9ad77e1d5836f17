use Rattle.store.proofs.Became.{loan_same, loan_then, did_at}
use native.Mathlib.Omega.{arith}
use mathlib.Core.Path.{refl, ◌∙◌}
use Rattle.asking.proofs.Terms.{vars-none, vars-step}
use Rattle.asking.proofs.put_vars.Goals as goal

pub loop-i-init : goal.loop-i-init
loop-i-init c = (vars-none _ _, loan_same, refl)

pub loop-i-preserved : goal.loop-i-preserved
loop-i-preserved c = let i = c.loop-i.invariant in let p = c.put_var in let d = did_at i.1.limit p.ensures in (vars-step _ _ _ _ _ (omega arith) i.0 d, loan_then i.1 p.ensures.loan, d.long ∙ i.2)
