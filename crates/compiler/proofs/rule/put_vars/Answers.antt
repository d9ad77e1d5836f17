use native.Mathlib.Omega.{arith}
use mathlib.Core.Path.{refl}
use Rattle.compiler.specs.Rows.{vars_code}
use Rattle.compiler.proofs.Writing.{emits_then, emits-as}
use Rattle.compiler.proofs.Loops.{vars-long, vars-more}
use Rattle.compiler.proofs.rule.put_vars.Goals as goal

pub loop-i-init : goal.loop-i-init
unfolding vars_code
loop-i-init c = record { is = refl; next = omega arith }

pub put-out-requires : goal.put-out-requires
put-out-requires c = let n = vars-long c.loop-i.i in omega arith

pub loop-i-preserved : goal.loop-i-preserved
loop-i-preserved c = emits-as (emits_then c.loop-i.invariant c.put-out.ensures) _ (vars-more _)
