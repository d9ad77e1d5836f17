use native.Mathlib.Omega.{arith}
use mathlib.Core.Path.{refl, ap, sym}
use lib.ListN.{length}
use Rattle.compiler.proofs.Writing.{emits-as}
use Rattle.compiler.proofs.Trees.{rule-is, ending-one, ending-more}
use Rattle.compiler.proofs.rule.put_rule.Goals as goal

pub bounds-s-at : goal.bounds-s-at
bounds-s-at c = omega (arith, (rule-is c.requires.0 _ refl c.requires.1).inside)

pub put_rights-e-requires : goal.put_rights-e-requires
put_rights-e-requires c = (rule-is c.requires.0 _ refl c.requires.1).here

pub put-out-requires : goal.put-out-requires
put-out-requires c = let y = rule-is c.requires.0 _ refl c.requires.1 in let r = y.room _ _ (c.put_rights-e.ensures y.here) in let e = ap length (ending-one _ c.if-k-eq1.true) in omega arith

pub put-out-requires-else-k-eq1 : goal.put-out-requires-else-k-eq1
put-out-requires-else-k-eq1 c = let y = rule-is c.requires.0 _ refl c.requires.1 in let r = y.room _ _ (c.put_rights-e.ensures y.here) in let e = ap length (ending-more _ c.if-k-eq1.false) in omega arith

pub returns-then-k-eq1 : goal.returns-then-k-eq1
returns-then-k-eq1 c = λ x. (let y = rule-is x _ refl c.requires.1 in y.finish _ _ _ _ (c.put_rights-e.ensures y.here) refl (emits-as c.put-out.ensures _ (sym (ending-one _ c.if-k-eq1.true))))

pub returns-else-k-eq1 : goal.returns-else-k-eq1
returns-else-k-eq1 c = λ x. (let y = rule-is x _ refl c.requires.1 in y.finish _ _ _ _ (c.put_rights-e.ensures y.here) refl (emits-as c.put-out-else-k-eq1.ensures _ (sym (ending-more _ c.if-k-eq1.false))))
