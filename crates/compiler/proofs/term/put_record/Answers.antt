use native.Mathlib.Omega.{arith}
use mathlib.Core.Path.{sym}
use mathlib.Core.List.{[], ◌∷◌}
use lib.ListN.{length-append}
use Rattle.compiler.proofs.Writing.{emits_then, emits-as}
use Rattle.compiler.proofs.Loops.{row-long, code-con, code-fun, code-fresh, code-slot}
use Rattle.compiler.specs.Rows.{row}
use Rattle.compiler.proofs.term.put_record.Goals as goal

pub put-requires : goal.put-requires
put-requires c = let h = rw (c.in-7.is, code-con) at c.requires in omega arith

pub returns-in-7 : goal.returns-in-7
returns-in-7 c = emits-as c.put.ensures _ (rw c.in-7.is (sym (code-con _ _)))

pub put-requires-in-8 : goal.put-requires-in-8
put-requires-in-8 c = let h = rw (c.in-8.is, code-fun) at c.requires in omega arith

pub returns-in-8 : goal.returns-in-8
returns-in-8 c = emits-as c.put-in-8.ensures _ (rw c.in-8.is (sym (code-fun _ _)))

pub put-requires-in-10 : goal.put-requires-in-10
put-requires-in-10 c = let h = rw (c.in-10.is, code-fresh) at c.requires in omega arith

pub returns-in-10 : goal.returns-in-10
returns-in-10 c = emits-as c.put-in-10.ensures _ (rw c.in-10.is (sym (code-fresh _ _)))

pub put_load-p-requires-clause-o_in_bounds : goal.put_load-p-requires-clause-o_in_bounds
put_load-p-requires-clause-o_in_bounds c = let h = rw (code-slot c.args.rows.now c.args.n c.args.kind (λ z. omega arith) (λ z. omega arith) (λ z. omega arith)) at c.requires in let n = row-long c.args.rows.now c.args.n c.told-rows (omega arith) in let q = length-append (row c.args.rows.now c.args.n) (0x33 ∷ []) in omega arith

pub put-requires-in_default : goal.put-requires-in_default
put-requires-in_default c = let h = rw (code-slot c.args.rows.now c.args.n c.args.kind (λ z. omega arith) (λ z. omega arith) (λ z. omega arith)) at c.requires in let n = row-long c.args.rows.now c.args.n c.told-rows (omega arith) in let q = length-append (row c.args.rows.now c.args.n) (0x33 ∷ []) in omega arith

pub returns-in_default : goal.returns-in_default
returns-in_default c = emits-as (emits_then c.put_load-p.ensures c.put-in_default.ensures) _ (sym (code-slot _ _ _ (λ z. omega arith) (λ z. omega arith) (λ z. omega arith)))
