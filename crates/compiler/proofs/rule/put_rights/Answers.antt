use native.Mathlib.Omega.{arith}
use mathlib.Core.Path.{refl, ap}
use Rattle.compiler.proofs.Writing.{emits-as}
use Rattle.compiler.proofs.Loops.{vars-long}
use Rattle.compiler.specs.Rows.{vars_code}
use Rattle.compiler.proofs.Rights.{left-as, left-turns, left-none}
use Rattle.compiler.proofs.rule.put_rights.Goals as goal

pub overflow_add-v : goal.overflow_add-v
overflow_add-v c = let t = left-turns c.requires (c.loop.invariant c.requires) (omega arith) in omega (arith, t.inside)

pub bounds-s-at : goal.bounds-s-at
bounds-s-at c = let t = left-turns c.requires (c.loop.invariant c.requires) (omega arith) in omega (arith, t.inside)

pub overflow_add-k : goal.overflow_add-k
overflow_add-k c = let t = left-turns c.requires (c.loop.invariant c.requires) (omega arith) in omega (arith, t.inside)

pub term_size-size-requires : goal.term_size-size-requires
term_size-size-requires c = (left-turns c.requires (c.loop.invariant c.requires) (omega arith)).here

pub put_vars-p-requires : goal.put_vars-p-requires
put_vars-p-requires c = let t = left-turns c.requires (c.loop.invariant c.requires) (omega arith) in omega (arith, t.ahead, t.are)

pub put_term-out-requires-clause-s_in_bounds : goal.put_term-out-requires-clause-s_in_bounds
put_term-out-requires-clause-s_in_bounds c = let t = left-turns c.requires (c.loop.invariant c.requires) (omega arith) in let z = c.term_size-size.ensures t.here in omega (arith, t.inside)

pub put_term-out-requires-clause-n_in_bounds : goal.put_term-out-requires-clause-n_in_bounds
put_term-out-requires-clause-n_in_bounds c = let t = left-turns c.requires (c.loop.invariant c.requires) (omega arith) in let z = c.term_size-size.ensures t.here in let l = vars-long t.vars in let q = rw t.are at c.put_vars-p.ensures.next in rw z (omega (arith, t.ahead))

pub overflow_mul-at : goal.overflow_mul-at
overflow_mul-at c = let t = left-turns c.requires (c.loop.invariant c.requires) (omega arith) in let z = c.term_size-size.ensures t.here in omega (arith, t.inside)

pub overflow_add-at : goal.overflow_add-at
overflow_add-at c = let t = left-turns c.requires (c.loop.invariant c.requires) (omega arith) in let z = c.term_size-size.ensures t.here in omega (arith, t.inside)

pub loop-preserved : goal.loop-preserved
loop-preserved c = λ x. (let t = left-turns x (c.loop.invariant x) (omega arith) in left-as x (t.next _ _ _ _ _ (c.term_size-size.ensures t.here) (emits-as c.put_vars-p.ensures _ (ap vars_code t.are)) c.put_term-out.ensures) _ (omega arith))

pub returns : goal.returns
returns c = λ x. left-none x (c.loop.invariant x) (omega arith) _ refl refl
