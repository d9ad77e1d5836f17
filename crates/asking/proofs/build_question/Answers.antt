use Rattle.store.proofs.Became.{loan_same, loan_then}
use native.Mathlib.Omega.{arith}
use mathlib.Core.Path.{refl}
use Rattle.asking.proofs.Answers.{asked-full, asked-made, asked-still, asked-size}
use Rattle.asking.proofs.build_question.Goals as goal

pub bounds-q-1 : goal.bounds-q-1
bounds-q-1 c = let z = asked-size c.requires.asked_of in omega arith

pub overflow_sub-n : goal.overflow_sub-n
overflow_sub-n c = let z = asked-size c.requires.asked_of in omega arith

pub count_cells-cells-requires : goal.count_cells-cells-requires
count_cells-cells-requires c = let z = asked-size c.requires.asked_of in omega arith

pub returns-then-store-vars : goal.returns-then-store-vars
returns-then-store-vars c = let z = asked-size c.requires.asked_of in record { loan = loan_same; asked = λ x. asked-full x _ z.0 (omega arith) }

pub walk_back-w-requires-clause-q_len : goal.walk_back-w-requires-clause-q_len
walk_back-w-requires-clause-q_len c = let z = asked-size c.requires.asked_of in (z.0, refl, omega arith)

pub rest-value-requires : goal.rest-value-requires
rest-value-requires c =
    let v = c.put_vars.ensures in
    let w = c.walk_back-w.ensures in
    let l = (v.vars.beside 0 0).long in
    let k = ((rw v.loan.limit at w.done) (asked-still v.vars.rest c.requires.asked_of)).beside.long in
    let m = (loan_then v.loan w.loan).limit in
    omega arith

pub first_roots-requires : goal.first_roots-requires
first_roots-requires c = let z = asked-size c.requires.asked_of in omega arith

pub returns : goal.returns
returns c =
    let z = asked-size c.requires.asked_of in
    let v = c.put_vars.ensures in
    let w = c.walk_back-w.ensures in
    let m = loan_then v.loan w.loan in
    record { loan = m; asked = λ x. asked-made x _ _ _ _ _ _ _ refl v.vars ((rw v.loan.limit at w.done) (asked-still v.vars.rest x)) z.0 (omega (arith, c.if-store-vars.false, c.count_cells-cells.ensures.0)) (rw m.limit at c.rest-value.ensures) c.first_roots.ensures }
