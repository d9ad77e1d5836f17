use native.Mathlib.Omega.{arith}
use Rattle.std.proofs.lemmas.Result.{err_from_is_err_and}
use Rattle.book.proofs.Wholes.{book-long, book-first, book-types, book-lost, book-read, was-passed, was-typed, part-long}
use Rattle.book.proofs.shelf.read_book.Goals as goal

pub returns-then-s-gt32768 : goal.returns-then-s-gt32768
returns-then-s-gt32768 c = rw c.new.ensures (book-long _ _ _ c.if-s-gt32768.true)

pub returns-in_err-n : goal.returns-in_err-n
returns-in_err-n c = let p = err_from_is_err_and c.from_residual.result c.from_residual.ensures.1 in rw (p.1, p.2) (book-first _ c.if-s-gt32768.false _ _ c.first_pass.ensures c.in_err-n.was)

pub returns-in_err-t : goal.returns-in_err-t
returns-in_err-t c = let g = was-passed _ _ c.first_pass.ensures c.in_ok-n.was in let p = err_from_is_err_and c.from_residual-in_err-t.result c.from_residual-in_err-t.ensures.1 in rw (p.1, p.2) (book-types _ c.if-s-gt32768.false _ _ g c.read_types.ensures c.in_err-t.was)

pub slice_bounds-read_funcs-end : goal.slice_bounds-read_funcs-end
slice_bounds-read_funcs-end c = let t = was-typed _ _ c.read_types.ensures c.in_ok-t.was in omega (arith, t.few, t.long)

pub slice_bounds-read_funcs-end-2 : goal.slice_bounds-read_funcs-end-2
slice_bounds-read_funcs-end-2 c = let t = was-typed _ _ c.read_types.ensures c.in_ok-t.was in part-long _ _ (omega (arith, t.few, t.long))

pub slice_bounds-read_funcs-end-3 : goal.slice_bounds-read_funcs-end-3
slice_bounds-read_funcs-end-3 c = let g = was-passed _ _ c.first_pass.ensures c.in_ok-n.was in omega (arith, g.few, g.long)

pub slice_bounds-read_funcs-end-4 : goal.slice_bounds-read_funcs-end-4
slice_bounds-read_funcs-end-4 c = let g = was-passed _ _ c.first_pass.ensures c.in_ok-n.was in part-long _ _ (omega (arith, g.few, g.long))

pub read_funcs-requires : goal.read_funcs-requires
read_funcs-requires c = let t = was-typed _ _ c.read_types.ensures c.in_ok-t.was in record { front = t.front; are = t.are }

pub returns-in_err-read_funcs : goal.returns-in_err-read_funcs
returns-in_err-read_funcs c =
    let g = was-passed _ _ c.first_pass.ensures c.in_ok-n.was in
    let t = was-typed _ _ c.read_types.ensures c.in_ok-t.was in
    let p = err_from_is_err_and c.from_residual-in_err-read_funcs.result c.from_residual-in_err-read_funcs.ensures.1 in rw (p.1, p.2) (book-lost _ c.if-s-gt32768.false _ _ g t c.read_funcs.ensures c.in_err-read_funcs.was)

pub returns : goal.returns
returns c =
    let g = was-passed _ _ c.first_pass.ensures c.in_ok-n.was in
    let t = was-typed _ _ c.read_types.ensures c.in_ok-t.was in
    book-read _ c.if-s-gt32768.false _ _ g t c.read_funcs.ensures c.in_ok-read_funcs.was
