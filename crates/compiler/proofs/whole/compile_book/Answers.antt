use native.Mathlib.Omega.{arith}
use Rattle.compiler.proofs.Wholes.{few, cons-known, funcs-here, book-done}
use Rattle.compiler.proofs.whole.compile_book.Goals as goal

pub compile_funcs-requires : goal.compile_funcs-requires
compile_funcs-requires c = (funcs-here c.requires.book_known _ _ _ _ c.told-rows c.requires.in_bounds.1 c.requires.in_bounds.0 c.front_at-from.ensures (c.requires.book_in_bounds c.requires.book_known).0 (c.requires.book_in_bounds c.requires.book_known).1)

pub note_funs-requires : goal.note_funs-requires
note_funs-requires c = ((few c.requires.book_known).1, omega (arith, (c.compile_funcs.ensures (funcs-here c.requires.book_known _ _ _ _ c.told-rows c.requires.in_bounds.1 c.requires.in_bounds.0 c.front_at-from.ensures (c.requires.book_in_bounds c.requires.book_known).0 (c.requires.book_in_bounds c.requires.book_known).1)).long, c.requires.in_bounds.0))

pub note_cons-requires : goal.note_cons-requires
note_cons-requires c = record { in_bounds = ((few c.requires.book_known).0, omega (arith, (c.compile_funcs.ensures (funcs-here c.requires.book_known _ _ _ _ c.told-rows c.requires.in_bounds.1 c.requires.in_bounds.0 c.front_at-from.ensures (c.requires.book_in_bounds c.requires.book_known).0 (c.requires.book_in_bounds c.requires.book_known).1)).long, c.note_funs.ensures.long, c.requires.in_bounds.0)); cons_known = cons-known c.requires.book_known }

pub returns : goal.returns
returns c = λ x. book-done x _ _ _ _ _ _ _ _ c.told-rows c.requires.in_bounds.1 c.requires.in_bounds.0 c.front_at-from.ensures (c.requires.book_in_bounds x).0 (c.requires.book_in_bounds x).1 (c.compile_funcs.ensures (funcs-here x _ _ _ _ c.told-rows c.requires.in_bounds.1 c.requires.in_bounds.0 c.front_at-from.ensures (c.requires.book_in_bounds x).0 (c.requires.book_in_bounds x).1)) c.note_funs.ensures c.note_cons.ensures
