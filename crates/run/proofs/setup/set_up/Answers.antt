use borrow.Author.Rules.{rules}
use Rattle.run.proofs.Lending.{lend-setting}
use native.Mathlib.Omega.{arith}
use Rattle.std.proofs.lemmas.Result.{err_from_is_err_and}
use Rattle.run.proofs.Prepared.{tables-within, tables-room, ending-room, does-fit, set-fits, set-refused}
use Rattle.run.proofs.setup.set_up.Goals as goal

pub slice_bounds-compile_into-count : goal.slice_bounds-compile_into-count
slice_bounds-compile_into-count c = tables-within _ _ _ c.requires

pub slice_bounds-compile_into-start : goal.slice_bounds-compile_into-start
slice_bounds-compile_into-start c = tables-within _ _ _ c.requires

pub compile_into-requires : goal.compile_into-requires
compile_into-requires c = (c.requires.lent, c.requires.most, tables-room _ _ _ c.requires)

pub end_at_counts-requires : goal.end_at_counts-requires
end_at_counts-requires c = ending-room _ _ _ c.requires c.compile_into.new.tables c.compile_into.auto.tables

pub invariant_of-store : goal.invariant_of-store
invariant_of-store c = let r = ending-room _ _ _ c.requires c.compile_into.new.tables c.compile_into.auto.tables in record { room = (r.0, omega arith) }

pub returns-in_err-n : goal.returns-in_err-n
returns-in_err-n c = let p = err_from_is_err_and c.from_residual.result c.from_residual.ensures.1 in rw (p.1, p.2) (set-refused _ _ _ _ _ _ _ _ c.compile_into.ensures c.in_err-n.was)

pub returns : goal.returns
returns c = lend-setting (search rules) _ _ _ _ _ _ (set-fits _ _ _ c.requires _ c.compile_into.auto.tables _ _ _ _ (does-fit _ _ _ _ _ _ _ _ c.compile_into.ensures c.in_ok-n.was) c.end_at_counts.ensures.ended)
