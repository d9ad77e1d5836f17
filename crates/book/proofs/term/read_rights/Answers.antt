use Prim.Native.Nat.{◌+◌, ◌-◌}
use mathlib.Core.Path.{◌≡◌}
use native.Mathlib.Omega.{arith}
use Rattle.std.proofs.lemmas.Result.{err_from_is_err_and}
use Rattle.book.proofs.Words.{rights-end, rights-fault, rights-more}
use Rattle.book.proofs.term.read_rights.Goals as goal

pub returns-in_err-at : goal.returns-in_err-at
returns-in_err-at c = let p = err_from_is_err_and c.from_residual.result c.from_residual.ensures.1 in rw (p.1, p.2) (rights-fault _ c.loop.invariant (omega arith) c.read_right.ensures c.in_err-at.was)

pub loop-preserved : goal.loop-preserved
loop-preserved c = let e : c.args.n - (c.loop.counter + 1) ≡ c.args.n - c.loop.counter - 1 = omega arith in rw e (rights-more _ c.loop.invariant (omega arith) c.read_right.ensures c.in_ok-at.was)

pub returns : goal.returns
returns c = rights-end _ c.loop.invariant (omega arith)
