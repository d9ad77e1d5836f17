use native.Mathlib.Omega.{arith}
use Rattle.asking.proofs.Terms.{count-more, count_same, count-end}
use Rattle.asking.proofs.count_cells.Goals.{then-q-k, else-q-k}
use Rattle.asking.proofs.count_cells.Goals as goal

pub loop-k-preserved : goal.loop-k-preserved
loop-k-preserved c = let i = c.loop-k.invariant in elim c.if-q-k.branch [
  | then-q-k w ↦ let e = w.count-is in let f = count-more _ _ _ _ c.loop-k-test.true w.if-q-k.true i.0 in (rw e f, omega arith)
  | else-q-k w ↦ let e = w.count-is in let f = count_same _ _ _ _ c.loop-k-test.true w.if-q-k.false i.0 in (rw e f, omega arith)
]

pub returns : goal.returns
returns c = let i = c.loop-k.invariant in (count-end _ _ _ _ c.loop-k-test.false i.0, omega arith)
