use Rattle.store.proofs.Became.{loan_then}
use Rattle.writer.proofs.EachTerm.{read-now, size-on, size-all}
use Rattle.writer.proofs.Counting.{fits-over, fits_in}
use Rattle.writer.proofs.Turning.{framed_then}
use native.Mathlib.Omega.{arith}
use Rattle.writer.proofs.sizes.size.Goals as goal

pub size_term-sum-requires-clause-read : goal.size_term-sum-requires-clause-read
size_term-sum-requires-clause-read c = rw c.loop-h.invariant.3.limit (read-now _ _ _ _ _ c.loop-h.invariant.0.kept c.loop-h-test.true c.requires.reads)

pub returns-then-sum-room : goal.returns-then-sum-room
returns-then-sum-room c = let i = c.loop-h.invariant in let o = size-on _ _ _ _ _ _ _ _ _ i.0.kept c.loop-h-test.true i.1 (rw i.3.limit at c.size_term-sum.ensures.counted) in record { loan = loan_then i.3 c.size_term-sum.ensures.loan; framed = framed_then i.0 (rw i.3.limit at c.size_term-sum.ensures.framed); size = fits-over _ _ (omega (arith, o.0)) }

pub loop-h-preserved : goal.loop-h-preserved
loop-h-preserved c = let i = c.loop-h.invariant in let o = size-on _ _ _ _ _ _ _ _ _ i.0.kept c.loop-h-test.true i.1 (rw i.3.limit at c.size_term-sum.ensures.counted) in (framed_then i.0 (rw i.3.limit at c.size_term-sum.ensures.framed), o.1 c.if-sum-room.false, c.if-sum-room.false, loan_then i.3 c.size_term-sum.ensures.loan)

pub returns : goal.returns
returns c = let i = c.loop-h.invariant in record { loan = i.3; framed = i.0; size = fits_in _ _ _ (size-all _ _ _ _ _ _ c.loop-h-test.false i.1) i.2 }
