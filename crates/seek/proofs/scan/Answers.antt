-- The arguments one by one. The loop keeps that those passed are quiet.
-- Assumes nothing.
use native.Mathlib.Omega.{arith}
use Rattle.store.proofs.Laws.{count-looked}
use Rattle.seek.proofs.Meets.{scan-ends}
use Rattle.seek.proofs.scan.Goals as goal

pub arg-requires-clause-j_in_bounds : goal.arg-requires-clause-j_in_bounds
arg-requires-clause-j_in_bounds c = let n = count-looked _ _ _ c.look.ensures c.count-count.ensures in omega arith

pub meet-requires : goal.meet-requires
meet-requires c = let n = count-looked _ _ _ c.look.ensures c.count-count.ensures in record { walkable = rw c.arg.ensures (c.requires.under _ (omega arith)) }

pub returns-in_default : goal.returns-in_default
returns-in_default c = let n = count-looked _ _ _ c.look.ensures c.count-count.ensures in scan-ends _ _ _ _ _ (omega arith) c.arg.ensures c.loop-j.invariant c.meet.result c.in_default.not-Quiet c.meet.ensures

pub returns : goal.returns
returns c = record { each = λ i h. c.loop-j.invariant i (let n = count-looked _ _ _ c.look.ensures c.count-count.ensures in omega arith) }
