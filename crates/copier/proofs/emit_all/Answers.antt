use native.Mathlib.Omega.{arith}
use Rattle.store.proofs.Became.{loan_then}
use Rattle.copier.proofs.Listing.{length_seen}
use Rattle.copier.proofs.Emits.{emits-step, emits-end, emit-copies}
use Rattle.copier.proofs.emit_all.Goals as goal

pub emit-requires : goal.emit-requires
emit-requires c = let i = c.loop-i.invariant in record { copies = rw i.loan.limit (emit-copies _ _ _ _ _ c.requires.listed c.args.store.now.room.1 i.emits.like c.requires.closed _ c.loop-i-test.true c.requires.count_bound) }

pub loop-i-preserved : goal.loop-i-preserved
loop-i-preserved c = let i = c.loop-i.invariant in record { loan = loan_then i.loan c.emit.ensures.loan; emits = emits-step _ _ _ _ c.args.store.now.room.1 c.requires.listed c.requires.closed c.loop-i-test.true i.emits (rw i.loan.limit at c.emit.ensures.did) }

pub returns : goal.returns
returns c = let e = length_seen _ _ c.args.store.now.room.1 _ c.requires.listed.fits in let i = c.loop-i.invariant in record { loan = i.loan; emitted = emits-end _ _ _ _ i.emits (omega arith) }
