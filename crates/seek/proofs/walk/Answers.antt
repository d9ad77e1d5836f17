-- The walk. The loop keeps the invariant for any root; the turns never run out.
-- Assumes nothing.
use Prim.Native.Nat.{◌+◌, ◌-◌, ◌*◌}
use native.Mathlib.Omega.{arith}
use mathlib.Core.Path.{◌≡◌, refl, ◌∙◌}
use Rattle.std.proofs.Math.Nat.{sub-zero}
use Rattle.seek.specs.Walkable.{found_of}
use Rattle.store.proofs.Became.{loan_same, loan_then}
use Rattle.seek.specs.declared.Turn.TheVariants.{On}
use Rattle.seek.specs.Search.{Hits, Finished, Came, call_of}
use Rattle.seek.proofs.Steps.{going_start, going-none, going-in, going-fit, leaves-finish, over_none, leaves-hit, trail-hit, found-hit}
use Rattle.seek.proofs.Ends.{came-on, came-long}
use Rattle.seek.proofs.walk.Goals as goal

pub loop-init : goal.loop-init
loop-init c = record { loan = loan_same; going = λ r W q. rw sub-zero (going_start W q); long = refl }

pub one_turn-requires : goal.one_turn-requires
one_turn-requires c = let i = c.loop.invariant in record { fit = rw i.loan.limit (going-fit _ (i.going _ c.requires.walks c.args.store.now.room.1)) }

pub returns-in-Hit : goal.returns-in-Hit
unfolding found_of call_of
returns-in-Hit c = let i = c.loop.invariant in
    let J = i.going _ c.requires.walks c.args.store.now.room.1 in
    let X : Hits c.args.store.now.limit _ _ _ _ = rw i.loan.limit at c.in-Hit.ensures.came in
    record { loan = loan_then i.loan c.in-Hit.ensures.loan; went = record { found = found-hit _ J X; long = X.long ∙ i.long; low = λ w e. (let a = going-in _ J in let q : c.loop.t.0 ≡ w.top.0 = cc in omega arith); leaves = λ W. leaves-hit W (i.going _ W c.args.store.now.room.1) X; reached = λ W. trail-hit W (i.going _ W c.args.store.now.room.1) X } }

pub returns-in-Over : goal.returns-in-Over
unfolding found_of call_of
returns-in-Over c = let i = c.loop.invariant in
    let J = i.going _ c.requires.walks c.args.store.now.room.1 in
    let X : Finished c.args.store.now.limit _ _ _ × (c.loop.t.0 ≡ c.args.base.0) = rw i.loan.limit at c.in-Over.ensures.came in
    record { loan = loan_then i.loan c.in-Over.ensures.loan; went = record { found = (over_none _ J X.0 c.args.store.now.room.1 X.1).0; long = X.0.did.long ∙ i.long; low = λ w e. cc; leaves = λ W. leaves-finish W (i.going _ W c.args.store.now.room.1) X.0 c.args.store.now.room.1; reached = λ W. (over_none W (i.going _ W c.args.store.now.room.1) X.0 c.args.store.now.room.1 X.1).1 } }

pub loop-preserved : goal.loop-preserved
loop-preserved c = let i = c.loop.invariant in
    let L = c.args.store.now.limit in
    let C : Came L c.args.base.0 c.loop.t.0 c.loop.store.bytes.now _ (On _) = rw i.loan.limit at c.in-On.ensures.came in
    let one : L * (L + 1) + L + 1 - (c.loop.counter + 1) ≡ L * (L + 1) + L + 1 - c.loop.counter - 1 = omega arith in
    record { loan = loan_then i.loan c.in-On.ensures.loan; going = λ r W q. rw one (came-on W (i.going r W q) q _ _ C); long = came-long C ∙ i.long }

pub returns : goal.returns
returns c = absurd (going-none _ (c.loop.invariant.going _ c.requires.walks c.args.store.now.room.1) (omega arith))
