use Prim.Native.Nat.{◌+◌, ◌-◌}
use mathlib.Core.Path.{◌≡◌, ◌∙◌}
use mathlib.Core.List.{◌++◌}
use lib.ListN.{get_or, replicate, take, length, length-append, length-drop}
use lib.Seq.{length-take-le}
use native.Mathlib.Omega.{arith}
use borrow.Rule.Slice.PartMut.{put_mid}
use Rattle.std.proofs.Common.{rules}
use Rattle.std.proofs.lemmas.Slice.{take-put_mid, take-put_mid_below}
use Rattle.book.proofs.Places.{under-is}
use Rattle.book.proofs.tree.under.Goals as goal

pub returns : goal.returns
returns c =
    let slots = c.args.slots.now in
    let n = slots.n in
    let a = c.args.a in
    let old = c.args.child.now.depth in
    let can = c.requires.can_split in
    let was = c.requires.are_split in
    let f : c.fill.new.self ≡ replicate a (get_or slots.depth c.args.slot 0 + 1) = search rules in
    let lp : length c.fill.new.self ≡ a = search rules in
    let new = put_mid n (n + a - n) old c.fill.new.self in
    let t : take (n + a) new ≡ take n old ++ c.fill.new.self = take-put_mid n _ old c.fill.new.self (n + a) (omega (arith, lp)) (omega (arith, was.long, can.0.kept.few)) in
    let h : length new ≡ 64 = simp (length-append, length-drop) (let p = length-take-le n old (omega (arith, was.long, can.0.kept.few)) in omega (arith, p, lp, was.long, can.1)) in
    let b : take n new ≡ take n old = take-put_mid_below n _ old c.fill.new.self n (omega arith) (omega (arith, was.long, can.0.kept.few)) in
    (under-is slots c.args.slot a can.0 can.1 f (t ∙ rw was.are) h, record { are = b ∙ was.are; long = h })
