use Prim.Native.Nat.{◌+◌, ◌-◌, ◌*◌}
use lib.ListN.{get_or}
use mathlib.Core.Path.{◌≡◌, refl}
use native.Mathlib.Omega.{arith}
use Rattle.book.proofs.Lookups.{ty-start, ty-step, ty-end}
use Rattle.book.proofs.front.type_at.Goals as goal

pub loop-init : goal.loop-init
loop-init c = (let e : c.args.t.0 - 0 ≡ c.args.t.0 = omega arith in rw e (ty-start _ refl c.requires.0 c.requires.1), omega arith)

pub overflow_add-n : goal.overflow_add-n
overflow_add-n c = let g = ty-step _ c.loop.invariant.0 in omega (arith, g.room)

pub bounds-s-at : goal.bounds-s-at
bounds-s-at c = let g = ty-step _ c.loop.invariant.0 in omega (arith, g.room)

pub overflow_add-at-in-loop : goal.overflow_add-at-in-loop
overflow_add-at-in-loop c = let g = ty-step _ c.loop.invariant.0 in omega (arith, g.fits)

pub overflow_add-first : goal.overflow_add-first
overflow_add-first c = let g = ty-step _ c.loop.invariant.0 in omega (arith, g.fits, c.loop.invariant.1)

pub loop-preserved : goal.loop-preserved
loop-preserved c =
    let g = ty-step _ c.loop.invariant.0 in
    let n = c.args.t.0 in
    let e : n - (c.loop.counter + 1) ≡ n - c.loop.counter - 1 = omega arith in
    let f : c.loop.at + (2 * get_or c.args.s.now (c.loop.at + 1) 0 + 2) ≡ c.loop.at + 2 * get_or c.args.s.now (c.loop.at + 1) 0 + 2 = omega arith in
    (rw (e, f) (g.more (omega arith)), omega (arith, c.loop.invariant.1))

pub overflow_add-count : goal.overflow_add-count
overflow_add-count c = let g = ty-step _ c.loop.invariant.0 in omega (arith, g.room)

pub bounds-s-at-2 : goal.bounds-s-at-2
bounds-s-at-2 c = let g = ty-step _ c.loop.invariant.0 in omega (arith, g.room)

pub returns : goal.returns
returns c = ty-end _ refl c.loop.invariant.0 (omega arith) refl
