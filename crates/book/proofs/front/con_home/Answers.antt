use Prim.Native.Nat.{◌+◌, ◌*◌}
use mathlib.Core.Path.{◌≡◌, refl}
use native.Mathlib.Omega.{arith}
use Rattle.book.proofs.Lookups.{home-start, home-step, home-end}
use Rattle.book.proofs.front.con_home.Goals as goal

pub bounds-s-1 : goal.bounds-s-1
bounds-s-1 c = let g = home-step _ (home-start _ refl c.requires.0 c.requires.1) in omega (arith, g.room)

pub loop-n-init : goal.loop-n-init
loop-n-init c = (home-start _ refl c.requires.0 c.requires.1, refl, omega arith)

pub overflow_mul-at : goal.overflow_mul-at
overflow_mul-at c = let g = home-step _ c.loop-n.invariant.0 in omega (arith, g.fits, c.loop-n.invariant.1)

pub overflow_add-at : goal.overflow_add-at
overflow_add-at c = let g = home-step _ c.loop-n.invariant.0 in omega (arith, g.fits, c.loop-n.invariant.1)

pub overflow_add-at-in-loop-n : goal.overflow_add-at-in-loop-n
overflow_add-at-in-loop-n c = let g = home-step _ c.loop-n.invariant.0 in omega (arith, g.fits, c.loop-n.invariant.1)

pub overflow_add-n : goal.overflow_add-n
overflow_add-n c = let g = home-step _ c.loop-n.invariant.0 in let h = home-step _ (g.more (omega (arith, c.loop-n.invariant.1, c.loop-n-test.true))) in omega (arith, h.room, c.loop-n.invariant.1)

pub overflow_add-ty : goal.overflow_add-ty
overflow_add-ty c = let g = home-step _ c.loop-n.invariant.0 in omega (arith, g.room, c.loop-n.invariant.2)

pub bounds-s-at : goal.bounds-s-at
bounds-s-at c = let g = home-step _ c.loop-n.invariant.0 in let h = home-step _ (g.more (omega (arith, c.loop-n.invariant.1, c.loop-n-test.true))) in omega (arith, h.room, c.loop-n.invariant.1)

pub loop-n-smaller : goal.loop-n-smaller
loop-n-smaller c = let g = home-step _ c.loop-n.invariant.0 in omega (arith, g.fits, c.loop-n.invariant.1)

pub loop-n-preserved : goal.loop-n-preserved
loop-n-preserved c =
    let g = home-step _ c.loop-n.invariant.0 in
    let e : c.loop-n.at + (2 * c.loop-n.n + 2) ≡ c.loop-n.at + 2 * c.loop-n.n + 2 = omega arith in
    (rw (e, c.loop-n.invariant.1) (g.more (omega (arith, c.loop-n.invariant.1, c.loop-n-test.true))), refl, omega (arith, c.loop-n.invariant.2))

pub returns : goal.returns
returns c = home-end _ refl c.loop-n.invariant.0 c.loop-n.invariant.1 c.loop-n-test.false
