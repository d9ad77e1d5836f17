-- Limits and lent memory: the tests as facts on numbers.
-- Here, in order: the work memory asked; what each test says; what shows it; what refutes it; both tests.
-- Assumes nothing.
use Prim.Native.Nat.{◌+◌, ◌*◌, ◌≤◌}
use native.Mathlib.Omega.{arith}
use mathlib.Core.Path.{◌≡◌, refl}
use mathlib.Core.Bool.{Bool, true, false, ◌&&◌}
use borrow.Author.Tests.{le-leb}
use Rattle.engine.specs.Run.{Limits, Lent, in_range, work_size, lent_fits}

-- the work memory asked, as a number
pub size_is : (l : Limits) → work_size l ≡ 40 * l.nodes + 40 * l.pool + 8192
unfolding work_size
size_is l = refl

-- in range
pub record InRange (l : Limits) : Type 0 where
  pub nodes : (1 ≤ l.nodes) × (l.nodes ≤ 16384)
  pub pool : (1 ≤ l.pool) × (l.pool ≤ 1024)
  pub budget : l.budget ≤ 1000000
  pub results : l.results ≤ 65536
  pub code : l.code ≤ 262144

-- long enough
pub record LentFits (l : Limits) (m : Lent) : Type 0 where
  pub work : work_size l ≤ m.work
  pub code : l.code ≤ m.code
  pub results : l.results ≤ m.results

pub both : (a b : Bool) → (a && b) ≡ true → (a ≡ true) × (b ≡ true)
both a b e = grind arith

pub range-facts : (l : Limits) → in_range l ≡ true → InRange l
unfolding in_range
range-facts l t = record {
  nodes = (grind arith, grind arith);
  pool = (grind arith, grind arith);
  budget = grind arith;
  results = grind arith;
  code = grind arith;
}

pub lent-facts : (l : Limits) (m : Lent) → lent_fits l m ≡ true → LentFits l m
unfolding lent_fits
lent-facts l m t = record { work = grind arith; code = grind arith; results = grind arith }

pub range-yes : (l : Limits) → InRange l → true ≡ in_range l
unfolding in_range
range-yes l f = rw (le-leb _ _ f.nodes.0, le-leb _ _ f.nodes.1, le-leb _ _ f.pool.0, le-leb _ _ f.pool.1, le-leb _ _ f.budget, le-leb _ _ f.results, le-leb _ _ f.code)

pub lent-yes : (l : Limits) (m : Lent) → LentFits l m → true ≡ lent_fits l m
unfolding lent_fits
lent-yes l m f = grind arith

pub range-no : (l : Limits) → (InRange l → ⊥) → false ≡ in_range l
range-no l n = go (in_range l) refl
  where
    go : (b : Bool) → in_range l ≡ b → false ≡ b
    go true t = absurd (n (range-facts l t))
    go false t = refl

pub lent-no : (l : Limits) (m : Lent) → (LentFits l m → ⊥) → false ≡ lent_fits l m
lent-no l m n = go (lent_fits l m) refl
  where
    go : (b : Bool) → lent_fits l m ≡ b → false ≡ b
    go true t = absurd (n (lent-facts l m t))
    go false t = refl

-- both tests
pub fit-second : (a b c : Bool) → a ≡ true → c ≡ b → c ≡ (a && b)
fit-second a b c e f = grind arith
