-- Laws of bytes looked at one by one, and of code that fits.
-- Assumes nothing.
use Prim.Native.Nat.{ℕ, ◌+◌, ◌≤◌}
use mathlib.Core.Path.{◌≡◌, refl, subst}
use mathlib.Core.Bool.{Bool, true, false}
use mathlib.Core.List.{List}
use lib.ListN.{get_or}
use lib.Dec.{ltb}
use native.Mathlib.Omega.{arith}
use borrow.Author.Tests.{ltb-true, ltb-false}
use Rattle.std.specs.Prelude.{Result, Ok}
use Rattle.compiler.specs.declared.Refused.{Refused}
use Rattle.compiler.specs.Tables.{CompiledIs}
use Rattle.guards.specs.Pattern.{pattern_at, Filled}

pub filled_none : (s : List ℕ) (k : ℕ) → Filled s k k
unfolding Filled
filled_none s k i l h = absurd (omega arith)

pub filled_more : (s : List ℕ) (k n : ℕ) → Filled s k n → get_or s n 0 ≡ pattern_at n → Filled s k (n + 1)
unfolding Filled
filled_more s k n f e i l h = go (ltb i n) refl
  where
    go : (t : Bool) → ltb i n ≡ t → get_or s i 0 ≡ pattern_at i
    go true t = f i l (ltb-true i n t)
    go false t = (let g = ltb-false i n t in let z : i ≡ n = omega arith in rw z e)

pub filled-upto : (s : List ℕ) (k n m : ℕ) → Filled s k n → m ≤ n → Filled s k m
unfolding Filled
filled-upto s k n m f g i l h = f i l (omega arith)

-- code that fits
pub code_fits : (s : List ℕ) (k : ℕ) (tables tables' code code' : List ℕ) {x : Result ℕ Refused} {n : ℕ} → CompiledIs s k tables tables' code code' x → x ≡ Ok n → n ≤ k
unfolding CompiledIs
code_fits s k tables tables' code code' f e = (subst (CompiledIs s k tables tables' code code') e f).fits
