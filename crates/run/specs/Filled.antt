-- Words of the rest that were filled, and the tables ended at the book's counts.
-- Assumes nothing.
use Rattle.std.specs.Prelude.{ℕ, ◌+◌, ◌*◌, ◌≤◌, ◌<◌, ◌≡◌, ◌⊎◌, List, length, get_or}
use Rattle.mem.specs.Words.{words}
use Rattle.store.specs.Regions.{rest_of}

-- the words from a on and before b are v; the others stay
pub record WordsFilled (L a b v : ℕ) (s s' : List ℕ) : Type 0 where
  pub are : (j : ℕ) → a ≤ j → j < b → get_or (rest_of L s') j 0 ≡ v
  pub same : (j : ℕ) → (j < a) ⊎ (b ≤ j) → get_or (rest_of L s') j 0 ≡ get_or (rest_of L s) j 0
  pub long : length (words s') ≡ length (words s)

-- no function from nf on, no constructor from nc on; what is below stays
pub record Ended (L base nf nc : ℕ) (s s' : List ℕ) : Type 0 where
  pub no_fun : (f : ℕ) → nf ≤ f → f < 256 → (get_or (rest_of L s') (base + 2 * f) 0 ≡ 0) × (get_or (rest_of L s') (base + 2 * f + 1) 0 ≡ 0) × (get_or (rest_of L s') (base + 512 + f) 0 ≡ 0)
  pub no_con : (c : ℕ) → nc ≤ c → c < 256 → (get_or (rest_of L s') (base + 768 + c) 0 ≡ 0) × (get_or (rest_of L s') (base + 1024 + c) 0 ≡ 65535)
  pub start : (f : ℕ) → f < nf → (get_or (rest_of L s') (base + 2 * f) 0 ≡ get_or (rest_of L s) (base + 2 * f) 0) × (get_or (rest_of L s') (base + 2 * f + 1) 0 ≡ get_or (rest_of L s) (base + 2 * f + 1) 0) × (get_or (rest_of L s') (base + 512 + f) 0 ≡ get_or (rest_of L s) (base + 512 + f) 0)
  pub con : (c : ℕ) → c < nc → (get_or (rest_of L s') (base + 768 + c) 0 ≡ get_or (rest_of L s) (base + 768 + c) 0) × (get_or (rest_of L s') (base + 1024 + c) 0 ≡ get_or (rest_of L s) (base + 1024 + c) 0) × (get_or (rest_of L s') (base + 1280 + c) 0 ≡ get_or (rest_of L s) (base + 1280 + c) 0)
  pub long : length (words s') ≡ length (words s)
