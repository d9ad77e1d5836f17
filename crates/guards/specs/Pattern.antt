-- What memories hold before a run, and what is seen of it afterwards.
-- Here, in order: the byte at a place; bytes as they were filled.
-- Assumes nothing.
use Rattle.std.specs.Prelude.{ℕ, ◌+◌, ◌%◌, ◌≤◌, ◌<◌, ◌≡◌, List, get_or}

-- the byte at place i
unfoldable pub pattern_at : ℕ → ℕ
pattern_at i = i % 251 + 1

-- the bytes from one place to another are as they were filled
unfoldable pub Filled : List ℕ → ℕ → ℕ → Type 0
Filled s from to = (i : ℕ) → from ≤ i → i < to → get_or s i 0 ≡ pattern_at i
