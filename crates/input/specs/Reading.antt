-- What reading takes from an input.
-- Assumes nothing.
use Rattle.std.specs.Prelude.{ℕ, List, ◌≡◌, ◌<◌, length}
use Rattle.std.specs.Io.KnownBytes.{Consumes, IsAtEnd}
use Rattle.std.specs.declared.option.Option.{Option}

-- from a to b the known bytes of an input lost some at their front, and nothing else
pub record Lost (a b : Option (List ℕ)) : Type 0 where
  pub bytes : List ℕ
  pub front : Consumes a b bytes

-- from a to b they lost n, whichever these were
pub record Gone (n : ℕ) (a b : Option (List ℕ)) : Type 0 where
  pub bytes : List ℕ
  pub many : length bytes ≡ n
  pub front : Consumes a b bytes

-- from a to b they lost fewer than n, and that was all that there was
pub record Short (n : ℕ) (a b : Option (List ℕ)) : Type 0 where
  pub many : ℕ
  pub fewer : many < n
  pub gone : Gone many a b
  pub end : IsAtEnd b
