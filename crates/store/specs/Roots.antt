-- A computation's handles in an array.
-- Assumes nothing.
use Rattle.std.specs.Prelude.{ℕ, List, take}
use Rattle.store.specs.declared.Roots.{Roots}

-- the handles that are held, the value's first
abbrev pub roots_of : Roots → List ℕ
roots_of r = take r.n r.at
