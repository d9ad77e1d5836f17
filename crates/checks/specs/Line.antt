-- What is printed of what a check tells.
-- Assumes nothing.
use Rattle.std.specs.Prelude.{ℕ}
use Rattle.book.specs.Answers.{Told, told}

-- the answer's number
abbrev pub answer_of : Told → ℕ
answer_of (told a p c) = a

-- its place
abbrev pub place_of : Told → ℕ
place_of (told a p c) = p
