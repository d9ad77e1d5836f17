-- What is written of an outcome and of bytes.
-- Here, in order: bytes in hex; a line's nine numbers.
-- Assumes nothing.
use Rattle.std.specs.Prelude.{ℕ, ◌/◌, ◌%◌, List, [], ◌∷◌, ◌++◌, false}
use Rattle.std.specs.Fmt.{decimal, digit_glyph}
use Rattle.engine.specs.Run.{number_of, place_of}
use Rattle.run.specs.declared.Outcome.{Outcome}
use Rattle.run.specs.Given.{answer_is}

-- bytes in lower-case hex, two digits each
unfoldable pub hex : List ℕ → List ℕ
hex [] = []
hex (x ∷ s) = digit_glyph false (x / 16) ∷ digit_glyph false (x % 16) ∷ hex s

-- a space and a number
abbrev pub spaced : ℕ → List ℕ
spaced n = 32 ∷ decimal n

-- the answer, the place and the seven counts, one space between
unfoldable pub told_line : Outcome → List ℕ
told_line o =
    decimal (number_of (answer_is o.answer))
    ++ spaced (place_of (answer_is o.answer))
    ++ spaced o.turns
    ++ spaced o.nodes
    ++ spaced o.begun
    ++ spaced o.split
    ++ spaced o.values
    ++ spaced o.failed
    ++ spaced o.misfits
