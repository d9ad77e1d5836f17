-- Document 01's table, and rows of our own: over both readings of a turn, by computation.
-- Here, in order: the paper's rows; ours; the kept stacks, turn by turn; what lent memory holds afterwards; numbers of four bytes.
-- A wrong edit of a definition is refused here first.
-- Assumes nothing.
use Rattle.std.specs.Prelude.{◌≡◌, refl, [], ◌∷◌}
use Rattle.engine.specs.Code.{four, from_four}
use Rattle.engine.specs.Run.{plain, machine}
use Rattle.engine.specs.Rows.{rows, outcomes, expected, book_b, question_q}
use Rattle.engine.specs.Ours.{ours, stacks_along, stacks_b, leaves, left}
use Rattle.engine.specs.Opened.{opened}

-- both readings give what each row of the paper says
pub table : (outcomes plain rows ≡ expected rows) × (outcomes machine rows ≡ expected rows)
unfolding opened
table = (refl, refl)

-- and what each of ours says
pub more : (outcomes plain ours ≡ expected ours) × (outcomes machine ours ≡ expected ours)
unfolding opened
more = (refl, refl)

-- each computation's stack after each turn of B and Q
pub stacks : stacks_along 9 book_b question_q ≡ stacks_b
unfolding opened
stacks = refl

-- results already written stand; result bytes beyond them are as lent, and so is the rest of the code room; a refusal writes nothing
pub memory : (leaves plain ≡ left) × (leaves machine ≡ left)
unfolding opened
memory = (refl, refl)

-- numbers of several bytes are little-endian
pub little : (four 0x04030201 ≡ 1 ∷ 2 ∷ 3 ∷ 4 ∷ []) × (from_four (1 ∷ 2 ∷ 3 ∷ 4 ∷ []) ≡ 0x04030201)
unfolding opened
little = (refl, refl)
