-- What a case is, and what both readings give at it.
-- Here, in order: bytes from a number; a case; what the cases say; what the readings give.
-- Not here: the cases (Cases*), the statements (Outside).
-- Assumes nothing.
use Rattle.std.specs.Prelude.{ℕ, zero, suc, ◌/◌, ◌%◌, ◌≡◌, List, [], ◌∷◌}
use Rattle.book.specs.Answers.{Told}
use Rattle.engine.specs.Run.{Limits, Lent, Outcome, tells, results_of, plain, machine}
use Rattle.engine.specs.Rows.{asked}
use Rattle.engine.specs.Opened.{opened}

-- the n lowest bytes of a number, the highest first, before the bytes that follow
unfoldable pub bytes_then : ℕ → ℕ → List ℕ → List ℕ
bytes_then zero x more = more
bytes_then (suc n) x more = bytes_then n (x / 256) (x % 256 ∷ more)

-- n bytes, written as one number
unfoldable pub bytes : ℕ → ℕ → List ℕ
bytes n x = bytes_then n x []

-- nodes, pool, budget, results room and code room
abbrev pub limits : (nodes pool budget results code : ℕ) → Limits
limits n p b r c = record { nodes = n; pool = p; budget = b; results = r; code = c }

-- limits, book and question, and what they give: the answer, the place and the counts, and the result bytes
pub data Case : Type 0 where
  case : Limits → (book question : List ℕ) → Told → (results : List ℕ) → Case

-- what is told, and the result bytes
pub data Gives : Type 0 where
  gives : Told → List ℕ → Gives

-- of an outcome, what is compared
abbrev pub shows : Outcome → Gives
shows o = gives (tells o) (results_of o)

-- what the cases say
unfoldable pub expected : List Case → List Gives
unfolding bytes_then bytes
expected [] = []
expected (case l b q t results ∷ cs) = gives t results ∷ expected cs

-- what a reading gives at each case
unfoldable pub outcomes : (Limits → Lent → List ℕ → List ℕ → Outcome) → List Case → List Gives
unfolding opened bytes_then bytes
outcomes run [] = []
outcomes run (case l b q t results ∷ cs) = shows (run l (asked l) b q) ∷ outcomes run cs

-- both readings give at each case what it says
abbrev pub Agrees : List Case → Type 0
Agrees cs = (outcomes plain cs ≡ expected cs) × (outcomes machine cs ≡ expected cs)
