-- A case of which not all bytes are kept: what of it is shown to the engine, and what comes of it.
-- Here, in order: a part's end; what is kept of a book and of a question; what is read of a stream; an answer by the pass over all bytes; the contract of a case's run; a case read and run.
-- Not here: that this is what the engine gives for all the bytes (proofs, Cases).
-- Assumes nothing.
use Rattle.std.specs.Prelude.{ℕ, ◌+◌, ◌≤◌, ◌<◌, ◌≡◌, ◌⊎◌, List, [], ◌++◌, length, take, Option, IfSome, Result, Ok, Err}
use Rattle.book.specs.declared.Sort.{Sort}
use Rattle.book.specs.declared.Fault.{Fault}
use Rattle.engine.specs.Run as e
use Rattle.run.specs.declared.Limits.{Limits}
use Rattle.run.specs.declared.Outcome.{Outcome}
use Rattle.run.specs.Given.{Ran}
use Rattle.cases.specs.declared.Passed.{Passed}
use Rattle.cases.specs.declared.Passed.TheVariants.{Whole, Begun, Lost}
use Rattle.cases.specs.declared.Case.{Case}
use Rattle.cases.specs.declared.Head.{Head}
use Rattle.cases.specs.declared.Head.TheVariants as head
use Rattle.cases.specs.declared.Question.{Question}
use Rattle.cases.specs.Parts.{passed, start}

-- the pass stands at no record that is not whole yet
unfoldable pub AtEnd : Passed → Type 0
AtEnd (Whole k) = Unit {0}
AtEnd (Begun k m e) = ⊥
AtEnd (Lost k) = Unit {0}

-- of a part's m bytes, how many are no record that goes on behind it
unfoldable pub whole_part : Passed → ℕ → ℕ
whole_part (Whole k) m = m
whole_part (Begun k d e) m = k
whole_part (Lost k) m = m

-- All of a book; or more of it than an accepted one has, for its length decides.
abbrev pub BookKept : (kept rest : List ℕ) → Type 0
BookKept b more = (more ≡ []) ⊎ (32768 < length b)

-- All of a question; or whole records of it, more than a RIGHT and its term have: its reading stops at a fault there.
abbrev pub QuestionKept : (kept rest : List ℕ) → Type 0
QuestionKept q rest = (rest ≡ []) ⊎ ((768 < length q) × AtEnd (passed start q))

-- What is kept of a book and a question, and the first pass over all of the question.
pub record Kept (b more q rest : List ℕ) (p : Passed) : Type 0 where
  pub book : BookKept b more
  pub question : QuestionKept q rest
  pub pass : passed start (q ++ rest) ≡ p

-- a case's lengths are numbers of four bytes
unfoldable pub HeadIs : Head → Type 0
HeadIs (head.Is c) = (c.book < 4294967296) × (c.question < 4294967296)
HeadIs head.Ended = Unit {0}
HeadIs head.Cut = Unit {0}

-- n bytes that were passed over, whichever they were
pub record Over (p : Passed) (n : ℕ) (r : Passed) : Type 0 where
  pub bytes : List ℕ
  pub many : length bytes ≡ n
  pub pass : passed p bytes ≡ r

abbrev pub RestIs : Passed → ℕ → Option Passed → Type 0
RestIs p n r = IfSome r (Over p n)

-- a part of a question of so many bytes: all of it, or enough to judge it by
pub record PartOf (part : List ℕ) (many : ℕ) : Type 0 where
  pub fits : length part ≤ many
  pub short : many < 4294967296
  pub enough : length part < many → 771 ≤ length part

-- a question of so many bytes, of which n are for the engine, whichever the rest was
pub record Shown (kept : List ℕ) (many n : ℕ) (p : Passed) : Type 0 where
  pub rest : List ℕ
  pub fits : n ≤ length kept
  pub all : n + length rest ≡ many
  pub enough : QuestionKept (take n kept) rest
  pub pass : passed start (take n kept ++ rest) ≡ p

abbrev pub QuestionIs : List ℕ → ℕ → Option Question → Type 0
QuestionIs kept many x = IfSome x (λ k. Shown kept many k.shown k.pass)

-- a question's fault: that of the first pass over all of it, if there is one
unfoldable pub first : Result ℕ Fault → Sort → ℕ → e.Answer
first (Ok k) w p = e.bad_question w p
first (Err f) w p = e.bad_question f.sort f.at

-- an answer, by the first pass over all of the question
unfoldable pub settled : Result ℕ Fault → e.Answer → e.Answer
settled s e.emptied = e.emptied
settled s e.spent = e.spent
settled s e.no_nodes = e.no_nodes
settled s e.no_places = e.no_places
settled s e.no_room = e.no_room
settled s e.bad_limits = e.bad_limits
settled s (e.bad_book w p) = e.bad_book w p
settled s (e.bad_question w p) = first s w p
settled s e.long_code = e.long_code
settled s e.never = e.never

-- an outcome
unfoldable pub settled_in : Result ℕ Fault → e.Outcome → e.Outcome
settled_in s (e.outcome a k results code) = e.outcome (settled s a) k results code

-- The contract of a case's run: of book b and question q, what is given is what the run gives for whatever they are kept of.
pub record CaseRan (l : Limits) (b q : List ℕ) (p : Passed) (r : Outcome) (work work' code code' results results' : List ℕ) : Type 0 where
  pub ran : (more rest : List ℕ) → Kept b more q rest p → Ran l (b ++ more) (q ++ rest) r work work' code code' results results'

-- A case read and run: what is given is what the run gives for a book and a question of these lengths.
pub record CaseTaken (c : Case) (r : Outcome) (work work' code code' results results' : List ℕ) : Type 0 where
  pub book : List ℕ
  pub question : List ℕ
  pub book_long : length book ≡ c.book
  pub question_long : length question ≡ c.question
  pub ran : Ran c.limits book question r work work' code code' results results'

abbrev pub TakenIs : Case → Option Outcome → (work work' code code' results results' : List ℕ) → Type 0
TakenIs c t work work' code code' results results' = IfSome t (λ r. CaseTaken c r work work' code code' results results')
