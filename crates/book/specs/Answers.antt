-- What the two checks answer.
-- Here, in order: the counts; what a public call tells; verdicts, and what each of them tells; the checks.
-- Not here: reading (Reading), the answers of the run (engine). The form of a refusal is declared in src/lib.rt (Refusal).
-- Assumes nothing.
use Rattle.std.specs.Prelude.{ℕ, List, Result, Ok, Err}
use Rattle.book.specs.Syntax.{Right, Book}
use Rattle.book.specs.declared.Sort.{Sort}
use Rattle.book.specs.declared.Refusal.{Refusal}
use Rattle.book.specs.declared.Refusal.TheVariants as refusal
use Rattle.book.specs.Record.{Got, got, fault}
use Rattle.book.specs.Reading.{read_book, read_question}

-- the counts given: turns, nodes made, begun, split, values, failed, misfits
pub data Counts : Type 0 where
  counts : (turns nodes begun split values failed misfits : ℕ) → Counts

-- every count 0
abbrev pub zeros : Counts
zeros = counts 0 0 0 0 0 0 0

-- what a public call tells: the answer by the paper's number, the place, the counts
pub data Told : Type 0 where
  told : (answer place : ℕ) → Counts → Told

-- what a check says: accepted, or which of the two is at fault
abbrev pub Verdict : Type 0
Verdict = Result (Unit {0}) Refusal

abbrev pub accepted : Verdict
accepted = Ok tt

-- with the sort and the place
abbrev pub book_fault : Sort → ℕ → Verdict
book_fault w p = Err (refusal.Book (record { sort = w; at = p }))

abbrev pub question_fault : Sort → ℕ → Verdict
question_fault w p = Err (refusal.Question (record { sort = w; at = p }))

-- a verdict by the paper's number, with its place
unfoldable pub told_of : Verdict → Told
told_of (Ok u) = told 0 0 zeros
told_of (Err (refusal.Book f)) = told 11 f.at zeros
told_of (Err (refusal.Question f)) = told 12 f.at zeros

-- the verdict on a book that was read, or not
unfoldable pub on_book : Got Book → Verdict
on_book (got book e) = accepted
on_book (fault w p) = book_fault w p

-- the book check
unfoldable pub check_book : List ℕ → Verdict
check_book b = on_book (read_book b)

-- the verdict on a question that was read, or not
unfoldable pub on_question : Got Right → Verdict
on_question (got r e) = accepted
on_question (fault w p) = question_fault w p

-- the verdict on a question, the book judged first
unfoldable pub on_both : Got Book → List ℕ → Verdict
on_both (got book e) q = on_question (read_question book q)
on_both (fault w p) q = book_fault w p

-- the question check
unfoldable pub check_question : List ℕ → List ℕ → Verdict
check_question b q = on_both (read_book b) q
