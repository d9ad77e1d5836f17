-- No two outcomes satisfy a check's contract: neither two verdicts nor what two of them tell.
-- Assumes nothing.
use mathlib.Core.Path.{◌≡◌, ap, sym, ◌∙◌}
use mathlib.Core.List.{List}
use Prim.Native.Nat.{ℕ}
use Rattle.book.specs.Answers.{Verdict, told_of, check_book, check_question}

-- Two verdicts that meet the book check's contract are the same, and so is what they tell.
pub book-only : (b : List ℕ) (v w : Verdict) → v ≡ check_book b → w ≡ check_book b → (v ≡ w) × (told_of v ≡ told_of w)
book-only b v w p q = (p ∙ sym q, ap told_of (p ∙ sym q))

-- And two that meet the question check's.
pub question-only : (b q : List ℕ) (v w : Verdict) → v ≡ check_question b q → w ≡ check_question b q → (v ≡ w) × (told_of v ≡ told_of w)
question-only b q v w p r = (p ∙ sym r, ap told_of (p ∙ sym r))
