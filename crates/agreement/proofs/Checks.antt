-- The two checks agree with the run: the same number and place, or no fault.
-- Here, in order: what it is to agree; the book check; the question check.
-- Assumes nothing.
use Prim.Native.Nat.{ℕ}
use native.Mathlib.Omega.{arith}
use mathlib.Core.Path.{◌≡◌}
use mathlib.Core.Logic.{◌⊎◌, inl, inr, ◌≢◌}
use mathlib.Core.Bool.{true, ◌&&◌}
use mathlib.Core.List.{List}
use Rattle.book.specs.Answers.{Verdict, accepted, told_of, on_book, check_book, on_question, on_both, check_question}
use Rattle.engine.specs.Run.{Limits, Lent, in_range, lent_fits, number_of, place_of, Outcome, tells, refused, plain, machine}
use Rattle.agreement.proofs.Runs.{agree}
use Rattle.agreement.proofs.Refusals.{Case, at-limits, at-book, at-question, at_code, runs, case}
use Rattle.agreement.proofs.Answers.{answer_of, accepted-ended}

-- the number of an outcome's answer
abbrev pub answered : Outcome → ℕ
answered o = number_of (answer_of o)

-- the book is accepted and the answer is not 11; or it is 11, and the check tells what the run tells
abbrev pub BookAgrees : Verdict → Outcome → Type 0
BookAgrees v o = ((v ≡ accepted) × (answered o ≢ 11)) ⊎ ((told_of v ≡ tells o) × (answered o ≡ 11))

-- the question is accepted and the answer is neither 11 nor 12; or it is one of them, and the check tells what the run tells
abbrev pub QuestionAgrees : Verdict → Outcome → Type 0
QuestionAgrees v o = ((v ≡ accepted) × (answered o ≢ 11) × (answered o ≢ 12)) ⊎ ((told_of v ≡ tells o) × ((answered o ≡ 11) ⊎ (answered o ≡ 12)))

module _ (l : Limits) (m : Lent) (ok : (in_range l && lent_fits l m) ≡ true) (b q : List ℕ) where
  -- The book check says accepted exactly when the run is not refused with 11, else it tells the same number and place.
  pub book-checks : BookAgrees (check_book b) (plain l m b q)
  unfolding plain refused number_of place_of tells told_of on_book check_book
  book-checks = go (case l m b q)
    where
      go : Case l m b q → BookAgrees (check_book b) (plain l m b q)
      go (at-limits t e) = let z : ◌≡◌ {A = ℕ} 0 1 = cc in absurd (omega arith)
      go (at-book w p u e) = inr (rw (u, e), rw e)
      go (at-question book x w p u v e) = inl (rw u, rw e (λ y. omega arith))
      go (at_code book x r d u v e) = inl (rw u, rw e (λ y. omega arith))
      go (runs book r A) = let a = (accepted-ended A).low in inl (rw A.reads, λ y. omega arith)

  -- The question check says accepted exactly when the run is refused neither with 11 nor with 12, else it tells the same number and place.
  pub question-checks : QuestionAgrees (check_question b q) (plain l m b q)
  unfolding plain refused number_of place_of tells told_of on_question on_both check_question
  question-checks = go (case l m b q)
    where
      go : Case l m b q → QuestionAgrees (check_question b q) (plain l m b q)
      go (at-limits t e) = let z : ◌≡◌ {A = ℕ} 0 1 = cc in absurd (omega arith)
      go (at-book w p u e) = inr (rw (u, e), inl (rw e))
      go (at-question book x w p u v e) = inr (rw (u, v, e), inr (rw e))
      go (at_code book x r d u v e) = inl (rw (u, v), rw e (λ y. omega arith), rw e (λ y. omega arith))
      go (runs book r A) = let a = (accepted-ended A).low in inl (rw (A.reads, A.asks), (λ y. omega arith), λ y. omega arith)

  -- The book check says of the machine's run what it says of the plain one.
  pub machine-book-checks : BookAgrees (check_book b) (machine l m b q)
  machine-book-checks = rw (agree l m b q) book-checks

  -- And so does the question check.
  pub machine-question-checks : QuestionAgrees (check_question b q) (machine l m b q)
  machine-question-checks = rw (agree l m b q) question-checks
