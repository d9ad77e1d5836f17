-- A run that is not refused for limits, lent memory, book or question; and the outcome that is given.
-- Here, in order: what is known of such a run; what is refused as an answer; a refusal's outcome; the outcome of a run that is done; of either.
-- Not here: the contract (Given).
-- Assumes nothing.
use Rattle.std.specs.Prelude.{ℕ, ◌≡◌, true, ◌&&◌, List, length, Result, Ok, Err}
use Rattle.book.specs.declared.Refusal.{Refusal}
use Rattle.book.specs.declared.Refusal.TheVariants as refusal
use Rattle.book.specs.Answers.{accepted, check_question}
use Rattle.compiler.specs.declared.Refused.{Refused}
use Rattle.compiler.specs.declared.Refused.TheVariants as refused
use Rattle.engine.specs.Run as e
use Rattle.run.specs.declared.Limits.{Limits}
use Rattle.run.specs.declared.Answer.{Answer}
use Rattle.run.specs.declared.Answer.TheVariants.{BadBook, BadQuestion, LongCode}
use Rattle.run.specs.declared.Outcome.{Outcome}
use Rattle.run.specs.declared.Done.{Done}
use Rattle.run.specs.Given.{limits_of, lent_of}

-- limits and lent memory, the book and the question are accepted
pub record Passed (l : Limits) (b q work code results : List ℕ) : Type 0 where
  pub limits : (e.in_range (limits_of l) && e.lent_fits (limits_of l) (lent_of (length work) (length code) (length results))) ≡ true
  pub verdict : check_question b q ≡ accepted

-- what the check refuses
abbrev pub answer_to : Refusal → Answer
answer_to (refusal.Book f) = BadBook f
answer_to (refusal.Question f) = BadQuestion f

-- what the compiler refuses
abbrev pub answer_for : Refused → Answer
answer_for (refused.TooLong n) = LongCode
answer_for (refused.Fault f) = BadBook f

-- a refusal: every count 0, nothing written
abbrev pub refused_by : Answer → Outcome
refused_by a = record { answer = a; turns = 0; nodes = 0; begun = 0; split = 0; values = 0; failed = 0; misfits = 0; written = 0 }

-- the answer, and the counts of the state at which it is given
abbrev pub given_by : Done → Outcome
given_by d = record { answer = d.answer; turns = d.state.turns; nodes = d.state.made; begun = d.state.begun; split = d.state.split; values = d.state.values; failed = d.state.failed; misfits = d.state.misfits; written = d.state.written }

-- the one or the other
abbrev pub outcome_of : Result Done Answer → Outcome
outcome_of (Ok d) = given_by d
outcome_of (Err a) = refused_by a
