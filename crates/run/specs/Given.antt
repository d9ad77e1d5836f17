-- What the public run gives, and its contract.
-- Here, in order: limits and lent lengths as the definition has them; the answer and the counts that are given, with the paper's numbers; the contract.
-- Not here: the definition of the run (engine, Run), that no two outcomes meet the contract and that it is the plain reading's (proofs, Only).
-- Assumes nothing.
use Rattle.std.specs.Prelude.{ℕ, ◌≡◌, List, length, drop}
use Rattle.book.specs.Answers.{Counts, counts, Told, told}
use Rattle.engine.specs.Run as e
use Rattle.run.specs.declared.Limits.{Limits}
use Rattle.run.specs.declared.Answer.{Answer}
use Rattle.run.specs.declared.Answer.TheVariants.{Emptied, Spent, NoNodes, NoPlaces, NoRoom, BadLimits, BadBook, BadQuestion, LongCode}
use Rattle.run.specs.declared.Outcome.{Outcome}

-- the limits as the definition has them
abbrev pub limits_of : Limits → e.Limits
limits_of l = record { nodes = l.nodes; pool = l.pool; budget = l.budget; results = l.results; code = l.code }

-- how long each lent memory is
abbrev pub lent_of : ℕ → ℕ → ℕ → e.Lent
lent_of work code results = record { work = work; code = code; results = results }

-- the answer as the definition has it
unfoldable pub answer_is : Answer → e.Answer
answer_is Emptied = e.emptied
answer_is Spent = e.spent
answer_is NoNodes = e.no_nodes
answer_is NoPlaces = e.no_places
answer_is NoRoom = e.no_room
answer_is BadLimits = e.bad_limits
answer_is (BadBook f) = e.bad_book f.sort f.at
answer_is (BadQuestion f) = e.bad_question f.sort f.at
answer_is LongCode = e.long_code

-- the seven counts
unfoldable pub counts_is : Outcome → Counts
counts_is r = counts r.turns r.nodes r.begun r.split r.values r.failed r.misfits

-- the answer by the paper's number, the place, and the counts
unfoldable pub told_by : Outcome → Told
told_by r = told (e.number_of (answer_is r.answer)) (e.place_of (answer_is r.answer)) (counts_is r)

-- the answer and the counts of the definition's outcome
unfoldable pub answer_of : e.Outcome → e.Answer
answer_of (e.outcome a k results code) = a

unfoldable pub counts_of : e.Outcome → Counts
counts_of (e.outcome a k results code) = k

-- the answers 10 to 13
abbrev pub Refusal : e.Answer → Type 0
Refusal e.emptied = ⊥
Refusal e.spent = ⊥
Refusal e.no_nodes = ⊥
Refusal e.no_places = ⊥
Refusal e.no_room = ⊥
Refusal e.bad_limits = Unit {0}
Refusal (e.bad_book w p) = Unit {0}
Refusal (e.bad_question w p) = Unit {0}
Refusal e.long_code = Unit {0}
Refusal e.never = ⊥

-- Outcome r is what the definition's outcome o gives: the answer, with a fault's sort and place; the counts; the paper's numbers of both; how many bytes of results there
-- are; and what results and code memory hold afterwards. Work memory is as lent where the run is refused.
pub record Gives (o : e.Outcome) (r : Outcome) (work work' code code' results results' : List ℕ) : Type 0 where
  pub answered : answer_is r.answer ≡ answer_of o
  pub counted : counts_is r ≡ counts_of o
  pub told : told_by r ≡ e.tells o
  pub written : r.written ≡ length (e.results_of o)
  pub results_hold : results' ≡ e.results_after o results
  pub code_holds : code' ≡ e.code_after o code
  pub work_stays : Refusal (answer_of o) → work' ≡ work

-- The run's contract: for all limits, books, questions and lent memories, what is given is what the machine's definition gives; work memory beyond the size asked is as lent.
pub record Ran (l : Limits) (b q : List ℕ) (r : Outcome) (work work' code code' results results' : List ℕ) : Type 0 where
  pub is : Gives (e.machine (limits_of l) (lent_of (length work) (length code) (length results)) b q) r work work' code code' results results'
  pub work_beyond : drop (e.work_size (limits_of l)) work' ≡ drop (e.work_size (limits_of l)) work
