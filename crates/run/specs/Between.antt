-- A run between its turns, as the code has it; one step; and the run from a state on.
-- Here, in order: the state as a moment of the run on the store; numbers in their bounds; what searches left; what a state stands for; a turn that can't be taken; what a step gives; what a
-- run from a state gives.
-- Not here: the moments and their steps (engine, Run; standing, Shared), and when they stand for one another (standing, Moments).
-- Assumes nothing.
use Rattle.std.specs.Prelude.{ℕ, suc, ◌+◌, ◌*◌, ◌≤◌, ◌<◌, ◌≡◌, ◌≢◌, length, take, drop, Result, Ok, Err}
use mathlib.Core.List.{List, [], ◌∷◌, Memᴰ}
use Rattle.book.specs.Syntax.{Book}
use Rattle.book.specs.Accepted as A
use Rattle.book.specs.Answers.{Counts, counts}
use Rattle.store.specs.Regions.{AllRoom, rest_of, store_of}
use Rattle.engine.specs.Compile.{compile}
use Rattle.engine.specs.Machine as m
use Rattle.engine.specs.Run as e
use Rattle.agreement.proofs.Calls.{FineBook}
use Rattle.standing.specs.Shared.{StoreMoment, store_moment, StoreNext, store_ends, store_next}
use Rattle.standing.specs.Moments.{StandsFor, StandsNext}
use Rattle.seek.specs.Path.{ClosedIn, ResumesIn}
use Rattle.copier.specs.Listed.{Clean}
use Rattle.machine.specs.Tables.{Has}
use Rattle.pool.specs.Ring.{pool_of}
use Rattle.run.specs.declared.Answer.{Answer}
use Rattle.run.specs.declared.State.{State}
use Rattle.run.specs.declared.Done.{Done}
use Rattle.run.specs.Given.{answer_is}

-- the counts of a state
unfoldable pub counts_in : State → Counts
counts_in st = counts st.turns st.made st.begun st.split st.values st.failed st.misfits

-- A state with its work and results memory is a moment of the run on the store: the nodes made and the free ones, the computations in the pool's rows from the front's on,
-- each with n handles, the counts, and the results written.
unfoldable pub moment_of : e.Limits → ℕ → State → List ℕ → List ℕ → StoreMoment
moment_of l n st s results = store_moment (store_of l.nodes st.made s) (pool_of l.nodes l.pool n st.head st.waiting s) (counts_in st) (take st.written results)

-- what comes of a step: the run ends with an answer, or the next moment
unfoldable pub next_of : e.Limits → ℕ → List ℕ → List ℕ → Result State Answer → StoreNext
next_of l n s results (Err a) = store_ends (answer_is a)
next_of l n s results (Ok st) = store_next (moment_of l n st s results)

-- limits in range, room in the memories, and the state's numbers in their bounds
pub record Bounded (l : e.Limits) (n : ℕ) (st : State) (s results : List ℕ) : Type 0 where
  pub nodes : l.nodes ≤ 16384
  pub pool : l.pool ≤ 1024
  pub budget : l.budget ≤ 1000000
  pub most : l.results ≤ 65536
  pub room : AllRoom l.nodes l.pool s
  pub lent : l.results ≤ length results
  pub handles : (1 ≤ n) × (n ≤ 9)
  pub head : st.head < l.pool
  pub waiting : st.waiting ≤ l.pool
  pub made : st.made ≤ l.nodes
  pub turns : st.turns ≤ l.budget
  pub begun : st.begun ≤ 1 + 32 * st.turns
  pub others : (st.split ≤ st.turns) × (st.values ≤ st.turns) × (st.failed ≤ st.turns) × (st.misfits ≤ st.turns)
  pub written : st.written ≤ l.results

-- what searches left between turns: the marks of all nodes, and for each computation where the search from its value goes on
pub record AllSearched (L made : ℕ) (cs : List m.Held) (s : List ℕ) : Type 0 where
  pub closed : ClosedIn L made s
  pub resumes : (c : m.Held) → Memᴰ c cs → ResumesIn L made s c.value

abbrev pub SearchedIn : e.Limits → ℕ → State → List ℕ → Type 0
SearchedIn l n st s = AllSearched l.nodes st.made (pool_of l.nodes l.pool n st.head st.waiting s) s

-- The state stands for a moment of the definition's run of an accepted book, whose code and tables are there; searches can go on where they stopped, and no node has a place.
pub record Runs (l : e.Limits) (n : ℕ) (code : List ℕ) (st : State) (s results : List ℕ) : Type 0 where
  pub book : Book
  pub accepted : A.FineBook book
  pub fine : FineBook book
  pub coded : (compile book).code ≡ code
  pub tables : Has (compile book) (20 * l.pool) (rest_of l.nodes s)
  pub moment : e.Moment m.Kept
  pub stands : StandsFor book fine l moment (moment_of l n st s results)
  pub searched : SearchedIn l n st s
  pub clean : Clean l.nodes s

-- The front's stack has entries, and none is a call any more. A turn first drops them all and searches the value from where the last search stopped; the search keeps its place in the
-- links of nodes, also of the value's own, which may be such an entry.
abbrev pub Dropped : e.Moment m.Kept → Type 0
Dropped (e.moment [] κ out) = ⊥
Dropped (e.moment (k ∷ ks) κ out) = (k.stack ≢ []) × (m.settle k.comp.graph k.stack ≡ [])

-- a moment with the front's stack empty
unfoldable pub bare : e.Moment m.Kept → e.Moment m.Kept
bare (e.moment [] κ out) = e.moment [] κ out
bare (e.moment (k ∷ ks) κ out) = e.moment (m.from_start k.comp ∷ ks) κ out

-- and on the store
abbrev pub bare_held : m.Held → m.Held
bare_held c = record { value = c.value; askers = c.askers; stack = [] }

unfoldable pub store_bare : StoreMoment → StoreMoment
store_bare (store_moment μ [] κ out) = store_moment μ [] κ out
store_bare (store_moment μ (c ∷ cs) κ out) = store_moment μ (bare_held c ∷ cs) κ out

-- A turn that can't be taken: what stood for the moment x stands for it still, as y: the same counts and results, every waiting computation in its place, each with its stack. Only of a
-- front's stack that the turn dropped nothing is said.
pub record Untaken (book : Book) (fine : FineBook book) (l : e.Limits) (x : e.Moment m.Kept) (y : StoreMoment) : Type 0 where
  pub whole : ¬ (Dropped x) → StandsFor book fine l x y
  pub beside : StandsFor book fine l (bare x) (store_bare y)

-- how many bytes of results there are after a step
unfoldable pub written_by : State → Result State Answer → ℕ
written_by st (Err a) = st.written
written_by st (Ok st') = st'.written

-- One step. For every accepted book and every moment of its definition's run that the state stands for: the step ends the run with the definition's answer, or gives a
-- state that stands for the definition's next moment, node numbers and forwards aside, each computation's stack included. If the step ends the run, the state with the memory as it is
-- then stands for its moment still (Untaken). Results written before stand, and bytes beyond those written are as lent.
pub record StepTaken (l : e.Limits) (n : ℕ) (code : List ℕ) (st : State) (s s' results results' : List ℕ) (r : Result State Answer) : Type 0 where
  pub next : (R : Runs l n code st s results) → StandsNext R.book R.fine l (e.step (m.turn (compile R.book)) l R.moment) (next_of l n s' results' r)
  pub tables : (R : Runs l n code st s results) → Has (compile R.book) (20 * l.pool) (rest_of l.nodes s')
  pub searched : (st' : State) → r ≡ Ok st' → SearchedIn l n st' s'
  pub clean : Clean l.nodes s'
  pub bounded : (st' : State) → r ≡ Ok st' → Bounded l n st' s' results' × (st'.turns ≡ suc st.turns) × (st.written ≤ st'.written)
  pub untaken : (a : Answer) → r ≡ Err a → (R : Runs l n code st s results) → Untaken R.book R.fine l R.moment (moment_of l n st s' results')
  pub before : take st.written results' ≡ take st.written results
  pub behind : drop (written_by st r) results' ≡ drop (written_by st r) results

-- A run from a state on: the definition's answer and counts, and its results; bytes beyond those written are as lent.
pub record RunDone (l : e.Limits) (n : ℕ) (code : List ℕ) (st : State) (s results results' : List ℕ) (r : Done) : Type 0 where
  pub is : (R : Runs l n code st s results) → e.closed code (e.run_from (m.turn (compile R.book)) l (suc l.budget) R.moment) ≡ e.outcome (answer_is r.answer) (counts_in r.state) (take r.state.written results') code
  pub behind : drop r.state.written results' ≡ drop r.state.written results
  pub written : r.state.written ≤ l.results
