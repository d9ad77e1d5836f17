-- What follows a turn, by what came of it: the state and the memory after each of the ways.
-- Here, in order: the state without its front; the state of a computation that ended; one that goes on; alternatives; a value.
-- Not here: the step (State).
-- Assumes nothing.
use Rattle.std.specs.Prelude.{ℕ, suc, ◌+◌, ◌*◌, ◌-◌, ◌≡◌, Bool, true, false, List, [], ◌∷◌, ◌++◌, length, take, drop, leb, Result, Ok, Err}
use Rattle.engine.specs.Run as e
use Rattle.copier.specs.Listed.{Clean}
use Rattle.pool.specs.declared.Held.{Held}
use Rattle.pool.specs.Ring.{place_of, pool_of, held_in, RestOnly}
use Rattle.alternatives.specs.Copies.{alts_in}
use Rattle.writer.specs.Walk.{Kept}
use Rattle.run.specs.declared.State.{State}
use Rattle.run.specs.declared.Answer.{Answer}
use Rattle.run.specs.declared.Answer.TheVariants.{NoPlaces, NoRoom}

-- the state without its front, a turn more
abbrev pub after_turn : ℕ → State → State
after_turn places st = record st { head = place_of places st.head 1; waiting = st.waiting - 1; turns = st.turns + 1 }

-- a computation failed, or met what does not fit
abbrev pub after_failed : State → State
after_failed st = record st { failed = st.failed + 1 }

abbrev pub after_misfit : State → State
after_misfit st = record st { misfits = st.misfits + 1 }

-- one goes on, with so many nodes made
abbrev pub after_went : State → ℕ → State
after_went st made = record st { waiting = st.waiting + 1; made = made }

-- alternatives joined
abbrev pub after_split : State → ℕ → ℕ → State
after_split st count made = record st { waiting = st.waiting + count; made = made; begun = st.begun + count; split = st.split + 1 }

-- a value's record was written
abbrev pub after_value : State → ℕ → State
after_value st written = record st { values = st.values + 1; written = written }

pub record WentOn (l : e.Limits) (n : ℕ) (st : State) (held : Held) (made : ℕ) (s s' : List ℕ) (r : State) : Type 0 where
  pub is : r ≡ after_went st made
  pub pool : pool_of l.nodes l.pool n st.head (suc st.waiting) s' ≡ pool_of l.nodes l.pool n st.head st.waiting s ++ held_in l.nodes s held ∷ []
  pub only : RestOnly l.nodes 0 (20 * l.pool) s s'

-- there are places
unfoldable pub spread_by : Bool → State → ℕ → ℕ → Result State Answer
spread_by true st count made = Ok (after_split st count made)
spread_by false st count made = Err NoPlaces

pub record Spread (l : e.Limits) (n : ℕ) (st : State) (count made : ℕ) (s s' : List ℕ) (r : Result State Answer) : Type 0 where
  pub is : r ≡ spread_by (leb (st.waiting + count) l.pool) st count made
  pub pool : leb (st.waiting + count) l.pool ≡ true → pool_of l.nodes l.pool n st.head (st.waiting + count) s' ≡ pool_of l.nodes l.pool n st.head st.waiting s ++ alts_in l.nodes (20 * l.pool) n count s
  pub only : RestOnly l.nodes 0 (20 * l.pool) s s'
  pub none : leb (st.waiting + count) l.pool ≡ false → s' ≡ s

-- there is room
unfoldable pub value_by : Bool → State → ℕ → Result State Answer
value_by true st written = Ok (after_value st written)
value_by false st written = Err NoRoom

pub record Valued (l : e.Limits) (st : State) (terms s s' results results' : List ℕ) (r : Result State Answer) : Type 0 where
  pub is : r ≡ value_by (leb (st.written + length (e.result_record st.turns terms)) l.results) st (st.written + length (e.result_record st.turns terms))
  pub bytes : leb (st.written + length (e.result_record st.turns terms)) l.results ≡ true → results' ≡ take st.written results ++ e.result_record st.turns terms ++ drop (st.written + length (e.result_record st.turns terms)) results
  pub none : leb (st.written + length (e.result_record st.turns terms)) l.results ≡ false → results' ≡ results
  pub kept : Kept l.nodes s s'
  pub clean : Clean l.nodes s'
