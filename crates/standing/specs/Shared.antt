-- The machine on the store: the turn that the code takes, numbers and forwards as they lie in the memory that all computations share.
-- Here, in order: a computation laid down at free numbers; a copy for each alternative; what a turn makes of the store; the turn; moments of a
-- run on the store and what comes of them; a question asked; the run.
-- Not here: the store itself (heap, Store), the same on each computation's own graph (engine, Machine and Run), and that they are the same (proofs).
-- Assumes nothing.
use Rattle.std.specs.Prelude.{ℕ, zero, suc, ◌+◌, ◌-◌, List, [], ◌∷◌, ◌++◌, map, true, false, length, get_or, take, drop, leb, ltb}
use Rattle.std.proofs.Math.Option.{Option, none, some}
use Rattle.book.specs.Syntax.{Right}
use Rattle.book.specs.Answers.{Counts, counts, zeros}
use Rattle.heap.specs.Graph.{Comp, copy}
use Rattle.heap.specs.Build.{start}
use Rattle.heap.specs.Store.{Store, take1, laid}
use Rattle.engine.specs.Turn.{Ending, failed, misfit, forward}
use Rattle.engine.specs.Compile.{Program, compile}
use Rattle.engine.specs.Machine.{Stop, demand, becomes, parts, fails, misfits, broken, full, Held, told, stopped, turn_on}
use Rattle.engine.specs.Run.{Limits, Lent, Answer, emptied, spent, no_nodes, no_places, no_room, never, ◌⊕◌, tally, turns_of, result_record, Outcome, outcome, checked}

-- a graph laid down at the next free numbers, with the handles of its computation
unfoldable pub pour : Comp → Store → Option (Store × Held)
pour c μ = elim (leb (length c.graph) (length μ.free)) [
  | false ↦ none
  | true ↦ (let ks = take (length c.graph) μ.free in
      some (
        record { nodes = laid ks c.graph ks μ.nodes; free = drop (length c.graph) μ.free },
        record { value = get_or ks c.value 0; askers = map (λ h. get_or ks h 0) c.askers; stack = [] },
      ))
]

-- a copy for each of the terms, as if node h were a forward to it
unfoldable pub pour_all : Store → Held → ℕ → List ℕ → Option (Store × List Held)
pour_all μ c h [] = some (μ, [])
pour_all μ c h (k ∷ ks) = elim (pour (copy (record { graph = forward μ.nodes h k; value = c.value; askers = c.askers })) μ) [
  | none ↦ none
  | some p ↦ elim (pour_all p.0 c h ks) [ none ↦ none | some q ↦ some (q.0, p.1 ∷ q.1) ]
]

-- what a turn makes of the store and the computation: it goes on; becomes alternatives; its result is written; it ends; the definition's own bound ran
-- out, which never comes; no node is left
pub data Took : Type 0 where
  went : Store → Held → Took
  split : Store → List Held → Took
  wrote : List ℕ → Took
  ended : Ending → Took
  lost none_left : Took

-- the store that a turn leaves: as it was, unless the computation goes on or has alternatives
abbrev pub left_by : Store → Took → Store
left_by μ (went μ' c) = μ'
left_by μ (split μ' cs) = μ'
left_by μ (wrote b) = μ
left_by μ (ended e) = μ
left_by μ lost = μ
left_by μ none_left = μ

-- the step that the end of the code does
unfoldable pub finish : Held → Stop Store → Took
finish c (demand N μ) = lost
finish c (becomes h r N μ) = went (record { nodes = forward μ.nodes h r; free = μ.free }) (record { value = c.value; askers = c.askers; stack = N })
finish c (parts h ks μ) = elim (pour_all μ c h ks) [ none ↦ none_left | some p ↦ split p.0 p.1 ]
finish c (fails μ) = ended failed
finish c (misfits μ) = ended misfit
finish c broken = lost
finish c full = none_left

-- a turn on the store; n bounds how deep terms and demands go
unfoldable pub store_turn : ℕ → Program → Store → Held → Took
store_turn n m μ c = elim (turn_on (λ μ. μ.nodes) take1 n m μ c) [ told b ↦ wrote b | stopped x ↦ finish c x ]

-- a moment of a run on the store: the store; the computations waiting in it, the front first; the counts; the results so far
pub data StoreMoment : Type 0 where
  store_moment : Store → List Held → Counts → List ℕ → StoreMoment

-- what comes of it: the run ends there with an answer, or the next moment, one turn later
pub data StoreNext : Type 0 where
  store_ends : Answer → StoreNext
  store_next : StoreMoment → StoreNext

-- how many nodes a turn made: its numbers are free no more
unfoldable pub made_in : Store → Store → ℕ
made_in μ μ' = length μ.free - length μ'.free

-- by what the front's turn made of the store, the others behind it; a turn that can't be taken changes nothing that stays
unfoldable pub store_taken : Limits → Store → List Held → Counts → List ℕ → Took → StoreNext
store_taken l μ pool k out (went μ' c) = store_next (store_moment μ' (pool ++ c ∷ []) (k ⊕ counts 1 (made_in μ μ') 0 0 0 0 0) out)
store_taken l μ pool k out (split μ' cs) = elim (leb (length pool + length cs) l.pool) [
  | true ↦ store_next (store_moment μ' (pool ++ cs) (k ⊕ counts 1 (made_in μ μ') (length cs) 1 0 0 0) out)
  | false ↦ store_ends no_places
]
store_taken l μ pool k out (wrote terms) = elim (leb (length (out ++ result_record (suc (turns_of k)) terms)) l.results) [
  | true ↦ store_next (store_moment μ pool (k ⊕ counts 1 0 0 0 1 0 0) (out ++ result_record (suc (turns_of k)) terms))
  | false ↦ store_ends no_room
]
store_taken l μ pool k out (ended e) = store_next (store_moment μ pool (k ⊕ tally e) out)
store_taken l μ pool k out lost = store_ends never
store_taken l μ pool k out none_left = store_ends no_nodes

module _ (m : Program) (l : Limits) where
  -- before each turn: pool empty, else budget used, else the front computation takes its turn
  unfoldable pub store_step : StoreMoment → StoreNext
  store_step (store_moment μ [] k out) = store_ends emptied
  store_step (store_moment μ (c ∷ pool) k out) = elim (ltb (turns_of k) l.budget) [ true ↦ store_taken l μ pool k out (store_turn l.nodes m μ c) | false ↦ store_ends spent ]

  -- from a moment on: the answer, and the moment at which it is given; the number bounds the turns
  unfoldable pub store_run_from : ℕ → StoreMoment → Answer × StoreMoment
  store_run_from zero x = (never, x)
  store_run_from (suc n) x = elim (store_step x) [ store_ends a ↦ (a, x) | store_next x' ↦ store_run_from n x' ]

  -- a question asked: its term is laid down at the first free numbers, if they suffice
  unfoldable pub store_ask : Store → Right → Answer × StoreMoment
  store_ask μ q = elim (pour (start q) μ) [
    | some p ↦ store_run_from (suc l.budget) (store_moment p.0 (p.1 ∷ []) (counts 0 (length (start q).graph) 1 0 0 0 0) [])
    | none ↦ (no_nodes, store_moment μ [] zeros [])
  ]

-- a run that was not refused, with the code that it wrote
unfoldable pub store_closed : List ℕ → Answer × StoreMoment → Outcome
store_closed code (a, store_moment μ pool k out) = outcome a k out code

-- the run of the compiled machine on the store
unfoldable pub on_store : Store → Limits → Lent → List ℕ → List ℕ → Outcome
on_store μ l m b q = checked l m b q (λ book right. store_closed (compile book).code (store_ask (compile book) l μ right))
