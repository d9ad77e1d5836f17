-- The moments of a run, over any reading of a turn.
-- Here, in order: what a moment holds; the ways in which a step goes on; moments that come of one another; turns, results and the balance of the counts; the balance from bytes.
-- Assumes nothing.
use Prim.Native.Nat.{ℕ, zero, suc, ◌+◌, ◌<◌}
use native.Mathlib.Omega.{arith}
use mathlib.Core.Path.{◌≡◌, refl, sym, ◌∙◌}
use mathlib.Core.Bool.{Bool, true, false}
use mathlib.Core.List.{List, [], ◌∷◌, ◌++◌, append-nil, append_assoc}
use lib.Dec.{leb, ltb, ltb→lt}
use lib.ListN.{length, length-append}
use Rattle.book.specs.Syntax.{Right, Book}
use Rattle.book.specs.Answers.{Counts, counts, zeros}
use Rattle.heap.specs.Graph.{Comp}
use Rattle.heap.specs.Build.{start}
use Rattle.engine.specs.Turn.{Turned, goes, splits, value, ended, lost, Ending, failed, misfit}
use Rattle.engine.specs.Plain as Plain
use Rattle.engine.specs.Compile.{compile}
use Rattle.engine.specs.Machine as Machine
use Rattle.engine.specs.Machine.{from_start}
use Rattle.engine.specs.Run.{Limits, Lent, Answer, emptied, spent, no_nodes, no_places, no_room, never, ◌⊕◌, turns_of, tally, result_record, Moment, moment, Next, ends, next, fits, taken, step, run_from, opening, ask, Outcome, outcome, closed, plain, machine}
use Rattle.agreement.proofs.Refusals.{Accepted, plain-asks, machine-asks}

module _ {C : Type 0} where
  -- the computations waiting
  abbrev pub waiting : Moment C → List C
  waiting (moment pool k out) = pool

  -- the counts
  abbrev pub counts_in : Moment C → Counts
  counts_in (moment pool k out) = k

  -- the turns taken
  abbrev pub turns_in : Moment C → ℕ
  turns_in (moment pool k out) = turns_of k

  -- the results written
  abbrev pub results_in : Moment C → List ℕ
  results_in (moment pool k out) = out

  -- begun = waiting + split + values + failed + misfits
  abbrev pub Balanced : Moment C → Type 0
  Balanced (moment pool (counts t n b s v f i) out) = b ≡ length pool + s + v + f + i

module _ {C : Type 0} (turn : C → Turned C) (l : Limits) where
  -- what a step comes to: it ends the run, for a reason; or the front goes on, becomes alternatives, has a value or ends, and what that takes fits
  pub data Took : Moment C → Next C → Type 0 where
    none-waits : {k : Counts} {out : List ℕ} → Took (moment [] k out) (ends emptied)
    no-turn : {c : C} {pool : List C} {k : Counts} {out : List ℕ} → Took (moment (c ∷ pool) k out) (ends spent)
    no-nodes : {c : C} {pool : List C} {k : Counts} {out : List ℕ} → Took (moment (c ∷ pool) k out) (ends no_nodes)
    no-places : {c : C} {pool : List C} {k : Counts} {out : List ℕ} → Took (moment (c ∷ pool) k out) (ends no_places)
    no_result_room : {c : C} {pool : List C} {k : Counts} {out : List ℕ} → Took (moment (c ∷ pool) k out) (ends no_room)
    no_step : {c : C} {pool : List C} {k : Counts} {out : List ℕ} → turn c ≡ lost → Took (moment (c ∷ pool) k out) (ends never)
    went : {c d : C} {pool : List C} {k : Counts} {out : List ℕ} {n : ℕ} → turns_of k < l.budget → turn c ≡ goes d n → fits l k n ≡ true
        → Took (moment (c ∷ pool) k out) (next (moment (pool ++ d ∷ []) (k ⊕ counts 1 n 0 0 0 0 0) out))
    branched : {c : C} {ds pool : List C} {k : Counts} {out : List ℕ} {n : ℕ} → turns_of k < l.budget → turn c ≡ splits ds n → fits l k n ≡ true → leb (length pool + length ds) l.pool ≡ true
        → Took (moment (c ∷ pool) k out) (next (moment (pool ++ ds) (k ⊕ counts 1 n (length ds) 1 0 0 0) out))
    valued : {c : C} {pool : List C} {k : Counts} {out b : List ℕ} → turns_of k < l.budget → turn c ≡ value b → leb (length (out ++ result_record (suc (turns_of k)) b)) l.results ≡ true
        → Took (moment (c ∷ pool) k out) (next (moment pool (k ⊕ counts 1 0 0 0 1 0 0) (out ++ result_record (suc (turns_of k)) b)))
    finished : {c : C} {pool : List C} {k : Counts} {out : List ℕ} {e : Ending} → turns_of k < l.budget → turn c ≡ ended e
        → Took (moment (c ∷ pool) k out) (next (moment pool (k ⊕ tally e) out))

  pub step-took : (x : Moment C) → Took x (step turn l x)
  unfolding step taken
  step-took (moment [] k out) = none-waits
  step-took (moment (c ∷ pool) k out) = on-budget (ltb (turns_of k) l.budget) refl
    where
      Goal : Type 0
      Goal = Took (moment (c ∷ pool) k out) (step turn l (moment (c ∷ pool) k out))

      on-turn : (x : Turned C) → turn c ≡ x → ltb (turns_of k) l.budget ≡ true → turns_of k < l.budget → Goal
      on-turn (goes d n) u t p = go (fits l k n) refl
        where
          go : (b : Bool) → fits l k n ≡ b → Goal
          go true f = rw (t, u, f, step, taken) (went p u f)
          go false f = rw (t, u, f, step, taken) no-nodes
      on-turn (splits ds n) u t p = go (fits l k n) (leb (length pool + length ds) l.pool) refl refl
        where
          go : (b b' : Bool) → fits l k n ≡ b → leb (length pool + length ds) l.pool ≡ b' → Goal
          go true true f f' = rw (t, u, f, f', step, taken) (branched p u f f')
          go true false f f' = rw (t, u, f, f', step, taken) no-places
          go false b f f' = rw (t, u, f, step, taken) no-nodes
      on-turn (value bs) u t p = go (leb (length (out ++ result_record (suc (turns_of k)) bs)) l.results) refl
        where
          go : (b : Bool) → leb (length (out ++ result_record (suc (turns_of k)) bs)) l.results ≡ b → Goal
          go true f = rw (t, u, f, step, taken) (valued p u f)
          go false f = rw (t, u, f, step, taken) no_result_room
      on-turn (ended e) u t p = rw (t, u, step, taken) (finished p u)
      on-turn lost u t p = rw (t, u, step, taken) (no_step u)

      on-budget : (b : Bool) → ltb (turns_of k) l.budget ≡ b → Goal
      on-budget true t = on-turn (turn c) refl t (ltb→lt (turns_of k) l.budget (rw t tt))
      on-budget false t = rw (t, step) no-turn

  -- A step that goes on had turns left, and takes one.
  pub step-turns : (x y : Moment C) → step turn l x ≡ next y → (turns_in x < l.budget) × (turns_in y ≡ suc (turns_in x))
  unfolding turns_of ◌⊕◌ tally
  step-turns x y e = go (rw e at (step-took x))
    where
      plus : (k : Counts) (n b s v f i : ℕ) → turns_of (k ⊕ counts 1 n b s v f i) ≡ suc (turns_of k)
      plus (counts t n b s v f i) n' b' s' v' f' i' = omega arith

      go : {x y : Moment C} → Took x (next y) → (turns_in x < l.budget) × (turns_in y ≡ suc (turns_in x))
      go (went {k = k} {n = n} p u f) = (p, plus k n 0 0 0 0 0)
      go (branched {ds = ds} {k = k} {n = n} p u f f') = (p, plus k n (length ds) 1 0 0 0)
      go (valued {k = k} p u f) = (p, plus k 0 0 0 1 0 0)
      go (finished {k = k} {e = failed} p u) = (p, plus k 0 0 0 0 1 0)
      go (finished {k = k} {e = misfit} p u) = (p, plus k 0 0 0 0 0 1)

  -- A step leaves the results written as they are, and writes behind them.
  pub step_results : (x y : Moment C) → step turn l x ≡ next y → (more : List ℕ) × (results_in y ≡ results_in x ++ more)
  step_results x y e = go (rw e at (step-took x))
    where
      go : {x y : Moment C} → Took x (next y) → (more : List ℕ) × (results_in y ≡ results_in x ++ more)
      go (went {out = out} p u f) = ([], sym (append-nil out))
      go (branched {out = out} p u f f') = ([], sym (append-nil out))
      go (valued {k = k} {b = b} p u f) = (result_record (suc (turns_of k)) b, refl)
      go (finished {out = out} p u) = ([], sym (append-nil out))

  -- A step keeps the balance.
  pub step-balanced : (x y : Moment C) → step turn l x ≡ next y → Balanced x → Balanced y
  unfolding ◌⊕◌ tally
  step-balanced x y e = go (rw e at (step-took x))
    where
      go : {x y : Moment C} → Took x (next y) → Balanced x → Balanced y
      go (went {d = d} {pool = pool} {k = counts t n b s v f i} p u w) h = rw (length-append pool (d ∷ [])) (omega arith)
      go (branched {ds = ds} {pool = pool} {k = counts t n b s v f i} p u w w') h = rw (length-append pool ds) (omega arith)
      go (valued {k = counts t n b s v f i} p u w) h = omega arith
      go (finished {k = counts t n b s v f i} {e = failed} p u) h = omega arith
      go (finished {k = counts t n b s v f i} {e = misfit} p u) h = omega arith

  -- a moment that comes of another by steps
  pub data Comes (m₀ : Moment C) : Moment C → Type 0 where
    here : Comes m₀ m₀
    later : {x y : Moment C} → Comes m₀ x → step turn l x ≡ next y → Comes m₀ y

  pub comes-balanced : {x y : Moment C} → Comes x y → Balanced x → Balanced y
  comes-balanced here h = h
  comes-balanced (later {x} {y} c e) h = step-balanced x y e (comes-balanced c h)

  -- Results already written stand: later moments have them in front.
  pub comes-results : {x y : Moment C} → Comes x y → (more : List ℕ) × (results_in y ≡ results_in x ++ more)
  comes-results {x} here = ([], sym (append-nil (results_in x)))
  comes-results (later {x} {y} c e) =
      let (a, p) = comes-results c in
      let (b, q) = step_results x y e in
      (a ++ b, q ∙ rw (p, append_assoc))

  -- the last moment of a run comes of its first
  pub run-comes : {x : Moment C} (n : ℕ) (y : Moment C) → Comes x y → Comes x (run_from turn l n y).1
  unfolding run_from
  run-comes zero y c = c
  run-comes {x} (suc n) y c = go (λ y'. run-comes n y') (step turn l y) refl
    where
      go : ((y' : Moment C) → Comes x y' → Comes x (run_from turn l n y').1) → (s : Next C) → step turn l y ≡ s → Comes x (run_from turn l (suc n) y).1
      go ih (ends a) e = rw (e, run_from) c
      go ih (next y') e = rw (e, run_from) (ih y' (later c e))

  module _ (enter : Comp → C) where
    opening-balanced : (c : Comp) → Balanced (opening enter c)
    unfolding opening
    opening-balanced c = refl

    -- At every moment of every run: begun = waiting + split + values + failed + misfits.
    pub balance : (c : Comp) (pool : List C) (t n b s v f i : ℕ) (out : List ℕ) → Comes (opening enter c) (moment pool (counts t n b s v f i) out) → b ≡ length pool + s + v + f + i
    balance c pool t n b s v f i out w = comes-balanced w (opening-balanced c)

    -- And at the last moment of every question asked, the one that is not built included.
    pub ask-balanced : (q : Right) → Balanced (ask turn l enter q).1
    unfolding ask
    ask-balanced q = go (fits l zeros (length (start q).graph)) refl
      where
        go : (b : Bool) → fits l zeros (length (start q).graph) ≡ b → Balanced (ask turn l enter q).1
        go true t = rw (t, ask) (comes-balanced (run-comes (suc l.budget) (opening enter (start q)) here) (opening-balanced (start q)))
        go false t = rw (t, ask)

-- an outcome's counts, with so many computations waiting
abbrev pub Sums : ℕ → Outcome → Type 0
Sums w (outcome a (counts t n b s v f i) out code) = b ≡ w + s + v + f + i

closed-sums : {C : Type 0} (code : List ℕ) (x : Answer × Moment C) → Balanced x.1 → Sums (length (waiting x.1)) (closed code x)
unfolding closed
closed-sums code (a, moment pool (counts t n b s v f i) out) h = h

module _ {l : Limits} {m : Lent} {b q : List ℕ} {book : Book} {r : Right} (A : Accepted l m b q book r) where
  -- The counts of every plain run that was not refused balance, with the computations that wait at its end.
  pub plain-sums : Sums (length (waiting (ask (Plain.turn book) l (λ c. c) r).1)) (plain l m b q)
  plain-sums = rw (plain-asks A) (closed-sums _ _ (ask-balanced (Plain.turn book) l (λ c. c) r))

  -- And those of every run of the machine.
  pub machine-sums : Sums (length (waiting (ask (Machine.turn (compile book)) l from_start r).1)) (machine l m b q)
  machine-sums = rw (machine-asks A) (closed-sums _ _ (ask-balanced (Machine.turn (compile book)) l from_start r))
