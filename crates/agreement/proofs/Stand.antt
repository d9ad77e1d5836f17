-- Results already written stand: a run with larger limits begins with the results of the run with smaller ones.
-- Here, in order: limits within others; a step, a run and a question asked with both; the two runs from bytes; each limit alone.
-- Assumes nothing.
use Prim.Native.Nat.{ℕ, zero, suc, ◌+◌, ◌≤◌}
use native.Mathlib.Nat.{not-suc-le-zero, le_of_suc-le-suc}
use native.Mathlib.Omega.{arith}
use mathlib.Core.Path.{◌≡◌, refl}
use mathlib.Core.Bool.{Bool, true, false, ◌&&◌}
use mathlib.Core.List.{List, ◌++◌}
use lib.Dec.{leb, ltb}
use lib.ListN.{length}
use borrow.Author.Tests.{leb-true, le-leb, lt-ltb}
use Rattle.book.specs.Syntax.{Right}
use Rattle.book.specs.Answers.{Counts, zeros}
use Rattle.heap.specs.Graph.{Comp}
use Rattle.heap.specs.Build.{start}
use Rattle.engine.specs.Turn.{Turned}
use Rattle.engine.specs.Plain as Plain
use Rattle.engine.specs.Compile.{compile}
use Rattle.engine.specs.Machine as Machine
use Rattle.engine.specs.Machine.{from_start}
use Rattle.engine.specs.Run.{Limits, Lent, in_range, lent_fits, Answer, turns_of, nodes_of, Moment, moment, Next, ends, next, fits, taken, step, run_from, opening, ask, results_of, refused, closed, plain, machine}
use Rattle.agreement.proofs.Refusals.{Accepted, Case, at-limits, at-book, at-question, at_code, runs, case, plain-asks, machine-asks}
use Rattle.agreement.proofs.Moments.{results_in, Took, went, branched, valued, finished, step-took, here, comes-results, run-comes}

-- each limit is at most the other's
pub record Within (l l' : Limits) : Type 0 where
  pub nodes : l.nodes ≤ l'.nodes
  pub pool : l.pool ≤ l'.pool
  pub budget : l.budget ≤ l'.budget
  pub results : l.results ≤ l'.results
  pub code : l.code ≤ l'.code

-- the one begins the other
abbrev pub Begins : List ℕ → List ℕ → Type 0
Begins a b = (more : List ℕ) × (b ≡ a ++ more)

wider : (a b c : ℕ) → b ≤ c → leb a b ≡ true → leb a c ≡ true
wider a b c p e = let q = leb-true a b e in le-leb a c (omega arith)

module _ {C : Type 0} (turn : C → Turned C) {l l' : Limits} (w : Within l l') where
  fits-within : (k : Counts) (n : ℕ) → fits l k n ≡ true → fits l' k n ≡ true
  unfolding fits
  fits-within k n e = wider (nodes_of k + n) l.nodes l'.nodes w.nodes e

  turn-within : (n : ℕ) → suc n ≤ l.budget → ltb n l'.budget ≡ true
  turn-within n p = let b = w.budget in lt-ltb n l'.budget (omega arith)

  -- a step that goes on is the same step with larger limits
  step-within : (x y : Moment C) → step turn l x ≡ next y → step turn l' x ≡ next y
  unfolding step taken
  step-within x y e = go (rw e at (step-took turn l x))
    where
      go : {x y : Moment C} → Took turn l x (next y) → step turn l' x ≡ next y
      go (went {k = k} {n = n} p u f) = rw (turn-within (turns_of k) p, u, fits-within k n f, step, taken)
      go (branched {ds = ds} {pool = pool} {k = k} {n = n} p u f f') = rw (turn-within (turns_of k) p, u, fits-within k n f, wider (length pool + length ds) _ _ w.pool f', step, taken)
      go (valued {k = k} p u f) = rw (turn-within (turns_of k) p, u, wider _ _ _ w.results f, step, taken)
      go (finished {k = k} p u) = rw (turn-within (turns_of k) p, u, step, taken)

  run-stands : (n n' : ℕ) (x : Moment C) → n ≤ n' → Begins (results_in (run_from turn l n x).1) (results_in (run_from turn l' n' x).1)
  unfolding run_from
  run-stands zero n' x p = comes-results turn l' (run-comes turn l' n' x here)
  run-stands (suc n) zero x p = absurd (not-suc-le-zero p)
  run-stands (suc n) (suc n') x p = go (λ y. run-stands n n' y (le_of_suc-le-suc p)) (step turn l x) refl
    where
      go : ((y : Moment C) → Begins (results_in (run_from turn l n y).1) (results_in (run_from turn l' n' y).1)) → (s : Next C) → step turn l x ≡ s
          → Begins (results_in (run_from turn l (suc n) x).1) (results_in (run_from turn l' (suc n') x).1)
      go ih (ends a) e = rw (e, run_from) (comes-results turn l' (run-comes turn l' (suc n') x here))
      go ih (next y) e = rw (e, step-within x y e, run_from) (ih y)

  ask-stands : (enter : Comp → C) (q : Right) → Begins (results_in (ask turn l enter q).1) (results_in (ask turn l' enter q).1)
  unfolding ask
  ask-stands enter q = go (fits l zeros (length (start q).graph)) refl
    where
      go : (b : Bool) → fits l zeros (length (start q).graph) ≡ b → Begins (results_in (ask turn l enter q).1) (results_in (ask turn l' enter q).1)
      go true t = let b = w.budget in rw (t, fits-within zeros _ t, ask) (run-stands (suc l.budget) (suc l'.budget) (opening enter (start q)) (omega arith))
      go false t = rw (t, ask) (_, refl)

closed-results : {C : Type 0} (code : List ℕ) (x : Answer × Moment C) → results_of (closed code x) ≡ results_in x.1
unfolding closed results_of
closed-results code (a, moment pool k out) = refl

-- the results with one pair of limits and lent memory begin those with another, by either reading
pub record Stands (l : Limits) (m : Lent) (l' : Limits) (m' : Lent) (b q : List ℕ) : Type 0 where
  pub plainly : Begins (results_of (plain l m b q)) (results_of (plain l' m' b q))
  pub compiled : Begins (results_of (machine l m b q)) (results_of (machine l' m' b q))

-- Results already written stand: with larger limits, themselves accepted, a run begins with the same results.
pub stands : (l : Limits) (m : Lent) (l' : Limits) (m' : Lent) → Within l l' → (in_range l' && lent_fits l' m') ≡ true → (b q : List ℕ) → Stands l m l' m' b q
unfolding plain machine refused results_of
stands l m l' m' w t b q = go (case l m b q)
  where
    go : Case l m b q → Stands l m l' m' b q
    go (at-limits u e) = record { plainly = rw e (_, refl); compiled = rw e (_, refl) }
    go (at-book s p u e) = record { plainly = rw e (_, refl); compiled = rw e (_, refl) }
    go (at-question book x s p u v e) = record { plainly = rw e (_, refl); compiled = rw e (_, refl) }
    go (at_code book x r d u v e) = record { plainly = rw e (_, refl); compiled = rw e (_, refl) }
    go (runs book r A) =
        let A' : Accepted l' m' b q book r = record { limits = t; book_end = A.book_end; reads = A.reads; question_end = A.question_end; asks = A.asks; short = wider _ _ _ w.code A.short } in
        record {
          plainly = simp (plain-asks A, plain-asks A', closed-results) (ask-stands (Plain.turn book) w (λ c. c) r);
          compiled = simp (machine-asks A, machine-asks A', closed-results) (ask-stands (Machine.turn (compile book)) w from_start r);
        }

module _ (l : Limits) (m : Lent) (n : ℕ) (b q : List ℕ) where
  -- With a larger budget of turns only, a run begins with the same results.
  pub turns-stand : let l' : Limits = record { nodes = l.nodes; pool = l.pool; budget = n; results = l.results; code = l.code } in l.budget ≤ n → (in_range l' && lent_fits l' m) ≡ true → Stands l m l' m b q
  turns-stand p t = stands l m _ m (record { nodes = omega arith; pool = omega arith; budget = p; results = omega arith; code = omega arith }) t b q

  -- With a larger node limit only, a run begins with the same results.
  pub nodes-stand : let l' : Limits = record { nodes = n; pool = l.pool; budget = l.budget; results = l.results; code = l.code } in l.nodes ≤ n → (in_range l' && lent_fits l' m) ≡ true → Stands l m l' m b q
  nodes-stand p t = stands l m _ m (record { nodes = p; pool = omega arith; budget = omega arith; results = omega arith; code = omega arith }) t b q

  -- With a larger pool limit only, a run begins with the same results.
  pub pool-stands : let l' : Limits = record { nodes = l.nodes; pool = n; budget = l.budget; results = l.results; code = l.code } in l.pool ≤ n → (in_range l' && lent_fits l' m) ≡ true → Stands l m l' m b q
  pool-stands p t = stands l m _ m (record { nodes = omega arith; pool = p; budget = omega arith; results = omega arith; code = omega arith }) t b q

  -- With a larger results room only, a run begins with the same results.
  pub room-stands : let l' : Limits = record { nodes = l.nodes; pool = l.pool; budget = l.budget; results = n; code = l.code } in l.results ≤ n → (in_range l' && lent_fits l' m) ≡ true → Stands l m l' m b q
  room-stands p t = stands l m _ m (record { nodes = omega arith; pool = omega arith; budget = omega arith; results = p; code = omega arith }) t b q
