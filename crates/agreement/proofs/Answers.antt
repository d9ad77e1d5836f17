-- Every answer is one of the paper's: no bound of a definition ever decides.
-- Here, in order: the run's own bound; the answers of a step; the two readings side by side at every moment; the answers from bytes.
-- Assumes nothing.
use Prim.Native.Nat.{ℕ, zero, suc, ◌+◌, ◌≤◌, ◌<◌}
use native.Mathlib.Omega.{arith}
use mathlib.Core.Path.{◌≡◌, refl, ap}
use mathlib.Core.Bool.{Bool, true, false}
use mathlib.Core.List.{List, [], ◌∷◌, Memᴰ}
use lib.ListN.{length, get_or}
use Rattle.book.specs.Syntax.{Right, Book}
use Rattle.book.specs.Answers.{zeros}
use Rattle.book.proofs.Acceptance.{question-fine}
use Rattle.heap.specs.Graph.{Comp}
use Rattle.heap.specs.Build.{start}
use Rattle.heap.proofs.Laws.Reach.{mem-at}
use Rattle.engine.specs.Turn.{Turned, lost}
use Rattle.engine.specs.Plain as Plain
use Rattle.engine.specs.Compile.{Program, compile}
use Rattle.engine.specs.Machine as Machine
use Rattle.engine.specs.Machine.{Kept}
use Rattle.engine.specs.Run.{Limits, Lent, Answer, emptied, spent, no_nodes, no_places, no_room, number_of, answer_numbers, turns_of, Moment, moment, Next, ends, next, fits, step, run_from, opening, ask, Outcome, outcome, refused, closed, plain, machine}
use Rattle.agreement.proofs.Fine.{FineTerm}
use Rattle.agreement.proofs.Calls.{FineBook}
use Rattle.agreement.proofs.Accept.{question-of}
use Rattle.agreement.proofs.Agree.{Same, same-goes, same-splits, same-value, same_ended}
use Rattle.agreement.proofs.Runs.{Alike, alike, AlikeNext, both_go, same_turn, step-alike, begun, fine-book, agree}
use Rattle.agreement.proofs.Refusals.{Accepted, Case, at-limits, at-book, at-question, at_code, runs, case, plain-asks}
use Rattle.agreement.proofs.Moments.{waiting, turns_in, Took, none-waits, no-turn, no-nodes, no-places, no_result_room, no_step, step-took, step-turns, Comes, here, later, run-comes, Sums, plain-sums}

module _ {C : Type 0} (turn : C → Turned C) (l : Limits) where
  -- a bound that the budget leaves unused: the run ends as a step says
  pub run_ends : (n : ℕ) (x : Moment C) → turns_in x ≤ l.budget → l.budget < turns_in x + n → step turn l (run_from turn l n x).1 ≡ ends (run_from turn l n x).0
  unfolding run_from
  run_ends zero x p q = absurd (omega arith)
  run_ends (suc n) x p q = go (run_ends n) (step turn l x) refl
    where
      go : ((y : Moment C) → turns_in y ≤ l.budget → l.budget < turns_in y + n → step turn l (run_from turn l n y).1 ≡ ends (run_from turn l n y).0) → (s : Next C) → step turn l x ≡ s
          → step turn l (run_from turn l (suc n) x).1 ≡ ends (run_from turn l (suc n) x).0
      go ih (ends a) e = rw (e, run_from) e
      go ih (next y) e = let (u, v) = step-turns turn l x y e in rw (e, run_from) (ih y (omega arith) (omega arith))

  run-same : (n n' : ℕ) (x : Moment C) → turns_in x ≤ l.budget → l.budget < turns_in x + n → l.budget < turns_in x + n' → run_from turn l n x ≡ run_from turn l n' x
  unfolding run_from
  run-same zero n' x p q q' = absurd (omega arith)
  run-same (suc n) zero x p q q' = absurd (omega arith)
  run-same (suc n) (suc n') x p q q' = go (run-same n n') (step turn l x) refl
    where
      go : ((y : Moment C) → turns_in y ≤ l.budget → l.budget < turns_in y + n → l.budget < turns_in y + n' → run_from turn l n y ≡ run_from turn l n' y) → (s : Next C) → step turn l x ≡ s
          → run_from turn l (suc n) x ≡ run_from turn l (suc n') x
      go ih (ends a) e = rw (e, run_from)
      go ih (next y) e = let (u, v) = step-turns turn l x y e in rw (e, run_from) (ih y (omega arith) (omega arith) (omega arith))

  opening-turns : (enter : Comp → C) (c : Comp) → turns_in (opening enter c) ≡ 0
  unfolding opening turns_of
  opening-turns enter c = refl

  -- The run's own bound decides nothing: every larger bound gives the same answer and the same last moment.
  pub run-bound : (enter : Comp → C) (c : Comp) (n : ℕ) → suc l.budget ≤ n → run_from turn l n (opening enter c) ≡ run_from turn l (suc l.budget) (opening enter c)
  run-bound enter c n p = let z = opening-turns enter c in run-same n (suc l.budget) (opening enter c) (omega arith) (omega arith) (omega arith)

  -- the front's turn is found
  abbrev pub Sure : Moment C → Type 0
  Sure (moment [] k out) = Unit
  Sure (moment (c ∷ pool) k out) = turn c ≡ lost → ⊥

  -- an answer from 0 to 4, and 0 only where none waits
  pub record Ended (x : Moment C) (a : Answer) : Type 0 where
    pub low : number_of a ≤ 4
    pub none : a ≡ emptied → waiting x ≡ []

  step-ended : (x : Moment C) (a : Answer) → Sure x → step turn l x ≡ ends a → Ended x a
  unfolding number_of
  step-ended x a s e = go s (rw e at (step-took turn l x))
    where
      some : (b : Answer) (x : Moment C) → number_of b ≤ 4 → 1 ≤ number_of b → Ended x b
      some b x p q = record { low = p; none = λ v. (let w : number_of b ≡ 0 = rw v in absurd (omega arith)) }

      go : {x : Moment C} {a : Answer} → Sure x → Took turn l x (ends a) → Ended x a
      go s none-waits = record { low = omega arith; none = λ v. refl }
      go s no-turn = some spent _ (omega arith) (omega arith)
      go s no-nodes = some no_nodes _ (omega arith) (omega arith)
      go s no-places = some no_places _ (omega arith) (omega arith)
      go s no_result_room = some no_room _ (omega arith) (omega arith)
      go s (no_step u) = absurd (s u)

  -- a question asked ends so, where every front's turn is found
  pub ask-ended : (enter : Comp → C) (q : Right) → ((x : Moment C) → Comes turn l (opening enter (start q)) x → Sure x) → Ended (ask turn l enter q).1 (ask turn l enter q).0
  unfolding ask number_of
  ask-ended enter q s = go (fits l zeros (length (start q).graph)) refl
    where
      m₀ : Moment C
      m₀ = opening enter (start q)

      go : (b : Bool) → fits l zeros (length (start q).graph) ≡ b → Ended (ask turn l enter q).1 (ask turn l enter q).0
      go true t =
          let z = opening-turns enter (start q) in
          rw (t, ask) (step-ended _ _ (s _ (run-comes turn l (suc l.budget) m₀ here)) (run_ends (suc l.budget) m₀ (omega arith) (omega arith)))
      go false t = rw (t, ask) (record { low = omega arith; none = λ v. refl })

module _ (book : Book) (B : FineBook book) where
  -- no turn is lost
  pub same-sure : (x : Turned Comp) (y : Turned Kept) → Same book B x y → x ≡ lost → ⊥
  same-sure _ _ (same-goes q s) e = let z : ◌≡◌ {A = ℕ} 0 1 = cc in omega arith
  same-sure _ _ (same-splits q) e = let z : ◌≡◌ {A = ℕ} 0 1 = cc in omega arith
  same-sure _ _ same-value e = let z : ◌≡◌ {A = ℕ} 0 1 = cc in omega arith
  same-sure _ _ same_ended e = let z : ◌≡◌ {A = ℕ} 0 1 = cc in omega arith

module _ (book : Book) (B : FineBook book) (l : Limits) where
  abbrev m : Program
  m = compile book

  -- to every moment of the plain run there is one of the machine's, with the same computations
  pub comes-beside : {x₀ x : Moment Comp} {y₀ : Moment Kept} → Alike book B x₀ y₀ → Comes (Plain.turn book) l x₀ x → (y : Moment Kept) × Comes (Machine.turn m) l y₀ y × Alike book B x y
  comes-beside {y₀ = y₀} a here = (y₀, here, a)
  comes-beside {y₀ = y₀} a (later {x} {y = x'} c e) = go (comes-beside a c)
    where
      go : (y : Moment Kept) × Comes (Machine.turn m) l y₀ y × Alike book B x y → (y : Moment Kept) × Comes (Machine.turn m) l y₀ y × Alike book B x' y
      go (y, d, s) = at (step (Machine.turn m) l y) refl (rw e at (step-alike book B l x y s))
        where
          at : (z : Next Kept) → step (Machine.turn m) l y ≡ z → AlikeNext book B (next x') z → (y : Moment Kept) × Comes (Machine.turn m) l y₀ y × Alike book B x' y
          at _ f (both_go {y = y'} a') = (y', later d f, a')

  -- and to every moment of the machine's run one of the plain run
  pub comes_back : {x₀ : Moment Comp} {y₀ y : Moment Kept} → Alike book B x₀ y₀ → Comes (Machine.turn m) l y₀ y → (x : Moment Comp) × Comes (Plain.turn book) l x₀ x × Alike book B x y
  comes_back {x₀} a here = (x₀, here, a)
  comes_back {x₀} a (later {x = y} {y = y'} c e) = go (comes_back a c)
    where
      go : (x : Moment Comp) × Comes (Plain.turn book) l x₀ x × Alike book B x y → (x : Moment Comp) × Comes (Plain.turn book) l x₀ x × Alike book B x y'
      go (x, d, s) = at (step (Plain.turn book) l x) refl (rw e at (step-alike book B l x y s))
        where
          at : (z : Next Comp) → step (Plain.turn book) l x ≡ z → AlikeNext book B z (next y') → (x : Moment Comp) × Comes (Plain.turn book) l x₀ x × Alike book B x y'
          at _ f (both_go {x = x'} a') = (x', later d f, a')

  alike-sure : (x : Moment Comp) (y : Moment Kept) → Alike book B x y → Sure (Plain.turn book) l x
  alike-sure (moment [] k out) (moment pool' k' out') (alike p) = tt
  alike-sure (moment (c ∷ pool) k out) (moment [] k' out') (alike p) = absurd p
  alike-sure (moment (c ∷ pool) k out) (moment (c' ∷ pool') k' out') (alike (e, s, p)) = same-sure book B _ _ (same_turn book B c c' e s)

  asked-ended : (r : Right) → FineTerm m 0 r.vars r.term → Ended (Plain.turn book) l (ask (Plain.turn book) l (λ c. c) r).1 (ask (Plain.turn book) l (λ c. c) r).0
  asked-ended r f = ask-ended (Plain.turn book) l (λ c. c) r (λ x c. (let (y, d, a) = comes-beside (begun book B r f) c in alike-sure x y a))

-- an outcome's answer
abbrev pub answer_of : Outcome → Answer
answer_of (outcome a k out code) = a

closed-answer : {C : Type 0} (code : List ℕ) (x : Answer × Moment C) → answer_of (closed code x) ≡ x.0
unfolding closed
closed-answer code (a, moment pool k out) = refl

module _ {l : Limits} {m : Lent} {b q : List ℕ} {book : Book} {r : Right} (A : Accepted l m b q book r) where
  -- an accepted book is as the agreement needs it
  pub book-of : FineBook book
  book-of = fine-book l m b book A.book_end A.limits A.reads A.short

  -- and the question
  pub asked_of : FineTerm (compile book) 0 r.vars r.term
  asked_of = question-of book r (question-fine book q r A.question_end A.asks).1

  -- A run that is not refused answers 0 to 4, and 0 only where no computation waits.
  pub accepted-ended : Ended (Plain.turn book) l (ask (Plain.turn book) l (λ c. c) r).1 (answer_of (plain l m b q))
  accepted-ended = rw (plain-asks A, closed-answer) (asked-ended book book-of l r asked_of)

  -- With answer 0 every computation begun was split, had a value, failed or was a misfit.
  pub emptied-sums : answer_of (plain l m b q) ≡ emptied → Sums 0 (plain l m b q)
  emptied-sums e = rw (ap length (accepted-ended.none e)) at (plain-sums A)

member : (i : ℕ) → i < 9 → Memᴰ (get_or answer_numbers i 0) answer_numbers
member i p = mem-at answer_numbers i p

low-member : (n : ℕ) → n ≤ 4 → Memᴰ n answer_numbers
low-member zero p = member 0 (omega arith)
low-member (suc zero) p = member 1 (omega arith)
low-member (suc (suc zero)) p = member 2 (omega arith)
low-member (suc (suc (suc zero))) p = member 3 (omega arith)
low-member (suc (suc (suc (suc zero)))) p = member 4 (omega arith)
low-member (suc (suc (suc (suc (suc n))))) p = absurd (omega arith)

-- The answer is one of the paper's, for all limits, lent memory, books and questions.
pub answers : (l : Limits) (m : Lent) (b q : List ℕ) → Memᴰ (number_of (answer_of (plain l m b q))) answer_numbers
unfolding plain refused number_of
answers l m b q = go (case l m b q)
  where
    go : Case l m b q → Memᴰ (number_of (answer_of (plain l m b q))) answer_numbers
    go (at-limits t e) = rw e (member 5 (omega arith))
    go (at-book w p t e) = rw e (member 6 (omega arith))
    go (at-question book x w p t u e) = rw e (member 7 (omega arith))
    go (at_code book x r d t u e) = rw e (member 8 (omega arith))
    go (runs book r A) = low-member _ (accepted-ended A).low

-- And so is the machine's.
pub machine-answers : (l : Limits) (m : Lent) (b q : List ℕ) → Memᴰ (number_of (answer_of (machine l m b q))) answer_numbers
machine-answers l m b q = rw (agree l m b q) (answers l m b q)
