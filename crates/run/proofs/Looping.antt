-- A run from a state on: what is still to come is what was to come at the start.
-- Here, in order: what comes of a step, taken apart; on the way; at the start, a step further, at the end.
-- Assumes nothing.
use Prim.Native.Nat.{ℕ, suc, ◌+◌, ◌-◌, ◌≤◌}
use native.Mathlib.Omega.{arith}
use mathlib.Core.Path.{◌≡◌, refl, ap, sym, ◌∙◌, subst}
use mathlib.Core.List.{List}
use lib.ListN.{take, drop}
use lib.Seq.{drop-drop}
use Rattle.std.specs.Prelude.{Result, Ok, Err}
use Rattle.book.specs.Syntax.{Book}
use Rattle.book.specs.Answers.{Counts}
use Rattle.heap.specs.Store.{Store}
use Rattle.engine.specs.Turn.{Turned}
use Rattle.engine.specs.Compile.{compile}
use Rattle.engine.specs.Machine as m
use Rattle.engine.specs.Run as e
use Rattle.agreement.proofs.Calls.{FineBook}
use Rattle.standing.specs.Shared.{StoreMoment, store_moment, store_ends, store_next}
use Rattle.standing.specs.Moments.{StandsFor, stands-for, StandsNext, both_end, both_go}
use Rattle.run.specs.declared.State.{State}
use Rattle.run.specs.declared.Answer.{Answer}
use Rattle.run.specs.Given.{answer_is}
use Rattle.run.specs.Between.{counts_in, moment_of, next_of, written_by, Bounded, Runs, StepTaken, RunDone}

module _ (book : Book) (B : FineBook book) (l : e.Limits) where
  next-of : (u : e.Next m.Kept) (y : StoreMoment) → StandsNext book B l u (store_next y) → (x : e.Moment m.Kept) × (u ≡ e.next x) × StandsFor book B l x y
  next-of _ y (both_go {x} S) = (x, refl, S)

  ends_of : (u : e.Next m.Kept) (a : e.Answer) → StandsNext book B l u (store_ends a) → u ≡ e.ends a
  ends_of _ a both_end = refl

  closed_at : (code : List ℕ) (a : e.Answer) (x : e.Moment m.Kept) (μ : Store) (cs : List m.Held) (κ : Counts) (out : List ℕ) → StandsFor book B l x (store_moment μ cs κ out) → e.closed code (a, x) ≡ e.outcome a κ out code
  unfolding e.closed
  closed_at code a (e.moment ks κ' out') μ cs κ out (stands-for Q s R) = refl

run-next : (turn : m.Kept → Turned m.Kept) (l : e.Limits) (k : ℕ) (x x' : e.Moment m.Kept) → e.step turn l x ≡ e.next x' → e.run_from turn l (suc k) x ≡ e.run_from turn l k x'
unfolding e.run_from
run-next turn l k x x' p = rw (p, e.run_from)

run_ends : (turn : m.Kept → Turned m.Kept) (l : e.Limits) (k : ℕ) (x : e.Moment m.Kept) (a : e.Answer) → e.step turn l x ≡ e.ends a → e.run_from turn l (suc k) x ≡ (a, x)
unfolding e.run_from
run_ends turn l k x a p = rw (p, e.run_from)

-- what is to come of a moment within n steps
abbrev pub to_come : {l : e.Limits} {n : ℕ} {code : List ℕ} {st : State} {s results : List ℕ} → ℕ → Runs l n code st s results → e.Outcome
to_come {l} {n} {code} k R = e.closed code (e.run_from (m.turn (compile R.book)) l k R.moment)

-- on the way, with so many steps done
pub record Going (l : e.Limits) (n : ℕ) (code : List ℕ) (st₀ : State) (s₀ results₀ : List ℕ) (done : ℕ) (st : State) (s results : List ℕ) : Type 0 where
  pub bounded : Bounded l n st s results
  pub turns : st.turns ≡ done
  pub runs : Runs l n code st s results
  pub same : (R₀ : Runs l n code st₀ s₀ results₀) → (R : Runs l n code st s results) × (to_come (suc l.budget) R₀ ≡ to_come (suc l.budget - done) R)
  pub behind : drop st.written results ≡ drop st.written results₀

module _ (l : e.Limits) (n : ℕ) (code : List ℕ) (st₀ : State) (s₀ results₀ : List ℕ) where
  pub going_start : Bounded l n st₀ s₀ results₀ → st₀.turns ≡ 0 → Runs l n code st₀ s₀ results₀ → Going l n code st₀ s₀ results₀ 0 st₀ s₀ results₀
  going_start b z R = record { bounded = b; turns = z; runs = R; same = λ R₀. (R₀, ap (λ (k : ℕ). to_come k R₀) all); behind = refl }
    where
      all : suc l.budget ≡ suc l.budget - 0
      all = omega arith

  module _ (done : ℕ) (st : State) (s results s₁ results₁ : List ℕ) (G : Going l n code st₀ s₀ results₀ done st s results) where
    left_is : suc l.budget - done ≡ suc (suc l.budget - (done + 1))
    left_is = let t = G.turns in let u = G.bounded.turns in omega arith

    -- a step further
    module _ (st₁ : State) (T : StepTaken l n code st s s₁ results results₁ (Ok st₁)) where
      on : (R : Runs l n code st s results) → (R₁ : Runs l n code st₁ s₁ results₁) × (to_come (suc l.budget - done) R ≡ to_come (suc l.budget - (done + 1)) R₁)
      unfolding next_of
      on R =
          let x = next-of R.book R.fine l (e.step (m.turn (compile R.book)) l R.moment) (moment_of l n st₁ s₁ results₁) (T.next R) in (
            record { book = R.book; accepted = R.accepted; fine = R.fine; coded = R.coded; tables = T.tables R; moment = x.0; stands = x.2; searched = T.searched st₁ refl; clean = T.clean },
            ap (λ (k : ℕ). e.closed code (e.run_from (m.turn (compile R.book)) l k R.moment)) left_is ∙ ap (e.closed code) (run-next (m.turn (compile R.book)) l (suc l.budget - (done + 1)) R.moment x.0 x.1),
          )

      pub going_on : Going l n code st₀ s₀ results₀ (done + 1) st₁ s₁ results₁
      unfolding written_by
      going_on =
          let p = T.bounded st₁ refl in
          let f = G.turns in let q = p.1 in let w = p.2 in
          let d : st.written + (st₁.written - st.written) ≡ st₁.written = omega arith in
          let g : drop st₁.written results ≡ drop st₁.written results₀
          = ap (λ (k : ℕ). drop k results) (sym d) ∙ sym (drop-drop (st₁.written - st.written) st.written results) ∙ ap (drop (st₁.written - st.written)) G.behind ∙ drop-drop (st₁.written - st.written) st.written results₀ ∙ ap (λ (k : ℕ). drop k results₀) d in
          record {
            bounded = p.0;
            turns = omega arith;
            runs = (on G.runs).0;
            same = λ R₀. (let h = G.same R₀ in let o = on h.0 in (o.0, h.1 ∙ o.1));
            behind = T.behind ∙ g;
          }

    -- at the end
    pub going-ends : (a : Answer) → StepTaken l n code st s s₁ results results₁ (Err a) → RunDone l n code st₀ s₀ results₀ results₁ (record { answer = a; state = st })
    unfolding next_of moment_of written_by
    going-ends a T = record {
      is = λ R₀. (let h = G.same R₀ in let R = h.0 in
          let x = ends_of R.book R.fine l (e.step (m.turn (compile R.book)) l R.moment) (answer_is a) (T.next R) in
          let y : e.run_from (m.turn (compile R.book)) l (suc (suc l.budget - (done + 1))) R.moment ≡ (answer_is a, R.moment) = run_ends (m.turn (compile R.book)) l (suc l.budget - (done + 1)) R.moment (answer_is a) x in
          h.1 ∙ ap (λ (k : ℕ). e.closed code (e.run_from (m.turn (compile R.book)) l k R.moment)) left_is ∙ ap (e.closed code) y
          ∙ closed_at R.book R.fine l code (answer_is a) R.moment _ _ (counts_in st) (take st.written results) R.stands
          ∙ ap (λ (o : List ℕ). e.outcome (answer_is a) (counts_in st) o code) (sym T.before));
      behind = T.behind ∙ G.behind;
      written = G.bounded.written;
    }

    -- with what the step gave
    pub going-past : (r : Result State Answer) (st₁ : State) → r ≡ Ok st₁ → StepTaken l n code st s s₁ results results₁ r → Going l n code st₀ s₀ results₀ (done + 1) st₁ s₁ results₁
    going-past r st₁ p T = going_on st₁ (subst (StepTaken l n code st s s₁ results results₁) p T)

    pub going_done : (r : Result State Answer) (a : Answer) → r ≡ Err a → StepTaken l n code st s s₁ results results₁ r → RunDone l n code st₀ s₀ results₀ results₁ (record { answer = a; state = st })
    going_done r a p T = going-ends a (subst (StepTaken l n code st s s₁ results results₁) p T)

  -- the steps never run out
  pub going-never : (st : State) (s results : List ℕ) (done : ℕ) → l.budget + 1 ≤ done → Going l n code st₀ s₀ results₀ done st s results → ⊥
  going-never st s results done z G = let f = G.turns in let t = G.bounded.turns in omega arith
