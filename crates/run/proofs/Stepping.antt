-- The contract of a step, put together for each way in which it returns.
-- Here, in order: a step that ends the run before a turn; after a turn: tables and bounds; the ways.
-- Assumes nothing.
use Prim.Native.Nat.{ℕ, suc, ◌+◌, ◌*◌, ◌-◌, ◌≤◌, ◌<◌}
use native.Mathlib.Omega.{arith}
use mathlib.Core.Path.{◌≡◌, refl, ap, sym, ◌∙◌, subst}
use mathlib.Core.Bool.{Bool, true, false}
use mathlib.Core.Logic.{◌⊎◌, inl, inr}
use mathlib.Core.List.{List, ◌++◌, append_assoc}
use lib.ListN.{length, take, drop, length-append, length-drop}
use lib.Dec.{leb}
use lib.Seq.{take_at, drop_at, length-take-le}
use borrow.Author.Tests.{leb-true}
use Rattle.std.specs.Prelude.{Result, Ok, Err}
use Rattle.mem.specs.Words.{words}
use Rattle.heap.specs.Graph.{write_each}
use Rattle.engine.specs.Compile.{compile}
use Rattle.engine.specs.Machine as m
use Rattle.engine.specs.Run as e
use Rattle.standing.specs.Moments.{StandsNext}
use Rattle.store.specs.Regions.{graph_of, links_of, rest_of}
use Rattle.copier.specs.Listed.{Clean}
use Rattle.machine.specs.Tables.{Has}
use Rattle.pool.specs.declared.Held.{Held}
use Rattle.store.specs.Roots.{roots_of}
use Rattle.pool.specs.Ring.{place_of, RowGot, RestOnly}
use Rattle.pool.proofs.Rings.{place_inside}
use Rattle.turns.specs.declared.What.TheVariants.{Went, Split, Wrote, Failed, Misfit, NoneLeft, Lost}
use Rattle.turns.specs.declared.Turned as t
use Rattle.turns.specs.Front.{Stays, TurnTaken, with_top}
use Rattle.standing.specs.Stands.{Ours}
use Rattle.run.specs.declared.State.{State}
use Rattle.run.specs.declared.Answer.{Answer}
use Rattle.run.specs.declared.Answer.TheVariants.{Emptied, Spent, NoNodes, NoPlaces, NoRoom}
use Rattle.run.specs.Between.{moment_of, next_of, written_by, Bounded, SearchedIn, Runs, Untaken, StepTaken}
use Rattle.run.specs.Arms.{after_turn, after_failed, after_misfit, after_went, after_split, after_value, WentOn, Spread, spread_by, Valued, value_by}
use Rattle.run.proofs.Fronts.{H}
use Rattle.run.proofs.Tabled.{has-taken, has-only}
use Rattle.run.proofs.Nexts.{Z, went-next, split-next, full-next, never-lost, failed-next, misfit-next}
use Rattle.run.proofs.Searches.{after-went, after-split, after-end, after-value}
use Rattle.run.proofs.Demands.{few₀}
use Rattle.run.proofs.Values.{empty-next, spent-next, value-next}
use Rattle.run.proofs.Halting.{untaken-same, untaken-turn}

on-is : (st st' : State) → ◌≡◌ {A = Result State Answer} (Ok st) (Ok st') → st ≡ st'
on-is st st' p = cc

-- before a turn
module _ (l : e.Limits) (n : ℕ) (code : List ℕ) (st : State) (s results : List ℕ) (b : Bounded l n st s results) (R₀ : Runs l n code st s results) where
  stopped : (a : Answer) → ((R : Runs l n code st s results) → StandsNext R.book R.fine l (e.step (m.turn (compile R.book)) l R.moment) (next_of l n s results (Err a))) → StepTaken l n code st s s results results (Err a)
  unfolding written_by
  stopped a f = record { next = f; tables = λ R. R.tables; searched = λ st' p. absurd cc; clean = R₀.clean; bounded = λ st' p. absurd cc; untaken = λ a' p R. untaken-same R.book R.fine l R.moment (moment_of l n st s results) R.stands; before = refl; behind = refl }

  pub at-empty : st.waiting ≡ 0 → StepTaken l n code st s s results results (Err Emptied)
  at-empty w = stopped Emptied (λ R. empty-next l n code st s results b R s results w)

  pub at-spent : 1 ≤ st.waiting → l.budget ≤ st.turns → StepTaken l n code st s s results results (Err Spent)
  at-spent w u = stopped Spent (λ R. spent-next l n code st s results b R s results w u)

-- after a turn
module _ (l : e.Limits) (n : ℕ) (code : List ℕ) (st : State) (s results : List ℕ) (b : Bounded l n st s results) (some : 1 ≤ st.waiting) (held : Held) (G : RowGot l.nodes n st.head s held)
    (under : st.turns < l.budget) (s₁ : List ℕ) (r : t.Turned) (X : TurnTaken l.nodes (20 * l.pool) code st.made held s s₁ r) (R₀ : Runs l n code st s results) where
  Z₀ : (R : Runs l n code st s results) → Stays l.nodes (20 * l.pool) st.made (Ours (H l n code st s results b some held G R).stands.world) s s₁
  Z₀ R = Z l n code st s results b some held G under s₁ r X R

  tables₁ : (R : Runs l n code st s results) → Has (compile R.book) (20 * l.pool) (rest_of l.nodes s₁)
  tables₁ R = has-taken (compile R.book) (20 * l.pool) (rest_of l.nodes s) (rest_of l.nodes s₁) (Z₀ R).rest R.tables

  -- the next front's place, and how many wait
  next-head : place_of l.pool st.head 1 < l.pool
  next-head = let h = b.head in place_inside l.pool st.head 1 h (omega arith)

  abbrev Bound : State → List ℕ → List ℕ → Type 0
  Bound st₂ s₂ results₂ = Bounded l n st₂ s₂ results₂ × (st₂.turns ≡ suc st.turns) × (st.written ≤ st₂.written)

  -- by the numbers that a way changes
  bounds : (st₂ : State) (s₂ results₂ : List ℕ) → length (words s₂) ≡ length (words s) → length results₂ ≡ length results → st₂.head ≡ place_of l.pool st.head 1 → st₂.waiting ≤ l.pool → st₂.made ≤ l.nodes → st₂.turns ≡ st.turns + 1
      → st₂.begun ≤ st.begun + 32 → st₂.split ≤ st.split + 1 → st₂.values ≤ st.values + 1 → st₂.failed ≤ st.failed + 1 → st₂.misfits ≤ st.misfits + 1 → st.written ≤ st₂.written → st₂.written ≤ l.results → Bound st₂ s₂ results₂
  bounds st₂ s₂ results₂ w g h i j k a c d f q u v =
      let x = b.begun in let y = b.others in let p = b.room in let z = b.lent in let hh = next-head in (
        record {
          nodes = b.nodes;
          pool = b.pool;
          budget = b.budget;
          most = b.most;
          room = (p.0, p.1, omega arith);
          lent = omega arith;
          handles = b.handles;
          head = omega arith;
          waiting = i;
          made = j;
          turns = omega arith;
          begun = omega arith;
          others = (omega arith, omega arith, omega arith, omega arith);
          written = v;
        },
        omega arith,
        u,
      )

  long₁ : length (words s₁) ≡ length (words s)
  long₁ = (Z₀ R₀).long

  -- the results stay
  quiet : (st₂ : State) (s₂ : List ℕ) → st₂.written ≡ st.written → ((R : Runs l n code st s results) → StandsNext R.book R.fine l (e.step (m.turn (compile R.book)) l R.moment) (next_of l n s₂ results (Ok st₂)))
      → ((R : Runs l n code st s results) → Has (compile R.book) (20 * l.pool) (rest_of l.nodes s₂)) → SearchedIn l n st₂ s₂ → Clean l.nodes s₂ → Bound st₂ s₂ results → StepTaken l n code st s s₂ results results (Ok st₂)
  quiet st₂ s₂ w f t c d B = record { next = f; tables = t; searched = λ st' p. subst (λ (x : State). SearchedIn l n x s₂) (on-is st₂ st' p) c; clean = d; bounded = λ st' p. subst (λ (x : State). Bound x s₂ results) (on-is st₂ st' p) B; untaken = λ a p. absurd cc; before = refl; behind = refl }

  halted : (a : Answer) (s₂ results₂ : List ℕ) → results₂ ≡ results → ((R : Runs l n code st s results) → StandsNext R.book R.fine l (e.step (m.turn (compile R.book)) l R.moment) (next_of l n s₂ results₂ (Err a)))
      → ((R : Runs l n code st s results) → Has (compile R.book) (20 * l.pool) (rest_of l.nodes s₂)) → Clean l.nodes s₂ → ((R : Runs l n code st s results) → Untaken R.book R.fine l R.moment (moment_of l n st s₂ results₂)) → StepTaken l n code st s s₂ results results₂ (Err a)
  halted a s₂ results₂ q f t d u = record { next = f; tables = t; searched = λ st' p. absurd cc; clean = d; bounded = λ st' p. absurd cc; untaken = λ a' p R. u R; before = ap (take st.written) q; behind = ap (drop (written_by st (Err a))) q }

  module _ (s₂ : List ℕ) (o : RestOnly l.nodes 0 (20 * l.pool) s₁ s₂) where
    tables₂ : (R : Runs l n code st s results) → Has (compile R.book) (20 * l.pool) (rest_of l.nodes s₂)
    tables₂ R = has-only (compile R.book) l.nodes (20 * l.pool) s₁ s₂ o (tables₁ R)

    clean₂ : Clean l.nodes s₂
    clean₂ = o.places ∙ (Z₀ R₀).clean

    long₂ : length (words s₂) ≡ length (words s)
    long₂ = o.long ∙ long₁

  went₂ : r.what ≡ Went → (s₂ : List ℕ) (st₂ : State) → WentOn l n (after_turn l.pool st) (with_top held r.top) r.made s₁ s₂ st₂ → StepTaken l n code st s s₂ results results (Ok st₂)
  went₂ w s₂ st₂ W =
      let i = b.waiting in let u = b.written in
      let B : Bound (after_went (after_turn l.pool st) r.made) s₂ results
      = bounds _ s₂ results (long₂ s₂ W.only) refl refl (omega arith) X.more.1 refl (omega arith) (omega arith) (omega arith) (omega arith) (omega arith) (omega arith) u in
      quiet st₂ s₂ (ap (λ (x : State). x.written) W.is) (λ R. went-next l n code st s results b some held G under s₁ r X R w s₂ st₂ W) (tables₂ s₂ W.only) (after-went l n code st s results b some held G R₀ under s₁ r X s₂ st₂ W) (clean₂ s₂ W.only)
      (subst (λ (x : State). Bound x s₂ results) (sym W.is) B)

  split₂ : (count : ℕ) → count ≤ 32 → r.what ≡ Split count → (s₂ : List ℕ) (g : Result State Answer) → Spread l n (after_turn l.pool st) count r.made s₁ s₂ g → StepTaken l n code st s s₂ results results g
  unfolding spread_by
  split₂ count few w s₂ g W = go (leb (st.waiting - 1 + count) l.pool) refl
    where
      next₂ : (R : Runs l n code st s results) → StandsNext R.book R.fine l (e.step (m.turn (compile R.book)) l R.moment) (next_of l n s₂ results g)
      next₂ R = split-next l n code st s results b some held G under s₁ r X R count w s₂ g W

      go : (a : Bool) → leb (st.waiting - 1 + count) l.pool ≡ a → StepTaken l n code st s s₂ results results g
      go false a =
          let f : g ≡ Err NoPlaces = W.is ∙ rw a in
          subst (StepTaken l n code st s s₂ results results) (sym f)
          (halted NoPlaces s₂ results refl (λ R. subst (λ (x : Result State Answer). StandsNext R.book R.fine l (e.step (m.turn (compile R.book)) l R.moment) (next_of l n s₂ results x)) f (next₂ R)) (tables₂ s₂ W.only) (clean₂ s₂ W.only)
          (λ R. (let j : s₂ ≡ s₁ = W.none a in untaken-turn l n code st s results b some held G under s₁ r X R (λ v. cc) s₂ results (ap (graph_of l.nodes) j) (ap (links_of l.nodes) j) (ap (rest_of l.nodes) j) refl)))
      go true a =
          let f : g ≡ Ok (after_split (after_turn l.pool st) count r.made) = W.is ∙ rw a in
          let i = leb-true _ _ a in let u = b.written in
          subst (StepTaken l n code st s s₂ results results) (sym f)
          (quiet _ s₂ refl (λ R. subst (λ (x : Result State Answer). StandsNext R.book R.fine l (e.step (m.turn (compile R.book)) l R.moment) (next_of l n s₂ results x)) f (next₂ R)) (tables₂ s₂ W.only) (after-split l n code st s results b some held G R₀ under s₁ r X count w s₂ g W a) (clean₂ s₂ W.only)
          (bounds _ s₂ results (long₂ s₂ W.only) refl refl i X.more.1 refl (omega arith) (omega arith) (omega arith) (omega arith) (omega arith) (omega arith) u))

  pub at-failed : r.what ≡ Failed → StepTaken l n code st s s₁ results results (Ok (after_failed (after_turn l.pool st)))
  at-failed w = quiet (after_failed (after_turn l.pool st)) s₁ refl (λ R. failed-next l n code st s results b some held G under s₁ r X R w) tables₁ (after-end l n code st s results b some held G R₀ under s₁ r X) (Z₀ R₀).clean
      (let i = b.waiting in let u = b.written in let j = b.made in bounds _ s₁ results long₁ refl refl (omega arith) j refl (omega arith) (omega arith) (omega arith) (omega arith) (omega arith) (omega arith) u)

  pub at-misfit : r.what ≡ Misfit → StepTaken l n code st s s₁ results results (Ok (after_misfit (after_turn l.pool st)))
  at-misfit w = quiet (after_misfit (after_turn l.pool st)) s₁ refl (λ R. misfit-next l n code st s results b some held G under s₁ r X R w) tables₁ (after-end l n code st s results b some held G R₀ under s₁ r X) (Z₀ R₀).clean
      (let i = b.waiting in let u = b.written in let j = b.made in bounds _ s₁ results long₁ refl refl (omega arith) j refl (omega arith) (omega arith) (omega arith) (omega arith) (omega arith) (omega arith) u)

  pub at-full : (r.what ≡ NoneLeft) ⊎ (r.what ≡ Lost) → StepTaken l n code st s s₁ results results (Err NoNodes)
  at-full (inl w) = halted NoNodes s₁ results refl (λ R. full-next l n code st s results b some held G under s₁ r X R w s₁ results) tables₁ (Z₀ R₀).clean
      (λ R. untaken-turn l n code st s results b some held G under s₁ r X R (λ v. cc) s₁ results refl refl refl refl)
  at-full (inr w) = absurd (never-lost l n code st s results b some held G under s₁ r X R₀ w)

  value₂ : length held.roots.at ≡ 9 → r.what ≡ Wrote → (s₂ results₂ : List ℕ) (g : Result State Answer) → Valued l (after_turn l.pool st) (write_each l.nodes (graph_of l.nodes s₁) (roots_of held.roots)) s₁ s₂ results results₂ g → StepTaken l n code st s s₂ results results₂ g
  unfolding value_by written_by
  value₂ nine w s₂ results₂ g W = go (leb (st.written + length record₁) l.results) refl
    where
      record₁ : List ℕ
      record₁ = e.result_record (st.turns + 1) (write_each l.nodes (graph_of l.nodes s₁) (roots_of held.roots))

      next₂ : (R : Runs l n code st s results) → StandsNext R.book R.fine l (e.step (m.turn (compile R.book)) l R.moment) (next_of l n s₂ results₂ g)
      next₂ R = value-next l n code st s results b some held G under s₁ r X R nine w s₂ results₂ g W

      tables₃ : (R : Runs l n code st s results) → Has (compile R.book) (20 * l.pool) (rest_of l.nodes s₂)
      tables₃ R = subst (Has (compile R.book) (20 * l.pool)) (sym W.kept.rest) (tables₁ R)

      go : (a : Bool) → leb (st.written + length record₁) l.results ≡ a → StepTaken l n code st s s₂ results results₂ g
      go false a =
          let f : g ≡ Err NoRoom = W.is ∙ rw a in
          subst (StepTaken l n code st s s₂ results results₂) (sym f)
          (halted NoRoom s₂ results₂ (W.none a) (λ R. subst (λ (x : Result State Answer). StandsNext R.book R.fine l (e.step (m.turn (compile R.book)) l R.moment) (next_of l n s₂ results₂ x)) f (next₂ R)) tables₃ W.clean
          (λ R. untaken-turn l n code st s results b some held G under s₁ r X R (λ v. cc) s₂ results₂ W.kept.graph W.kept.links W.kept.rest (W.none a)))
      go true a =
          let f : g ≡ Ok (after_value (after_turn l.pool st) (st.written + length record₁)) = W.is ∙ rw a in
          let i = b.waiting in let u : st.written + length record₁ ≤ l.results = leb-true _ _ a in let j = b.made in let v = b.lent in let k = b.written in
          let p : length (take st.written results) ≡ st.written = length-take-le st.written results (omega arith) in
          let q : length (take st.written results ++ record₁) ≡ st.written + length record₁ = length-append (take st.written results) record₁ ∙ ap (λ (k : ℕ). k + length record₁) p in
          let y : length results₂ ≡ length results = ap length (W.bytes a) ∙ length-append (take st.written results ++ record₁) (drop (st.written + length record₁) results) ∙ ap (λ (k : ℕ). k + length (drop (st.written + length record₁) results)) q ∙ simp length-drop (omega arith) in
          subst (StepTaken l n code st s s₂ results results₂) (sym f) (record {
            next = λ R. subst (λ (x : Result State Answer). StandsNext R.book R.fine l (e.step (m.turn (compile R.book)) l R.moment) (next_of l n s₂ results₂ x)) f (next₂ R);
            tables = tables₃;
            searched = λ st' o. subst (λ (x : State). SearchedIn l n x s₂) (on-is (after_value (after_turn l.pool st) (st.written + length record₁)) st' o) (after-value l n code st s results b some held G R₀ under s₁ r X (st.written + length record₁) s₂ W.kept);
            clean = W.clean;
            bounded = λ st' o. subst (λ (x : State). Bound x s₂ results₂) (on-is (after_value (after_turn l.pool st) (st.written + length record₁)) st' o) (bounds _ s₂ results₂ (W.kept.long ∙ long₁) y refl (omega arith) j refl (omega arith) (omega arith) (omega arith) (omega arith) (omega arith) (omega arith) u);
            untaken = λ a' o. absurd cc;
            before = ap (take st.written) (W.bytes a ∙ append_assoc (take st.written results) record₁ (drop (st.written + length record₁) results)) ∙ take_at (take st.written results) (record₁ ++ drop (st.written + length record₁) results) st.written p;
            behind = ap (drop (st.written + length record₁)) (W.bytes a) ∙ drop_at (take st.written results ++ record₁) (drop (st.written + length record₁) results) (st.written + length record₁) q;
          })

  -- with the state that the code made of its front's turn
  module _ (st₁ : State) (i : st₁ ≡ after_turn l.pool st) where
    pub at-went : r.what ≡ Went → (s₂ : List ℕ) (st₂ : State) → WentOn l n st₁ (with_top held r.top) r.made s₁ s₂ st₂ → StepTaken l n code st s s₂ results results (Ok st₂)
    at-went w s₂ st₂ W = went₂ w s₂ st₂ (subst (λ (x : State). WentOn l n x (with_top held r.top) r.made s₁ s₂ st₂) i W)

    pub at_split : (count : ℕ) → r.what ≡ Split count → (s₂ : List ℕ) (g : Result State Answer) → Spread l n st₁ count r.made s₁ s₂ g → StepTaken l n code st s s₂ results results g
    at_split count w s₂ g W = split₂ count (few₀ l n code st s results b some held G R₀ under s₁ r X count w) w s₂ g (subst (λ (x : State). Spread l n x count r.made s₁ s₂ g) i W)

    pub at_value : length held.roots.at ≡ 9 → r.what ≡ Wrote → (s₂ results₂ : List ℕ) (g : Result State Answer) → Valued l st₁ (write_each l.nodes (graph_of l.nodes s₁) (roots_of held.roots)) s₁ s₂ results results₂ g → StepTaken l n code st s s₂ results results₂ g
    at_value nine w s₂ results₂ g W = value₂ nine w s₂ results₂ g (subst (λ (x : State). Valued l x (write_each l.nodes (graph_of l.nodes s₁) (roots_of held.roots)) s₁ s₂ results results₂ g) i W)

    pub at-ended-failed : r.what ≡ Failed → StepTaken l n code st s s₁ results results (Ok (after_failed st₁))
    at-ended-failed w = subst (λ (x : State). StepTaken l n code st s s₁ results results (Ok (after_failed x))) (sym i) (at-failed w)

    pub at-ended-misfit : r.what ≡ Misfit → StepTaken l n code st s s₁ results results (Ok (after_misfit st₁))
    at-ended-misfit w = subst (λ (x : State). StepTaken l n code st s s₁ results results (Ok (after_misfit x))) (sym i) (at-misfit w)
