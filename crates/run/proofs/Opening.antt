-- A question asked: the first moment stands in the memory, or the question's nodes do not fit.
-- Here, in order: a state with nothing but what waits; the question's book by its arities; the store before; nodes that do not fit; the first state; the run from it.
-- Assumes nothing.
use Prim.Native.Nat.{ℕ, suc, ◌+◌, ◌*◌, ◌-◌, ◌≤◌, ◌<◌}
use native.Mathlib.Omega.{arith}
use mathlib.Core.Path.{◌≡◌, refl, ap, sym, ◌∙◌, subst}
use mathlib.Core.Option.{none, some}
use mathlib.Core.List.{List, [], ◌∷◌, map}
use lib.ListN.{length, get_or, drop}
use lib.Seq.{get_or-take}
use Rattle.std.specs.Prelude.{Option, Some, None}
use Rattle.book.specs.Syntax.{Symbol, con, fun, arity, con_arities}
use Rattle.book.specs.Accepted.{arity_in}
use Rattle.book.specs.Answers.{counts}
use Rattle.book.proofs.Acceptance.{question-fine}
use Rattle.heap.specs.Build.{up_from, start}
use Rattle.engine.specs.Compile.{compile}
use Rattle.engine.specs.Machine as m
use Rattle.engine.specs.Run as e
use Rattle.agreement.proofs.Fine.{FineTerm}
use Rattle.agreement.proofs.Accept.{question-of}
use Rattle.standing.specs.Shared.{pour, store_moment}
use Rattle.standing.specs.Stands.{Ready}
use Rattle.standing.specs.Moments.{StandsFor}
use Rattle.standing.proofs.Room.{room-ready, room_fits, room-short}
use Rattle.standing.proofs.Stands.{pour-none}
use Rattle.standing.proofs.OnStore.{ready-fresh, question-poured, opening-stands}
use Rattle.store.specs.Regions.{AllRoom, graph_of, links_of, rest_of, store_of}
use Rattle.store.proofs.Laws.{length-graph}
use Rattle.seek.specs.Walkable.{Clear}
use Rattle.seek.proofs.Survives.{clear-closed, clear-resumes}
use Rattle.machine.specs.Tables.{Has}
use Rattle.pool.specs.Ring.{held_in, pool_of, Pushed}
use Rattle.asking.specs.declared.Built.{Built}
use Rattle.asking.specs.Question.{Space, Arities, AskedOf, answer_of, Asked}
use Rattle.rounds.specs.Around.{Fresh}
use Rattle.run.specs.declared.State.{State}
use Rattle.run.specs.declared.Answer.TheVariants.{NoNodes}
use Rattle.run.specs.declared.Done.{Done}
use Rattle.run.specs.Given.{answer_is}
use Rattle.run.specs.Between.{counts_in, moment_of, Bounded, Runs, RunDone}
use Rattle.run.specs.Questions.{Roomy, Asks, AskDone}
use Rattle.run.proofs.Tabled.{has_same, has-only}
use Rattle.run.proofs.Nexts.{moment-is, store_is}

-- as many computations wait as are begun, with so many nodes made, and nothing else has come yet
abbrev pub opening_state : ℕ → ℕ → State
opening_state waiting made = record { head = 0; waiting = waiting; made = made; turns = 0; begun = waiting; split = 0; values = 0; failed = 0; misfits = 0; written = 0 }

arities-of : (l : e.Limits) (code s q : List ℕ) (X : Asks l code s q) (rest : List ℕ) → Has (compile X.book) (20 * l.pool) rest → Arities X.book (20 * l.pool) rest
unfolding compile m.arity_of
arities-of l code s q X rest h = record { funs = h.funs; cons = h.cons; small = λ y. small y }
  where
    small : (y : Symbol) → arity_in (con_arities X.book.types) (map arity X.book.funcs) y ≤ 8
    small (con c) = h.small (con c)
    small (fun f) = h.small (fun f)

-- as many nodes as there are numbers
ready : (l : e.Limits) (s : List ℕ) → Ready l (store_of l.nodes 0 s)
unfolding store_of
ready l s = let z : l.nodes - 0 ≡ l.nodes = omega arith in rw z (ready-fresh l (graph_of l.nodes s) (length-graph l.nodes s))

module _ (l : e.Limits) (code s q results : List ℕ) (b : Roomy l s results) (s₁ : List ℕ) (Y : Fresh l.nodes s s₁) where
  abbrev asked : Asks l code s q → AskedOf l.nodes (20 * l.pool) s₁ q
  asked X = record { book = X.book; right = X.right; end = X.end; reads = X.reads; arities = arities-of l code s q X (rest_of l.nodes s₁) (subst (Has (compile X.book) (20 * l.pool)) (sym Y.rest) X.tables) }

  -- what building asks
  pub build-asks : Asks l code s q → Space l.nodes (20 * l.pool) s₁ × AskedOf l.nodes (20 * l.pool) s₁ q
  build-asks X = let p = b.room in let r = b.pool in let k = Y.long in ((p.0, omega arith, omega arith), asked X)

  module _ (s₂ : List ℕ) (A : Option Built) (Q : (x : AskedOf l.nodes (20 * l.pool) s₁ q) → Asked l.nodes (20 * l.pool) x s₂ A) where
    term-fine : (X : Asks l code s q) → FineTerm (compile X.book) 0 X.right.vars X.right.term
    term-fine X = question-of X.book X.right (question-fine X.book q X.right X.end X.reads).1

    -- the question's nodes do not fit
    pub ask-none : A ≡ None → (results₁ : List ℕ) → results₁ ≡ results → AskDone l code s q results results₁ (record { answer = NoNodes; state = opening_state 0 0 })
    unfolding answer_of e.ask e.closed counts_in answer_is
    ask-none f results₁ z = record {
      is = λ X. (let a : pour (start X.right) (store_of l.nodes 0 s₁) ≡ none = (Q (asked X)).is ∙ rw f in
          let d = room-short (room-ready (ready l s₁)) (length (start X.right).graph) (pour-none (start X.right) (store_of l.nodes 0 s₁) a) in
          rw (d, e.ask));
      behind = ap (drop 0) z;
      written = omega arith;
    }

    pub ask-none-at : A ≡ None → (st : State) → st ≡ opening_state 0 0 → AskDone l code s q results results (record { answer = NoNodes; state = st })
    ask-none-at f st i = subst (λ (x : State). AskDone l code s q results results (record { answer = NoNodes; state = x })) (sym i) (ask-none f results refl)

    module _ (B : Built) (yes : A ≡ Some B) where
      poured : (X : Asks l code s q) → pour (start X.right) (store_of l.nodes 0 s₁) ≡ some (store_of l.nodes B.made s₂, held_in l.nodes s₂ (record { roots = B.roots; top = 0 }))
      unfolding answer_of
      poured X = (Q (asked X)).is ∙ rw yes

      few : Asks l code s q → (1 ≤ B.roots.n) × (B.roots.n ≤ 9)
      few X = let c = rw yes at (Q (asked X)).count in let v = (question-fine X.book q X.right X.end X.reads).0 in (omega arith, omega arith)

      low : Asks l code s q → B.made ≤ l.nodes
      unfolding store_of
      low X =
          let c = (question-poured X.book X.fine l (store_of l.nodes 0 s₁) (ready l s₁) X.right (term-fine X) _ _ (poured X)).count in
          let d = rw yes at (Q (asked X)).made in
          let r = (ready l s₁).room in
          omega arith

      -- what pushing asks
      pub push-asks : Asks l code s q → AllRoom l.nodes l.pool s₂ × (((0 < l.pool) × (0 < l.pool)) × (((1 ≤ B.roots.n) × (B.roots.n ≤ 9)) × (B.roots.n ≡ B.roots.n)))
      push-asks X = let p = b.room in let r = b.pool in let k = Y.long in let j = (Q (asked X)).beside.long in ((p.0, p.1, omega arith), ((r.0, r.0), (few X, refl)))

      module _ (s₃ : List ℕ) (P : Pushed l.nodes l.pool B.roots.n 0 0 (record { roots = B.roots; top = 0 }) s₂ s₃) (st : State) (i : st ≡ opening_state 1 B.made) where
        bounds : Asks l code s q → Bounded l B.roots.n (opening_state 1 B.made) s₃ results
        bounds X =
            let p = b.room in let r = b.pool in let k = Y.long in let j = (Q (asked X)).beside.long in let o = P.only.long in
            record {
              nodes = b.nodes;
              pool = r.1;
              budget = b.budget;
              most = b.most;
              room = (p.0, p.1, omega arith);
              lent = b.lent;
              handles = few X;
              head = r.0;
              waiting = r.0;
              made = low X;
              turns = omega arith;
              begun = omega arith;
              others = (omega arith, omega arith, omega arith, omega arith);
              written = omega arith;
            }

        tables : (X : Asks l code s q) → Has (compile X.book) (20 * l.pool) (rest_of l.nodes s₃)
        tables X =
            has-only (compile X.book) l.nodes (20 * l.pool) s₂ s₃ P.only
            (has_same (compile X.book) (20 * l.pool) (rest_of l.nodes s₁) (rest_of l.nodes s₂)
            (λ j u v. sym (get_or-take (20 * l.pool + 2696) (rest_of l.nodes s₂) j 0 (omega arith)) ∙ ap (λ (x : List ℕ). get_or x j 0) (Q (asked X)).beside.rest.before ∙ get_or-take (20 * l.pool + 2696) (rest_of l.nodes s₁) j 0 (omega arith))
            (subst (Has (compile X.book) (20 * l.pool)) (sym Y.rest) X.tables))

        moment₁ : (X : Asks l code s q) → moment_of l B.roots.n (opening_state 1 B.made) s₃ results ≡ store_moment (store_of l.nodes B.made s₂) (held_in l.nodes s₂ (record { roots = B.roots; top = 0 }) ∷ []) (counts 0 (length (start X.right).graph) 1 0 0 0 0) []
        unfolding moment_of counts_in pool_of up_from
        moment₁ X =
            let d = rw yes at (Q (asked X)).made in
            moment-is (store_is l.nodes B.made s₃ s₂ P.only.graph) P.is (ap (λ (k : ℕ). counts 0 k 1 0 0 0 0) d) refl

        clear₃ : Asks l code s q → Clear l.nodes s₃
        clear₃ X = P.only.marks ∙ (Q (asked X)).beside.marks ∙ Y.clear

        abbrev runs₀ : (X : Asks l code s q) → Runs l B.roots.n code (opening_state 1 B.made) s₃ results
        runs₀ X = record {
          book = X.book;
          accepted = X.accepted;
          fine = X.fine;
          coded = X.coded;
          tables = tables X;
          moment = e.opening m.from_start (start X.right);
          stands = subst (StandsFor X.book X.fine l (e.opening m.from_start (start X.right))) (sym (moment₁ X)) (opening-stands X.book X.fine l (store_of l.nodes 0 s₁) (ready l s₁) X.right (term-fine X) _ _ (poured X));
          searched = record { closed = clear-closed l.nodes B.made (graph_of l.nodes s₃) s₃ (clear₃ X); resumes = λ c w. clear-resumes l.nodes B.made (graph_of l.nodes s₃) s₃ (links_of l.nodes s₃) c.value (clear₃ X) };
          clean = P.only.places ∙ (Q (asked X)).beside.places ∙ Y.clean;
        }

        -- what the run asks
        pub run-asks : Asks l code s q → length code ≤ 262144 → (Bounded l B.roots.n st s₃ results × (st.turns ≡ 0)) × ((length code ≤ 262144) × Runs l B.roots.n code st s₃ results)
        run-asks X c = subst (λ (x : State). (Bounded l B.roots.n x s₃ results × (x.turns ≡ 0)) × ((length code ≤ 262144) × Runs l B.roots.n code x s₃ results)) (sym i) ((bounds X, refl), (c, runs₀ X))

        pub ask-run : (results₁ : List ℕ) (r : Done) → RunDone l B.roots.n code st s₃ results results₁ r → AskDone l code s q results results₁ r
        unfolding e.ask
        ask-run results₁ r D = record {
          is = λ X. (let f = (room_fits (room-ready (ready l s₁)) (length (start X.right).graph) (store_of l.nodes B.made s₂) (question-poured X.book X.fine l (store_of l.nodes 0 s₁) (ready l s₁) X.right (term-fine X) _ _ (poured X)).count).0 in
              let a : e.ask (m.turn (compile X.book)) l m.from_start X.right ≡ e.run_from (m.turn (compile X.book)) l (suc l.budget) (e.opening m.from_start (start X.right)) = rw (f, e.ask) in
              ap (e.closed code) a ∙ (subst (λ (x : State). RunDone l B.roots.n code x s₃ results results₁ r) i D).is (runs₀ X));
          behind = D.behind;
          written = D.written;
        }
