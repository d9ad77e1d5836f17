-- Where a turn begins: the settled stack, or the value's first call.
-- Here, in order: the value's handle; what the search relies on; the settled stack; a call on it; the first call; none.
-- Assumes nothing.
use Prim.Native.Nat.{ℕ, suc, ◌+◌, ◌*◌, ◌≤◌, ◌<◌}
use native.Mathlib.Omega.{arith}
use native.Mathlib.Numerals.{add-one}
use mathlib.Core.Path.{◌≡◌, refl, sym, ap, ◌∙◌, subst}
use mathlib.Core.Logic.{◌⊎◌, inl, inr}
use mathlib.Core.Bool.{Bool, true, false}
use mathlib.Core.Option.{some}
use mathlib.Core.List.{List, [], ◌∷◌, Memᴰ}
use lib.Dec.{ltb}
use lib.ListN.{length, get_or}
use lib.Seq.{get_or-set_other, get_or-take}
use borrow.Author.Tests.{ltb-true, ltb-false}
use Rattle.mem.specs.Words.{words}
use Rattle.heap.specs.Graph.{Graph, node, look, first_call, write_each}
use Rattle.heap.specs.Store.{Store, take1}
use Rattle.heap.proofs.Laws.Few.{few}
use Rattle.engine.specs.Compile.{Program, compile}
use Rattle.engine.specs.Machine as m
use Rattle.standing.specs.Stands.{Ours}
use Rattle.standing.specs.Part.{roots_of}
use Rattle.standing.proofs.Stacks.{stack-distinct, each-ours}
use Rattle.store.specs.Regions.{Memory, graph_of, marks_of, links_of, places_of, rest_of, store_of, Did, set_link}
use Rattle.store.specs.declared.NodeNo.{NodeNo}
use Rattle.store.proofs.Laws.{length-graph}
use Rattle.alternatives.proofs.Steps.{made-taken, nodes-are}
use Rattle.machine.specs.View.{stack_of}
use Rattle.machine.specs.Drive.{drive_on, Settled}
use Rattle.seek.specs.Walkable.{found_of}
use Rattle.seek.specs.Path.{Closed, CallAt}
use Rattle.seek.specs.Search.{Ground, Resumable, Sought, SoughtFrom}
use Rattle.seek.proofs.Walkables.{found-calls}
use Rattle.seek.proofs.Survives.{later_same, resumes-later}
use Rattle.std.specs.Prelude.{Option, Some, None}
use Rattle.pool.specs.declared.Held.{Held}
use Rattle.pool.specs.Ring.{Sized, held_in}
use Rattle.turns.specs.Front.{Standing, told_by, value_in, Searched, Dropped}
use Rattle.turns.specs.Calls.{Stacked, OwnLinks, OwnMarks, Begun}
use Rattle.turns.proofs.Grounds.{stands-ground, searched-same}
use Rattle.turns.proofs.Climbing.{stacked-settled, stacked-first, stacked-ours}
use Rattle.turns.proofs.Links.{stack_same, stack-none, stack_some, stack_push}
use Rattle.turns.proofs.Driving.{store-graph}

-- by the settled stack, and by the first call
on_some : (n : ℕ) (q : Program) (μ : Store) (c : m.Held) (N : List ℕ) (x : ℕ) (M : List ℕ) → m.settle μ.nodes c.stack ≡ N → N ≡ x ∷ M → m.turn_on (λ (μ : Store). μ.nodes) take1 n q μ c ≡ m.stopped (drive_on n q N μ)
unfolding m.turn_on m.on_stack
on_some n q μ c N x M e f = rw (e, f)

on_none : (n : ℕ) (q : Program) (μ : Store) (c : m.Held) → m.settle μ.nodes c.stack ≡ [] → m.turn_on (λ (μ : Store). μ.nodes) take1 n q μ c ≡ m.on_first (λ (μ : Store). μ.nodes) take1 n q μ c (first_call n μ.nodes c.value)
unfolding m.turn_on m.on_stack
on_none n q μ c e = rw e

module _ (L made : ℕ) (held : Held) (s : List ℕ) where
  abbrev μ : Store
  μ = store_of L made s

  abbrev c : m.Held
  c = held_in L s held

  -- the value's handle is the first
  pub value-is : Sized held.roots → c.value ≡ get_or held.roots.at 0 0
  unfolding held_in
  value-is z = get_or-take {A = ℕ} held.roots.n held.roots.at 0 0 (omega arith)

  stack_is : c.stack ≡ stack_of L s held.top
  unfolding held_in
  stack_is = stack_same L s held.top

  module _ (S : Standing L made held s) where
    size : length μ.nodes ≡ L
    size = ap length (nodes-are L made s) ∙ length-graph L s

    -- the part of the store that is searched
    pub ground : Sized held.roots → Ground made (graph_of L s) S.stands.world.owned (roots_of c) (value_in held)
    ground z = subst (Ground made (graph_of L s) S.stands.world.owned (roots_of c)) (value-is z) (stands-ground L made s S.stands S.sound.whole.good)

    -- what the search relies on
    pub standing-search : Sized held.roots → Searched L made (value_in held) s → Resumable L (value_in held) s
    standing-search z K = record { made = made; own = S.stands.world.owned; roots = roots_of c; ground = ground z; closed = K.closed; resumes = K.resumes }

    short : length (stack_of L s held.top) ≤ L
    short = let i = few (length μ.nodes) c.stack (stack-distinct S.book S.fine S.sound S.stands).1 (λ x w. S.stands.holds.in_q x (each-ours S.stands.holds S.kept.stack c.stack S.stands.helds.stack x w)) in
        let j = size in let k = ap length stack_is in omega arith

    settled : (t : ℕ) → Settled L s held.top t → m.settle μ.nodes c.stack ≡ stack_of L s t
    settled t q = ap (λ (g : Graph). m.settle g c.stack) (nodes-are L made s) ∙ ap (m.settle (graph_of L s)) stack_is ∙ sym (q short)

    -- the stack that is settled, unless it is dropped
    pub begins-stack : (t : ℕ) → Settled L s held.top t → stack_of L s t ≡ m.settle (graph_of L s) c.stack
    begins-stack t q = sym (settled t q) ∙ ap (λ (g : Graph). m.settle g c.stack) (nodes-are L made s)

    pub begins-without : (t : ℕ) → t ≤ 0 → Settled L s held.top t → ¬ (Dropped L held s) → held.top ≡ 0
    begins-without t z q kept = go (ltb 0 held.top) refl
      where
        some-entry : 0 < held.top → c.stack ≡ [] → ⊥
        some-entry h e = let x = stack_some L s held.top h in let l = ap length (sym x.2 ∙ sym stack_is ∙ e) in omega arith

        go : (b : Bool) → ltb 0 held.top ≡ b → held.top ≡ 0
        go false e = let u = ltb-false 0 held.top e in omega arith
        go true e = absurd (kept (some-entry (ltb-true 0 held.top e), sym (begins-stack t q) ∙ ap (stack_of L s) (let u : t ≡ 0 = omega arith in u) ∙ stack-none L s))

    -- a call is on the settled stack's top
    pub begins-settled : (t : ℕ) → 0 < t → Settled L s held.top t
        → (told_by S ≡ m.stopped (drive_on L (compile S.book) (stack_of L s t) μ)) × Stacked S.book S.kept.comp.graph S.kept.comp.value S.stands.world μ μ (stack_of L s t)
    begins-settled t h q =
        let x = stack_some L s t h in (
          on_some L (compile S.book) μ c (stack_of L s t) x.0 x.1 (settled t q) x.2,
          subst (Stacked S.book S.kept.comp.graph S.kept.comp.value S.stands.world μ μ) (sym x.2) (stacked-settled S.book S.fine S.sound S.stands x.0 x.1 (settled t q ∙ x.2)),
        )

    module _ (z : Sized held.roots) (t : ℕ) (none_left : t ≤ 0) (q : Settled L s held.top t) (f : Option NodeNo) (fe : found_of f ≡ first_call L (graph_of L s) (value_in held)) where
      empty : m.settle μ.nodes c.stack ≡ []
      empty = settled t q ∙ ap (stack_of L s) (let u : t ≡ 0 = omega arith in u) ∙ stack-none L s

      finds : first_call L μ.nodes c.value ≡ found_of f
      finds = ap (λ (g : Graph). first_call L g c.value) (nodes-are L made s) ∙ ap (first_call L (graph_of L s)) (value-is z) ∙ sym fe

      told-by : told_by S ≡ m.on_first (λ (μ : Store). μ.nodes) take1 L (compile S.book) μ c (found_of f)
      told-by = on_none L (compile S.book) μ c empty ∙ ap (m.on_first (λ (μ : Store). μ.nodes) take1 L (compile S.book) μ c) finds

      -- there is no call
      pub begins-none : f ≡ None → told_by S ≡ m.told (write_each L (graph_of L s) (c.value ∷ c.askers))
      unfolding m.on_first found_of
      begins-none e = told-by ∙ ap (λ (y : Option NodeNo). m.on_first (λ (μ : Store). μ.nodes) take1 L (compile S.book) μ c (found_of y)) e ∙ ap (λ (g : Graph). m.told (write_each L g (c.value ∷ c.askers))) (nodes-are L made s)

      module _ (h : NodeNo) (e : f ≡ Some h) where
        is_some : first_call L μ.nodes c.value ≡ some h.0
        unfolding found_of
        is_some = finds ∙ ap found_of e

        stack₁ : Stacked S.book S.kept.comp.graph S.kept.comp.value S.stands.world μ μ (h.0 ∷ [])
        stack₁ = stacked-first S.book S.fine S.sound S.stands L h.0 S.small is_some

        ours : Ours stack₁.world h.0
        ours = stacked-ours S.book S.fine S.kept.comp.graph S.sound.whole.good S.kept.comp.value stack₁ h.0 (mathlib.Core.List.Memᴰ.head refl)

        pub begins-inside : h.0 < L
        begins-inside = let i = stack₁.holds.in_q h.0 ours in let j = size in omega arith

        module _ (s₁ s₂ : List ℕ) (K : Searched L made (value_in held) s) (W : SoughtFrom L (value_in held) s s₁) (d : Did L s₁ s₂ (set_link h.0 0)) (room : 16 * L ≤ length (words s)) where
          X : Sought L made S.stands.world.owned (value_in held) s s₁
          unfolding standing-search
          X = W (standing-search z K)

          same_graph : graph_of L s₂ ≡ graph_of L s
          same_graph = ap (λ (x : Memory). x.graph) d.is ∙ X.leaves.graph

          pushed : stack_of L s₂ (suc h.0) ≡ h.0 ∷ []
          pushed =
              let e₀ : stack_of L s₁ 0 ≡ [] = stack-none L s₁ in
              stack_push L s₁ s₂ h.0 0 (let l = X.leaves.long in omega arith) begins-inside d (λ w. mathlib.Core.List.Memᴰ.not-nil (subst (Memᴰ h.0) e₀ w)) (let l = ap length e₀ in omega arith)
              ∙ ap (λ (r : List ℕ). h.0 ∷ r) e₀

          stored : store_of L made s₂ ≡ μ
          stored = store-graph L made s s₂ same_graph

          pub begins-first : (told_by S ≡ m.stopped (drive_on L (compile S.book) (stack_of L s₂ (h.0 + 1)) (store_of L made s₂)))
              × Stacked S.book S.kept.comp.graph S.kept.comp.value S.stands.world (store_of L made s₂) (store_of L made s₂) (stack_of L s₂ (h.0 + 1))
          unfolding m.on_first found_of
          begins-first =
              let n : stack_of L s₂ (h.0 + 1) ≡ h.0 ∷ [] = ap (stack_of L s₂) (add-one h.0) ∙ pushed in (
                told-by ∙ ap (λ (y : Option NodeNo). m.on_first (λ (μ : Store). μ.nodes) take1 L (compile S.book) μ c (found_of y)) e ∙ ap (λ (l : List ℕ). m.stopped (drive_on L (compile S.book) l μ)) (sym n) ∙ ap (λ (y : Store). m.stopped (drive_on L (compile S.book) (stack_of L s₂ (h.0 + 1)) y)) (sym stored),
                subst (λ (y : Store). Stacked S.book S.kept.comp.graph S.kept.comp.value S.stands.world y y (stack_of L s₂ (h.0 + 1))) (sym stored) (subst (Stacked S.book S.kept.comp.graph S.kept.comp.value S.stands.world μ μ) (sym n) stack₁),
              )

          apart_from : (x : ℕ) → x < made → ¬ (Ours S.stands.world x) → Ours S.stands.world h.0 ⊎ Memᴰ h.0 μ.free → x ≡ h.0 → ⊥
          apart_from x lt o (inl u) r = o (subst (Ours S.stands.world) (sym r) u)
          apart_from x lt o (inr u) r = made-taken L made x s lt h.0 u r

          apart : (x : ℕ) → x < made → ¬ (Ours S.stands.world x) → x ≡ h.0 → ⊥
          apart x i o = apart_from x i o (stack₁.new h.0 ours)

          pub begins-links : OwnLinks L made S.stands.world s s₂
          begins-links x i o = ap (λ (y : Memory). get_or y.links x 0) d.is ∙ get_or-set_other (links_of L s₁) h.0 x 0 0 (apart x i o) ∙ X.leaves.links x o

          pub begins-marks : OwnMarks L made S.stands.world s s₂
          begins-marks x i o = ap (λ (y : Memory). get_or y.marks x 0) d.is ∙ X.leaves.marks x o

          pub begins-finished : (x : ℕ) → get_or (marks_of L s) x 0 ≡ 2 → get_or (marks_of L s₂) x 0 ≡ 2
          begins-finished x q = ap (λ (y : Memory). get_or y.marks x 0) d.is ∙ X.leaves.finished x q

          -- the call's link is the stack's, and none of the search's
          called : CallAt (graph_of L s) h.0
          unfolding look found_of
          called =
              let F = found-calls L h.0 (record { own = S.stands.world.owned; roots = roots_of c; part = (ground z).part; handle = (ground z).handle }) (sym fe ∙ ap found_of e) in
              (F.name, F.args, ap (node (graph_of L s)) (sym F.ended) ∙ F.call)

          pub begins-searched : Searched L made (value_in held) s₂
          begins-searched =
              let M : marks_of L s₂ ≡ marks_of L s₁ = ap (λ (y : Memory). y.marks) d.is in
              searched-same L made (value_in held) s s₂ same_graph (subst (Closed made (graph_of L s)) (sym M) X.leaves.closed)
              (resumes-later X.leaves.closed (later_same made (graph_of L s)) (ground z) (links_of L s₁) (marks_of L s₂) (links_of L s₂) (λ x q. ap (λ (l : List ℕ). get_or l x 0) M ∙ q) (λ x w. ap (λ (l : List ℕ). get_or l x 0) M)
              (λ x w n. ap (λ (y : Memory). get_or y.links x 0) d.is ∙ get_or-set_other (links_of L s₁) h.0 x 0 0 (λ u. n (subst (CallAt (graph_of L s)) (sym u) called))) X.resumes)

      -- the search where there is no call
      module _ (s₁ : List ℕ) (K : Searched L made (value_in held) s) (W : SoughtFrom L (value_in held) s s₁) where
        Y : Sought L made S.stands.world.owned (value_in held) s s₁
        unfolding standing-search
        Y = W (standing-search z K)

        pub silent-graph : (graph_of L s₁ ≡ graph_of L s) × (places_of L s₁ ≡ places_of L s) × (rest_of L s₁ ≡ rest_of L s) × (length (words s₁) ≡ length (words s))
        silent-graph = (Y.leaves.graph, Y.leaves.places, Y.leaves.rest, Y.leaves.long)

        pub silent-links : OwnLinks L made S.stands.world s s₁
        silent-links x i o = Y.leaves.links x o

        pub silent-marks : OwnMarks L made S.stands.world s s₁
        silent-marks x i o = Y.leaves.marks x o

        pub silent-finished : (x : ℕ) → get_or (marks_of L s) x 0 ≡ 2 → get_or (marks_of L s₁) x 0 ≡ 2
        silent-finished = Y.leaves.finished

        pub silent-searched : Searched L made (value_in held) s₁
        silent-searched = searched-same L made (value_in held) s s₁ Y.leaves.graph Y.leaves.closed Y.resumes

  -- what `begin` promises: at the settled stack's top, at the value's first call, at none
  module _ (S₀ : Standing L made held s) (z : Sized held.roots) (K : Searched L made (value_in held) s) (t : ℕ) (q : Settled L s held.top t) where
    pub begun-settled : 0 < t → Begun L made held s s (Some t)
    begun-settled h = record {
      begun = λ S. begins-settled S t h q;
      graph = refl;
      links = λ S x i o. refl;
      places = refl;
      rest = refl;
      marks = λ S x i o. refl;
      finished = λ x w. w;
      searched = K;
      stack = λ d. inr (refl, begins-stack S₀ t q);
      long = refl;
    }

    module _ (none_left : t ≤ 0) (f : Option NodeNo) (fe : found_of f ≡ first_call L (graph_of L s) (value_in held)) (s₁ : List ℕ) (W : SoughtFrom L (value_in held) s s₁) where
      pub begun-silent : f ≡ None → Begun L made held s s₁ None
      begun-silent e =
          let G = silent-graph S₀ z t none_left q f fe s₁ K W in
          record {
            begun = λ S. begins-none S z t none_left q f fe e;
            graph = G.0;
            links = λ S. silent-links S z t none_left q f fe s₁ K W;
            places = G.1;
            rest = G.2;
            marks = λ S. silent-marks S z t none_left q f fe s₁ K W;
            finished = silent-finished S₀ z t none_left q f fe s₁ K W;
            searched = silent-searched S₀ z t none_left q f fe s₁ K W;
            stack = λ d. inl (begins-without S₀ t none_left q d);
            long = G.3;
          }

      pub begun-first : (h : NodeNo) → f ≡ Some h → {s₂ : List ℕ} → Did L s₁ s₂ (set_link h.0 0) → 16 * L ≤ length (words s) → Begun L made held s s₂ (Some (h.0 + 1))
      begun-first h e {s₂} d room =
          let G = silent-graph S₀ z t none_left q f fe s₁ K W in
          record {
            begun = λ S. begins-first S z t none_left q f fe h e s₁ s₂ K W d room;
            graph = ap (λ (m : Memory). m.graph) d.is ∙ G.0;
            links = λ S. begins-links S z t none_left q f fe h e s₁ s₂ K W d room;
            places = ap (λ (m : Memory). m.places) d.is ∙ G.1;
            rest = ap (λ (m : Memory). m.rest) d.is ∙ G.2;
            marks = λ S. begins-marks S z t none_left q f fe h e s₁ s₂ K W d room;
            finished = begins-finished S₀ z t none_left q f fe h e s₁ s₂ K W d room;
            searched = begins-searched S₀ z t none_left q f fe h e s₁ s₂ K W d room;
            stack = λ d. inl (begins-without S₀ t none_left q d);
            long = d.long ∙ G.3;
          }
