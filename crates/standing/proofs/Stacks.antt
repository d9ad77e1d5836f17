-- The kept stacks in the store: no number is on them twice, neither in one computation nor in two; and a call that is demanded is not there yet.
-- Here, in order: lists of different numbers; a chain in a computation's own graph; in the store; all stacks; the stack within a turn.
-- Assumes nothing.
use Prim.Native.Nat.{ℕ, ◌≤◌, ◌<◌}
use native.Mathlib.Omega.{arith}
use mathlib.Core.Path.{◌≡◌, refl, sym, ap, ◌∙◌, subst}
use mathlib.Core.Logic.{◌⊎◌, inl, inr}
use mathlib.Core.Option.{Option, none, some}
use mathlib.Core.List.Memᴰ
use mathlib.Core.List.{List, [], ◌∷◌, ◌++◌, map, Memᴰ}
use lib.ListN.{length}
use Rattle.book.specs.Syntax.{Book, Right}
use Rattle.heap.specs.Alike.{Each}
use Rattle.heap.specs.Place.{Distinct}
use Rattle.heap.specs.Graph.{Graph, look, follow, first_call}
use Rattle.heap.specs.Store.{Store, take1}
use Rattle.heap.proofs.Laws.Good.{Good}
use Rattle.heap.proofs.Laws.Few.{few}
use Rattle.heap.proofs.Laws.Forward.{Call, look-follow}
use Rattle.heap.proofs.Laws.First.{found}
use Rattle.heap.proofs.Laws.Bound.{first-bound}
use Rattle.heap.proofs.Laws.Alike.{Maybe, rep-follow, leads-from}
use Rattle.heap.proofs.Laws.Shape.{first-same}
use Rattle.heap.proofs.Laws.Copies.{mem-map}
use Rattle.engine.specs.Plain.{Reached, demands, narrows, rewrites, fails, misfits, stuck, walk_call}
use Rattle.engine.specs.Compile.{compile}
use Rattle.engine.specs.Machine.{Held, Kept, held_of, Stop, demand, own, on_top, settle}
use Rattle.agreement.proofs.Fine.{Takes}
use Rattle.agreement.proofs.Calls.{FineBook, call-runs}
use Rattle.agreement.proofs.Trees.{stop_of, rule_stop}
use Rattle.agreement.proofs.Chain.{Chain, chain-top, call-demands, Settled, settle-chain}
use Rattle.agreement.proofs.Agree.{Sound}
use Rattle.standing.specs.Stands.{World, Rel, Ours, Reps, Holds, Stands, Pool, empty, join}
use Rattle.standing.specs.Moments.{Sounds}
use Rattle.standing.specs.Part.{stacks_of}
use Rattle.standing.proofs.Grows.{Stops, stops-demand}
use Rattle.standing.proofs.Step.{top-alike, settle-alike, rel-rep}
use Rattle.standing.proofs.Walks.{mem-map-to}

distinct_of : (f : ℕ → ℕ) (l : List ℕ) → Distinct (map f l) → Distinct l
distinct_of f [] d = tt
distinct_of f (x ∷ l) (d, ds) = (λ y m e. d (f y) (mem-map-to f l y m) (ap f e), distinct_of f l ds)

distinct_append : (a b : List ℕ) → Distinct a → Distinct b → ((x : ℕ) → Memᴰ x a → ¬ (Memᴰ x b)) → Distinct (a ++ b)
distinct_append [] b d e f = e
distinct_append (x ∷ a) b (d, ds) e f = (λ y m q. go y q (Memᴰ.append_cases a m), distinct_append a b ds e (λ y m. f y (Memᴰ.tail m)))
  where
    go : (y : ℕ) → y ≡ x → Memᴰ y a ⊎ Memᴰ y b → ⊥
    go y q (inl m) = d y m q
    go y q (inr m) = f y (Memᴰ.head q) m

-- in a computation's own graph
module _ (book : Book) (B : FineBook book) (g : Graph) (G : Good (Takes (compile book)) g) (v : ℕ) where
  calls-below : (N : List ℕ) (h : ℕ) → Chain book g v (h ∷ N) → (y : ℕ) → Memᴰ y N → Call g y
  calls-below [] h c y m = absurd (Memᴰ.not-nil m)
  calls-below (k ∷ N) h (i, f, ck, ch) y m = go (calls-below N k ch y) (Memᴰ.cases_cons m)
    where
      go : (Memᴰ y N → Call g y) → (y ≡ k) ⊎ Memᴰ y N → Call g y
      go ih (inl e) = rw e ck
      go ih (inr w) = ih w

  -- each call lies further down than those below it on the stack
  ranks-rise : (N : List ℕ) (h : ℕ) → Chain book g v (h ∷ N) → Call g h → (y : ℕ) → Memᴰ y N → G.rank (follow g h) < G.rank (follow g y)
  ranks-rise [] h c ch y m = absurd (Memᴰ.not-nil m)
  ranks-rise (k ∷ N) h (i, f, ck, ch) c y m = go (ranks-rise N k ch ck y) (Memᴰ.cases_cons m)
    where
      low : G.rank (follow g h) < G.rank (follow g k)
      low = (call-demands book B g G k ck (chain-top book g v k N ch) (follow g h) (f c)).lower

      go : (Memᴰ y N → G.rank (follow g k) < G.rank (follow g y)) → (y ≡ k) ⊎ Memᴰ y N → G.rank (follow g h) < G.rank (follow g y)
      go ih (inl e) = rw e low
      go ih (inr w) = let a = ih w in let b = low in omega arith

  top_apart : (N : List ℕ) (h : ℕ) → Chain book g v (h ∷ N) → (z : ℕ) → Memᴰ z (map (follow g) N) → z ≡ follow g h → ⊥
  top_apart N h c z m e =
      let r = mem-map (follow g) N z m in
      let u : follow g r.0 ≡ follow g h = sym r.2 ∙ e in
      let cy = calls-below N h c r.0 r.1 in
      let i = ranks-rise N h c (cy.0, cy.1, sym (look-follow g r.0 h u) ∙ cy.2) r.0 r.1 in
      let t = ap G.rank u in
      omega arith

  chain-distinct : (N : List ℕ) → Chain book g v N → Distinct (map (follow g) N)
  chain-distinct [] c = tt
  chain-distinct (h ∷ []) c = (top_apart [] h c, tt)
  chain-distinct (h ∷ k ∷ N) c = (top_apart (k ∷ N) h c, chain-distinct (k ∷ N) c.3)

-- in the store
module _ {w : World} {g : Graph} {μ : Store} (H : Holds w g μ) where
  each_from : (N N' : List ℕ) → Each (Reps w g μ.nodes) N N' → (k : ℕ) → Memᴰ k N' → (h : ℕ) × Memᴰ h N × Reps w g μ.nodes h k
  each_from [] [] e k m = absurd (Memᴰ.not-nil m)
  each_from [] (j ∷ N') e k m = absurd e
  each_from (h ∷ N) [] e k m = absurd e
  each_from (h ∷ N) (j ∷ N') (e, es) k m = go (each_from N N' es k) (Memᴰ.cases_cons m)
    where
      go : (Memᴰ k N' → (h : ℕ) × Memᴰ h N × Reps w g μ.nodes h k) → (k ≡ j) ⊎ Memᴰ k N' → (i : ℕ) × Memᴰ i (h ∷ N) × Reps w g μ.nodes i k
      go ih (inl q) = (h, Memᴰ.head refl, rw q e)
      go ih (inr x) = let r = ih x in (r.0, Memᴰ.tail r.1, r.2)

  pub each-ours : (N N' : List ℕ) → Each (Reps w g μ.nodes) N N' → (k : ℕ) → Memᴰ k N' → Ours w k
  each-ours N N' e k m = let r = (each_from N N' e k m).2 in leads-from (Ours w) μ.nodes r.to r.right

  each-distinct : (N N' : List ℕ) → Each (Reps w g μ.nodes) N N' → Distinct (map (follow g) N) → Distinct (map (follow μ.nodes) N')
  each-distinct [] [] e d = tt
  each-distinct [] (j ∷ N') e d = absurd e
  each-distinct (h ∷ N) [] e d = absurd e
  each-distinct (h ∷ N) (j ∷ N') (e, es) (d, ds) = (λ z m q. apart z (mem-map (follow μ.nodes) N' z m) q, each-distinct N N' es ds)
    where
      apart : (z : ℕ) → (k : ℕ) × Memᴰ k N' × (z ≡ follow μ.nodes k) → z ≡ follow μ.nodes j → ⊥
      apart z (k, m, u) q =
          let r = each_from N N' es k m in
          let a : Rel w (follow g r.0) (follow μ.nodes j) = subst (Rel w (follow g r.0)) (sym u ∙ q) (rep-follow H.alike r.0 k r.2) in
          d (follow g r.0) (mem-map-to (follow g) N r.0 r.1) (H.alike.of_one (follow g r.0) (follow g h) (follow μ.nodes j) a (rep-follow H.alike h j e))

module _ (book : Book) (B : FineBook book) where
  -- the entries of a stack are different numbers, and their forwards end at different nodes
  pub stack-distinct : {k : Kept} {μ : Store} {c : Held} → Sound book B k.comp k.stack → Stands k.comp.graph (held_of k) μ c → Distinct (map (follow μ.nodes) c.stack) × Distinct c.stack
  stack-distinct {k} {μ} {c} s S =
      let d = each-distinct S.holds k.stack c.stack S.helds.stack (chain-distinct book B k.comp.graph s.whole.good k.comp.value k.stack s.chain) in
      (d, distinct_of (follow μ.nodes) c.stack d)

  stacks-owned : {μ : Store} {ks : List Kept} {cs : List Held} {own : List ℕ} → Pool μ ks cs own → (x : ℕ) → Memᴰ x (stacks_of cs) → Memᴰ x own
  stacks-owned empty x m = m
  stacks-owned (join {k = k} {c = c} {cs = cs} {own = own} S p a) x m = go (λ u. stacks-owned p x u) (Memᴰ.append_cases c.stack m)
    where
      go : (Memᴰ x (stacks_of cs) → Memᴰ x own) → Memᴰ x c.stack ⊎ Memᴰ x (stacks_of cs) → Memᴰ x (S.world.owned ++ own)
      go ih (inl u) = Memᴰ.append_left own (each-ours S.holds k.stack c.stack S.helds.stack x u)
      go ih (inr u) = Memᴰ.append_right S.world.owned (ih u)

  -- the entries of all stacks are different numbers
  pub stacks-distinct : {μ : Store} {ks : List Kept} {cs : List Held} {own : List ℕ} → Pool μ ks cs own → Sounds book B ks → Distinct (stacks_of cs)
  stacks-distinct empty s = tt
  stacks-distinct (join {k = k} {c = c} {cs = cs} S p a) (s, ss) =
      distinct_append c.stack (stacks_of cs) (stack-distinct s S).1 (stacks-distinct p ss) (λ x u o. a x (each-ours S.holds k.stack c.stack S.helds.stack x u) (stacks-owned p x o))

  pool-inside : {μ : Store} {ks : List Kept} {cs : List Held} {own : List ℕ} → Pool μ ks cs own → (x : ℕ) → Memᴰ x own → x < length μ.nodes
  pool-inside empty x m = absurd (Memᴰ.not-nil m)
  pool-inside {μ} (join {own = own} S p a) x m = go (λ u. pool-inside p x u) (Memᴰ.append_cases S.world.owned m)
    where
      go : (Memᴰ x own → x < length μ.nodes) → Ours S.world x ⊎ Memᴰ x own → x < length μ.nodes
      go ih (inl q) = S.holds.in_q x q
      go ih (inr q) = ih q

  -- all stacks together have no more entries than the store has nodes
  pub stacks-few : {μ : Store} {ks : List Kept} {cs : List Held} {own : List ℕ} → Pool μ ks cs own → Sounds book B ks → length (stacks_of cs) ≤ length μ.nodes
  stacks-few {μ} {cs = cs} p s = few (length μ.nodes) (stacks_of cs) (stacks-distinct p s) (λ x m. pool-inside p x (stacks-owned p x m))

  -- the stack within a turn, its top a call: in the computation's own graph, in which nothing is made before the step, it is a chain
  pub record Climbs (g : Graph) (v : ℕ) (μ : Store) (N' : List ℕ) : Type 0 where
    pub world : World
    pub holds : Holds world g μ
    pub top : ℕ
    pub rest : List ℕ
    pub call : Call g top
    pub chain : Chain book g v (top ∷ rest)
    pub each : Each (Reps world g μ.nodes) (top ∷ rest) N'

  module _ (g : Graph) (G : Good (Takes (compile book)) g) (v : ℕ) where
    pub climbs-distinct : {μ : Store} {N' : List ℕ} → Climbs g v μ N' → Distinct (map (follow μ.nodes) N') × Distinct N'
    climbs-distinct {μ} {N'} C =
        let d = each-distinct C.holds (C.top ∷ C.rest) N' C.each (chain-distinct book B g G v (C.top ∷ C.rest) C.chain) in
        (d, distinct_of (follow μ.nodes) N' d)

    -- so no more calls are demanded than the store has nodes
    pub climbs-few : {μ : Store} {N' : List ℕ} → Climbs g v μ N' → length N' ≤ length μ.nodes
    climbs-few {μ} {N'} C = few (length μ.nodes) N' (climbs-distinct C).1 (λ x m. C.holds.in_q x (each-ours C.holds (C.top ∷ C.rest) N' C.each x m))

    no-demand : (h : ℕ) (N : List ℕ) (rs : List Right) (slots M : List ℕ) (g' : Graph) → rule_stop g h N rs slots ≡ demand M g' → ⊥
    unfolding rule_stop
    no-demand h N [] slots M g' e = let z : ◌≡◌ {A = ℕ} 0 1 = cc in omega arith
    no-demand h N (r ∷ []) slots M g' e = let z : ◌≡◌ {A = ℕ} 0 1 = cc in omega arith
    no-demand h N (r ∷ r' ∷ rs) slots M g' e = let z : ◌≡◌ {A = ℕ} 0 1 = cc in omega arith

    demanded : (h : ℕ) (N : List ℕ) (x : Reached) (M : List ℕ) (g' : Graph) → stop_of (compile book) g h N x ≡ demand M g' → (k : ℕ) × (x ≡ demands k) × (M ≡ k ∷ h ∷ N) × (g' ≡ g)
    unfolding stop_of
    demanded h N (demands k) M g' e = (k, refl, cc, cc)
    demanded h N (narrows x t) M g' e = let z : ◌≡◌ {A = ℕ} 0 1 = cc in absurd (omega arith)
    demanded h N (rewrites rs slots) M g' e = absurd (no-demand h N rs slots M g' e)
    demanded h N fails M g' e = let z : ◌≡◌ {A = ℕ} 0 1 = cc in absurd (omega arith)
    demanded h N misfits M g' e = let z : ◌≡◌ {A = ℕ} 0 1 = cc in absurd (omega arith)
    demanded h N stuck M g' e = let z : ◌≡◌ {A = ℕ} 0 1 = cc in absurd (omega arith)

    -- a call that is walked instead: the stack with it on top is such a stack again
    pub climbs-demand : {μ : Store} (t : ℕ) (N' : List ℕ) → Climbs g v μ (t ∷ N') → (M : List ℕ) (μ' : Store) → on_top (λ μ. μ.nodes) take1 (compile book) (look μ.nodes t) (t ∷ N') μ ≡ demand M μ' → Climbs g v μ' M
    climbs-demand {μ} t N' C M μ' e = go (on_top (λ x. x) own (compile book) (look g C.top) (C.top ∷ C.rest) g) refl
        (subst (Stops C.world g μ (on_top (λ x. x) own (compile book) (look g C.top) (C.top ∷ C.rest) g)) e
        (top-alike (compile book) C.world g μ C.holds (C.top ∷ C.rest) (t ∷ N') C.each (look g C.top) (look μ.nodes t) (Rattle.heap.proofs.Laws.Alike.rep-look C.holds.alike C.top t C.each.0)))
      where
        inside : C.top < length g
        inside = chain-top book g v C.top C.rest C.chain

        go : (x : Stop Graph) → on_top (λ x. x) own (compile book) (look g C.top) (C.top ∷ C.rest) g ≡ x → Stops C.world g μ x (demand M μ') → Climbs g v μ' M
        go x q (stops-demand {N = N₁} {g' = g₁} o es) =
            let r = demanded C.top C.rest (walk_call book g C.top) N₁ g₁ (sym (call-runs book B g G C.top C.call.0 C.call.1 C.rest inside C.call.2) ∙ q) in
            let D = call-demands book B g G C.top C.call inside r.0 r.1 in
            let H : Holds o.world g μ' = subst (λ (z : Graph). Holds o.world z μ') r.3 o.holds in
            let E : Each (Reps o.world g μ'.nodes) (r.0 ∷ C.top ∷ C.rest) M = subst (λ (l : List ℕ). Each (Reps o.world g μ'.nodes) l M) r.2 (subst (λ (z : Graph). Each (Reps o.world z μ'.nodes) N₁ M) r.3 es) in
            record {
              world = o.world;
              holds = H;
              top = r.0;
              rest = C.top ∷ C.rest;
              call = D.call;
              chain = (D.inside, (λ c. r.1 ∙ ap demands (sym D.ended)), C.call, C.chain);
              each = E;
            }

  module _ {k : Kept} {μ : Store} {c : Held} (s : Sound book B k.comp k.stack) (S : Stands k.comp.graph (held_of k) μ c) where
    abbrev g : Graph
    g = k.comp.graph

    -- the kept stack, settled
    pub climbs-settled : (t : ℕ) (N' : List ℕ) → settle μ.nodes c.stack ≡ t ∷ N' → Climbs g k.comp.value μ (t ∷ N')
    climbs-settled t N' e = go (settle-chain book B g s.whole.good k.comp.value k.stack s.chain)
        (subst (Each (Reps S.world g μ.nodes) (settle g k.stack)) e (settle-alike (compile book) S.world g μ S.holds k.stack c.stack S.helds.stack))
      where
        go : Settled book B g s.whole.good k.comp.value (settle g k.stack) → Each (Reps S.world g μ.nodes) (settle g k.stack) (t ∷ N') → Climbs g k.comp.value μ (t ∷ N')
        go (inl q) es = absurd (rw q at es)
        go (inr (h, M, q, ct, ch)) es = record { world = S.world; holds = S.holds; top = h; rest = M; call = ct; chain = ch; each = rw q at es }

    -- or the value's first call alone
    pub climbs-first : (n t : ℕ) → length g ≤ n → first_call n μ.nodes c.value ≡ some t → Climbs g k.comp.value μ (t ∷ [])
    climbs-first n t l e = go (first_call n g k.comp.value) refl (subst (Maybe (Rel S.world) (first_call n g k.comp.value)) e (first-same S.holds.alike S.holds.in_p S.holds.in_q n k.comp.value c.value S.helds.value))
      where
        v : ℕ
        v = k.comp.value

        G : Good (Takes (compile book)) g
        G = s.whole.good

        go : (o : Option ℕ) → first_call n g v ≡ o → Maybe (Rel S.world) o (some t) → Climbs g v μ (t ∷ [])
        go none q r = absurd r
        go (some x) q r =
            let i = s.whole.value_in in
            let b = G.low v i in
            let q' : first_call (length g) g v ≡ some x = first-bound g G (length g) n v i b (omega arith) ∙ q in
            let F = found g G (length g) v i b x q' in
            record { world = S.world; holds = S.holds; top = x; rest = []; call = F.call; chain = (F.inside, λ c. q' ∙ ap some (sym F.ended)); each = (rel-rep (compile book) S.world g μ S.holds x t r, tt) }
