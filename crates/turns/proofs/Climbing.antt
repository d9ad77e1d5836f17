-- The stack within a turn climbs: from the settled stack or the first call on, through each call that is demanded.
-- Here, in order: where it begins; a call that is demanded; its entries; room for the code of the call on its top.
-- Assumes nothing.
use Prim.Native.Nat.{ℕ, ◌≤◌, ◌<◌}
use native.Mathlib.Omega.{arith}
use mathlib.Core.Path.{◌≡◌, refl, sym, ap, ◌∙◌, subst}
use mathlib.Core.Logic.{◌⊎◌, inl, inr}
use mathlib.Core.Option.{Option, none, some}
use mathlib.Core.List.{List, [], ◌∷◌, Memᴰ}
use lib.ListN.{length}
use Rattle.book.specs.Syntax.{Book, Right, Symbol, fun}
use Rattle.heap.specs.Alike.{Each, Mirror}
use Rattle.heap.specs.Place.{Distinct}
use Rattle.heap.specs.Graph.{Graph, Node, cell, var, fwd, look, first_call}
use Rattle.heap.specs.Store.{Store, take1}
use Rattle.heap.proofs.Laws.Good.{Good}
use Rattle.heap.proofs.Laws.First.{found}
use Rattle.heap.proofs.Laws.Bound.{first-bound}
use Rattle.heap.proofs.Laws.Alike.{Maybe, rep-look}
use Rattle.heap.proofs.Laws.Shape.{first-same}
use Rattle.engine.specs.Plain.{Reached, demands, narrows, rewrites, fails, misfits, stuck, walk_call}
use Rattle.engine.specs.Compile.{compile}
use Rattle.engine.specs.Machine.{Held, Kept, held_of, Stop, demand, own, on_top, settle}
use Rattle.agreement.proofs.Fine.{Takes}
use Rattle.agreement.proofs.Calls.{FineBook, call-runs, known-call}
use Rattle.agreement.proofs.Trees.{stop_of, rule_stop}
use Rattle.agreement.proofs.Chain.{chain-top, call-demands, Settled, settle-chain}
use Rattle.agreement.proofs.Agree.{Sound}
use Rattle.standing.specs.Stands.{World, Rel, Dom, Ours, Reps, Holds, Stands}
use Rattle.standing.proofs.Grows.{Stops, stops-demand}
use Rattle.standing.proofs.Step.{top-alike, settle-alike, rel-rep}
use Rattle.standing.proofs.Stacks.{Climbs, climbs-distinct, climbs-few, each-ours}
use Rattle.turns.specs.Calls.{Stacked}

module _ (book : Book) (B : FineBook book) where
  -- it begins at the settled stack
  pub stacked-settled : {k : Kept} {μ : Store} {c : Held} (s : Sound book B k.comp k.stack) (S : Stands k.comp.graph (held_of k) μ c) (t : ℕ) (N : List ℕ)
      → settle μ.nodes c.stack ≡ t ∷ N → Stacked book k.comp.graph k.comp.value S.world μ μ (t ∷ N)
  stacked-settled {k} {μ} {c} s S t N e = go (settle-chain book B g s.whole.good k.comp.value k.stack s.chain)
      (subst (Each (Reps S.world g μ.nodes) (settle g k.stack)) e (settle-alike (compile book) S.world g μ S.holds k.stack c.stack S.helds.stack))
    where
      g : Graph
      g = k.comp.graph

      go : Settled book B g s.whole.good k.comp.value (settle g k.stack) → Each (Reps S.world g μ.nodes) (settle g k.stack) (t ∷ N) → Stacked book g k.comp.value S.world μ μ (t ∷ N)
      go (inl q) es = absurd (rw q at es)
      go (inr (h, M, q, ct, ch)) es = record { world = S.world; holds = S.holds; top = h; rest = M; call = ct; chain = ch; each = rw q at es; new = λ x o. inl o; less = λ x w. w }

  -- or at the value's first call
  pub stacked-first : {k : Kept} {μ : Store} {c : Held} (s : Sound book B k.comp k.stack) (S : Stands k.comp.graph (held_of k) μ c) (n t : ℕ) → length k.comp.graph ≤ n
      → first_call n μ.nodes c.value ≡ some t → Stacked book k.comp.graph k.comp.value S.world μ μ (t ∷ [])
  stacked-first {k} {μ} {c} s S n t l e = go (first_call n g v) refl (subst (Maybe (Rel S.world) (first_call n g v)) e (first-same S.holds.alike S.holds.in_p S.holds.in_q n v c.value S.helds.value))
    where
      g : Graph
      g = k.comp.graph

      v : ℕ
      v = k.comp.value

      G : Good (Takes (compile book)) g
      G = s.whole.good

      go : (o : Option ℕ) → first_call n g v ≡ o → Maybe (Rel S.world) o (some t) → Stacked book g v S.world μ μ (t ∷ [])
      go none q r = absurd r
      go (some x) q r =
          let i = s.whole.value_in in
          let b = G.low v i in
          let q' : first_call (length g) g v ≡ some x = first-bound g G (length g) n v i b (omega arith) ∙ q in
          let F = found g G (length g) v i b x q' in
          record { world = S.world; holds = S.holds; top = x; rest = []; call = F.call; chain = (F.inside, λ c. q' ∙ ap some (sym F.ended)); each = (rel-rep (compile book) S.world g μ S.holds x t r, tt); new = λ x o. inl o; less = λ x w. w }

  module _ (g : Graph) (G : Good (Takes (compile book)) g) (v : ℕ) where
    no-demand : (h : ℕ) (N : List ℕ) (rs : List Right) (slots M : List ℕ) (g' : Graph) → rule_stop g h N rs slots ≡ demand M g' → ⊥
    unfolding rule_stop
    no-demand h N [] slots M g' e = cc
    no-demand h N (r ∷ []) slots M g' e = cc
    no-demand h N (r ∷ r' ∷ rs) slots M g' e = cc

    demanded : (h : ℕ) (N : List ℕ) (x : Reached) (M : List ℕ) (g' : Graph) → stop_of (compile book) g h N x ≡ demand M g' → (k : ℕ) × (x ≡ demands k) × (M ≡ k ∷ h ∷ N) × (g' ≡ g)
    unfolding stop_of
    demanded h N (demands k) M g' e = (k, refl, cc, cc)
    demanded h N (narrows x t) M g' e = cc
    demanded h N (rewrites rs slots) M g' e = absurd (no-demand h N rs slots M g' e)
    demanded h N fails M g' e = cc
    demanded h N misfits M g' e = cc
    demanded h N stuck M g' e = cc

    -- a call that is walked instead
    pub stacked-demand : {w₀ : World} {μ₀ μ : Store} (t : ℕ) (N : List ℕ) → Stacked book g v w₀ μ₀ μ (t ∷ N) → (M : List ℕ) (μ' : Store) → on_top (λ μ. μ.nodes) take1 (compile book) (look μ.nodes t) (t ∷ N) μ ≡ demand M μ' → Stacked book g v w₀ μ₀ μ' M
    stacked-demand {w₀} {μ₀} {μ} t N C M μ' e = go (on_top (λ x. x) own (compile book) (look g C.top) (C.top ∷ C.rest) g) refl
        (subst (Stops C.world g μ (on_top (λ x. x) own (compile book) (look g C.top) (C.top ∷ C.rest) g)) e
        (top-alike (compile book) C.world g μ C.holds (C.top ∷ C.rest) (t ∷ N) C.each (look g C.top) (look μ.nodes t) (rep-look C.holds.alike C.top t C.each.0)))
      where
        inside : C.top < length g
        inside = chain-top book g v C.top C.rest C.chain

        go : (x : Stop Graph) → on_top (λ x. x) own (compile book) (look g C.top) (C.top ∷ C.rest) g ≡ x → Stops C.world g μ x (demand M μ') → Stacked book g v w₀ μ₀ μ' M
        go x q (stops-demand {N = N₁} {g' = g₁} o es) =
            let r = demanded C.top C.rest (walk_call book g C.top) N₁ g₁ (sym (call-runs book B g G C.top C.call.0 C.call.1 C.rest inside C.call.2) ∙ q) in
            let D = call-demands book B g G C.top C.call inside r.0 r.1 in
            let H : Holds o.world g μ' = subst (λ (z : Graph). Holds o.world z μ') r.3 o.holds in
            let E : Each (Reps o.world g μ'.nodes) (r.0 ∷ C.top ∷ C.rest) M = subst (λ (l : List ℕ). Each (Reps o.world g μ'.nodes) l M) r.2 (subst (λ (z : Graph). Each (Reps o.world z μ'.nodes) N₁ M) r.3 es) in
            record {
              world = o.world;
              holds = H;
              top = r.0;
              rest = C.top ∷ C.rest;
              call = D.call;
              chain = (D.inside, (λ c. r.1 ∙ ap demands (sym D.ended)), C.call, C.chain);
              each = E;
              new = λ x u. before x (o.new x u);
              less = λ x u. C.less x (o.less x u);
            }
          where
            before : (x : ℕ) → Ours C.world x ⊎ Memᴰ x μ.free → Ours w₀ x ⊎ Memᴰ x μ₀.free
            before x (inl u) = C.new x u
            before x (inr u) = inr (C.less x u)

    climbs : {w₀ : World} {μ₀ μ : Store} {N : List ℕ} → Stacked book g v w₀ μ₀ μ N → Climbs book B g v μ N
    climbs C = record { world = C.world; holds = C.holds; top = C.top; rest = C.rest; call = C.call; chain = C.chain; each = C.each }

    -- its entries are different numbers of the store, no more than there are nodes
    pub stacked-distinct : {w₀ : World} {μ₀ μ : Store} {N : List ℕ} → Stacked book g v w₀ μ₀ μ N → Distinct N
    stacked-distinct C = (climbs-distinct book B g G v (climbs C)).1

    pub stacked-few : {w₀ : World} {μ₀ μ : Store} {N : List ℕ} → Stacked book g v w₀ μ₀ μ N → length N ≤ length μ.nodes
    stacked-few C = climbs-few book B g G v (climbs C)

    -- the world's, or free before
    pub stacked-ours : {w₀ : World} {μ₀ μ : Store} {N : List ℕ} (C : Stacked book g v w₀ μ₀ μ N) (x : ℕ) → Memᴰ x N → Ours C.world x
    stacked-ours {N = N} C x w = each-ours C.holds (C.top ∷ C.rest) N C.each x w

    -- the call that is read on top of it is one of the book's functions
    pub stacked-known : {w₀ : World} {μ₀ μ : Store} (t : ℕ) (N : List ℕ) → Stacked book g v w₀ μ₀ μ (t ∷ N) → (f : ℕ) (hs : List ℕ) → look μ.nodes t ≡ cell (fun f) hs → f < length book.funcs
    stacked-known {μ = μ} t N C f hs e = go (look g C.top) refl (subst (λ (z : Node). Mirror (Rel C.world) (Dom C.world) (Ours C.world) g μ.nodes (look g C.top) z) e (rep-look C.holds.alike C.top t C.each.0))
      where
        go : (x : Node) → look g C.top ≡ x → Mirror (Rel C.world) (Dom C.world) (Ours C.world) g μ.nodes x (cell (fun f) hs) → f < length book.funcs
        go (cell y ks) q (u, us) = known-call book B g G C.top f ks (q ∙ ap (λ (z : Symbol). cell z ks) u)
        go var q u = absurd u
        go (fwd k) q u = absurd u
