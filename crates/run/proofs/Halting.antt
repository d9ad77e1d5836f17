-- A turn that can't be taken leaves the waiting computations as they were.
-- Here, in order: a moment with the front's stack empty; before a turn; entries that stand for one another; after a turn that does not go on: the store, the front's row, a stack that is
-- not dropped; the moment; the memory after it.
-- Assumes nothing.
use Prim.Native.Nat.{ℕ, suc, ◌+◌, ◌*◌, ◌≤◌, ◌<◌}
use native.Mathlib.Omega.{arith}
use mathlib.Core.Path.{◌≡◌, refl, ap, sym, ◌∙◌, subst}
use mathlib.Core.Logic.{◌⊎◌, inl, inr, ◌≢◌}
use mathlib.Core.List.Memᴰ
use mathlib.Core.List.{List, [], ◌∷◌, ◌++◌, Memᴰ}
use lib.ListN.{length, get_or, take, drop}
use lib.Seq.{take-take, get_or-take}
use Rattle.mem.proofs.Laws.{drop-take}
use Rattle.book.specs.Syntax.{Book}
use Rattle.heap.specs.Alike.{Each}
use Rattle.heap.specs.Graph.{Graph, node}
use Rattle.heap.specs.Store.{Store}
use Rattle.engine.specs.Compile.{compile}
use Rattle.engine.specs.Machine as m
use Rattle.engine.specs.Run as e
use Rattle.agreement.proofs.Calls.{FineBook}
use Rattle.standing.specs.Shared.{StoreMoment, store_moment}
use Rattle.standing.specs.Stands.{Ours, Reps, Pool, empty, join}
use Rattle.standing.specs.Moments.{Room, Sounds, StandsFor, stands-for}
use Rattle.standing.proofs.Stands.{Elsewhere, pool-frame}
use Rattle.standing.proofs.Step.{settle-alike}
use Rattle.store.specs.Regions.{graph_of, links_of, rest_of, store_of}
use Rattle.alternatives.proofs.Steps.{nodes-are}
use Rattle.pool.specs.declared.Held.{Held}
use Rattle.pool.specs.Ring.{roots_at, stack_of, held_by, held_in, row_of, SameLinks, RowGot}
use Rattle.pool.proofs.Rings.{pool-first, chain-kept}
use Rattle.turns.specs.declared.What.TheVariants.{Went}
use Rattle.turns.specs.declared.Turned as t
use Rattle.turns.specs.Front.{Stays, TurnTaken}
use Rattle.turns.specs.Front as f
use Rattle.turns.proofs.Grounds.{ours-made}
use Rattle.run.specs.declared.State.{State}
use Rattle.run.specs.Between.{counts_in, moment_of, Bounded, Runs, Dropped, bare, bare_held, store_bare, Untaken}
use Rattle.run.proofs.Fronts.{Here, rest, H, elsewhere}
use Rattle.run.proofs.Nexts.{moment-is, store_is, Z, others-stay}
use Rattle.run.proofs.Values.{pool-same}

-- with the front's stack empty it stands too
module _ (book : Book) (B : FineBook book) (l : e.Limits) where
  pub bare-stands : (x : e.Moment m.Kept) (y : StoreMoment) → StandsFor book B l x y → StandsFor book B l (bare x) (store_bare y)
  unfolding bare store_bare m.from_start
  bare-stands (e.moment ks κ out) (store_moment μ cs κ' out') (stands-for Q ss R) = go ks cs Q.own Q.pool ss R
    where
      go : (ks : List m.Kept) (cs : List m.Held) (own : List ℕ) → Pool μ ks cs own → Sounds book B ks → Room l μ ks κ → StandsFor book B l (bare (e.moment ks κ out)) (store_bare (store_moment μ cs κ out))
      go ks cs own empty ss R = stands-for (record { own = []; pool = empty }) ss R
      go ks cs own (join {k = k} {ks = ks'} {c = c} {cs = cs'} {own = own'} S p a) (s, ss) R =
          stands-for (record { own = S.world.owned ++ own'; pool = join (record { world = S.world; holds = S.holds; helds = record { value = S.helds.value; askers = S.helds.askers; stack = tt } }) p a })
          (record { whole = s.whole; chain = tt }, ss)
          (record { left = R.left; small = R.small })

  -- before a turn
  pub untaken-same : (x : e.Moment m.Kept) (y : StoreMoment) → StandsFor book B l x y → Untaken book B l x y
  untaken-same x y S = record { whole = λ d. S; beside = bare-stands x y S }

-- of entries that stand for one another there is none in both
each_none : (P : ℕ → ℕ → Type 0) (N N' : List ℕ) → Each P N N' → N ≡ [] → N' ≡ []
each_none P [] [] a q = refl
each_none P [] (k ∷ N') a q = absurd a
each_none P (h ∷ N) [] a q = absurd a
each_none P (h ∷ N) (k ∷ N') a q = let z = ap length q in absurd (omega arith)

none_each : (P : ℕ → ℕ → Type 0) (N N' : List ℕ) → Each P N N' → N' ≡ [] → N ≡ []
none_each P [] [] a q = refl
none_each P [] (k ∷ N') a q = absurd a
none_each P (h ∷ N) [] a q = absurd a
none_each P (h ∷ N) (k ∷ N') a q = let z = ap length q in absurd (omega arith)

-- a state whose pool is not empty and whose budget is not used, its front read; its turn did not go on
module _ (l : e.Limits) (n : ℕ) (code : List ℕ) (st : State) (s results : List ℕ) (b : Bounded l n st s results) (some : 1 ≤ st.waiting) (held : Held) (G : RowGot l.nodes n st.head s held)
    (under : st.turns < l.budget) (s₁ : List ℕ) (r : t.Turned) (X : TurnTaken l.nodes (20 * l.pool) code st.made held s s₁ r) (R : Runs l n code st s results) (w : r.what ≢ Went) where
  abbrev h₀ : Here R.book R.fine l R.moment (store_of l.nodes st.made s) (held_in l.nodes s held) (rest l n code st s results b some held G s) (counts_in st) (take st.written results)
  h₀ = H l n code st s results b some held G R

  abbrev cs₀ : List m.Held
  cs₀ = rest l n code st s results b some held G s

  abbrev out₀ : List ℕ
  out₀ = take st.written results

  abbrev μ₁ : Store
  μ₁ = store_of l.nodes st.made s₁

  Z₁ : Stays l.nodes (20 * l.pool) st.made (Ours h₀.stands.world) s s₁
  Z₁ = Z l n code st s results b some held G under s₁ r X R

  -- only free numbers were written
  outside : Elsewhere (λ x. Memᴰ x (h₀.stands.world.owned ++ h₀.own)) (store_of l.nodes st.made s) μ₁
  unfolding store_of
  outside =
      let o = elsewhere l n code st s results b some held G R s₁ Z₁ in
      record { nodes = λ x v. go x (Memᴰ.append_cases h₀.stands.world.owned v); size = o.size; less = o.less; distinct = o.distinct }
    where
      go : (x : ℕ) → Ours h₀.stands.world x ⊎ Memᴰ x h₀.own → node μ₁.nodes x ≡ node (store_of l.nodes st.made s).nodes x
      go x (inl q) = X.rows w x (ours-made l.nodes st.made s h₀.stands x q)
      go x (inr q) = (elsewhere l n code st s results b some held G R s₁ Z₁).nodes x q

  -- so each computation stands as before
  stands₁ : StandsFor R.book R.fine l R.moment (store_moment μ₁ (held_in l.nodes s held ∷ cs₀) (counts_in st) out₀)
  unfolding store_of
  stands₁ = subst (λ (x : e.Moment m.Kept). StandsFor R.book R.fine l x (store_moment μ₁ (held_in l.nodes s held ∷ cs₀) (counts_in st) out₀)) (sym h₀.is)
      (stands-for (record { own = h₀.stands.world.owned ++ h₀.own; pool = pool-frame (join h₀.stands h₀.others h₀.apart) outside }) (h₀.sound, h₀.sounds) (record { left = h₀.room.left; small = h₀.room.small }))

  -- the front's row
  word-is : (j : ℕ) → j < 20 * l.pool → get_or (rest_of l.nodes s₁) j 0 ≡ get_or (rest_of l.nodes s) j 0
  word-is j h = sym (get_or-take {A = ℕ} (20 * l.pool + 2440) (rest_of l.nodes s₁) j 0 (omega arith)) ∙ ap (λ (y : List ℕ). get_or y j 0) Z₁.rest ∙ get_or-take {A = ℕ} (20 * l.pool + 2440) (rest_of l.nodes s) j 0 (omega arith)

  roots-are : roots_at l.nodes s₁ n (20 * st.head) ≡ roots_at l.nodes s n (20 * st.head)
  unfolding roots_at
  roots-are =
      let h = b.head in let a = b.handles in
      let q : take (20 * st.head + n) (rest_of l.nodes s₁) ≡ take (20 * st.head + n) (rest_of l.nodes s)
      = sym (take-take (20 * st.head + n) (20 * l.pool + 2440) (rest_of l.nodes s₁) (omega arith)) ∙ ap (take (20 * st.head + n)) Z₁.rest ∙ take-take (20 * st.head + n) (20 * l.pool + 2440) (rest_of l.nodes s) (omega arith) in
      sym (drop-take (20 * st.head) n (rest_of l.nodes s₁)) ∙ ap (drop (20 * st.head)) q ∙ drop-take (20 * st.head) n (rest_of l.nodes s)

  row-bare : bare_held (row_of l.nodes s₁ n st.head) ≡ bare_held (held_in l.nodes s held)
  unfolding row_of
  row-bare = ap (λ (y : List ℕ). held_by y []) roots-are ∙ ap bare_held (sym G.is)

  row_is : SameLinks (links_of l.nodes s) (links_of l.nodes s₁) (held_in l.nodes s held).stack → row_of l.nodes s₁ n st.head ≡ held_in l.nodes s held
  unfolding row_of stack_of
  row_is k =
      let h = b.head in
      let k' : SameLinks (links_of l.nodes s) (links_of l.nodes s₁) (row_of l.nodes s n st.head).stack = subst (λ (c : m.Held). SameLinks (links_of l.nodes s) (links_of l.nodes s₁) c.stack) G.is k in
      rw (roots-are, word-is (20 * st.head + 9) (omega arith), chain-kept (suc l.nodes) (links_of l.nodes s) (links_of l.nodes s₁) (get_or (rest_of l.nodes s) (20 * st.head + 9) 0) k') (sym G.is)

  -- a stack that is dropped on the store is dropped by the definition
  not-dropped : ¬ (Dropped R.moment) → ¬ (f.Dropped l.nodes held s)
  not-dropped o (some-entry, no_call) = o (subst Dropped (sym h₀.is) (
    λ q. some-entry (each_none (Reps h₀.stands.world h₀.k.comp.graph (store_of l.nodes st.made s).nodes) h₀.k.stack (held_in l.nodes s held).stack h₀.stands.helds.stack q),
    none_each (Reps h₀.stands.world h₀.k.comp.graph (store_of l.nodes st.made s).nodes) (m.settle h₀.k.comp.graph h₀.k.stack) (m.settle (store_of l.nodes st.made s).nodes (held_in l.nodes s held).stack)
        (settle-alike (compile R.book) h₀.stands.world h₀.k.comp.graph (store_of l.nodes st.made s) h₀.stands.holds h₀.k.stack (held_in l.nodes s held).stack h₀.stands.helds.stack)
        (ap (λ (g : Graph). m.settle g (held_in l.nodes s held).stack) (nodes-are l.nodes st.made s) ∙ no_call),
  ))

  -- the moment
  moment₁ : moment_of l n st s₁ results ≡ store_moment μ₁ (row_of l.nodes s₁ n st.head ∷ cs₀) (counts_in st) out₀
  unfolding moment_of
  moment₁ =
      let h = b.head in let v = b.waiting in
      moment-is refl (pool-first l.nodes l.pool n st.head st.waiting s₁ h some v ∙ ap (λ (cs : List m.Held). row_of l.nodes s₁ n st.head ∷ cs) (others-stay l n code st s results b some held G under s₁ r X R)) refl refl

  untaken₁ : Untaken R.book R.fine l R.moment (moment_of l n st s₁ results)
  unfolding store_bare
  untaken₁ = subst (Untaken R.book R.fine l R.moment) (sym moment₁) (record {
    whole = λ o. subst (λ (c : m.Held). StandsFor R.book R.fine l R.moment (store_moment μ₁ (c ∷ cs₀) (counts_in st) out₀)) (sym (row_is (X.stack (not-dropped o)))) stands₁;
    beside = subst (λ (c : m.Held). StandsFor R.book R.fine l (bare R.moment) (store_moment μ₁ (c ∷ cs₀) (counts_in st) out₀)) (sym row-bare) (bare-stands R.book R.fine l R.moment (store_moment μ₁ (held_in l.nodes s held ∷ cs₀) (counts_in st) out₀) stands₁);
  })

  -- and in a memory with the same nodes, links and rest
  pub untaken-turn : (s₂ results₂ : List ℕ) → graph_of l.nodes s₂ ≡ graph_of l.nodes s₁ → links_of l.nodes s₂ ≡ links_of l.nodes s₁ → rest_of l.nodes s₂ ≡ rest_of l.nodes s₁ → results₂ ≡ results
      → Untaken R.book R.fine l R.moment (moment_of l n st s₂ results₂)
  unfolding moment_of
  untaken-turn s₂ results₂ p q u v =
      let h = b.head in let i = b.waiting in let a = b.handles in
      subst (Untaken R.book R.fine l R.moment)
      (sym (moment-is (store_is l.nodes st.made s₂ s₁ p) (pool-same l.nodes l.pool n st.head st.waiting s₁ s₂ a.1 h i u q) refl (ap (take st.written) v)))
      untaken₁
