-- Nodes taken back: forwards skipped, the numbers that nobody reaches free. All computations stand as before.
-- Assumes nothing.
use Prim.Native.Nat.{ℕ, zero, suc}
use native.Mathlib.Omega.{arith}
use mathlib.Core.Path.{◌≡◌, refl, sym, ◌∙◌, subst}
use mathlib.Core.Logic.{◌⊎◌, inl, inr}
use mathlib.Core.Option.{Option, none, some}
use mathlib.Core.List.Memᴰ
use mathlib.Core.List.{List, [], ◌∷◌, ◌++◌, map, Memᴰ}
use lib.ListN.{get_or, length-map}
use Rattle.standing.specs.Stands.{Stands, Pool, empty, join, World, Rel, Dom, Ours, Reps, PoolIn}
use Rattle.heap.specs.Alike.{Each, Rep, Mirror, Alike}
use Rattle.heap.specs.Place.{here, NotFwd}
use Rattle.heap.specs.Graph.{Graph, Node, cell, var, fwd, node, follow, args, index_of}
use Rattle.heap.proofs.Laws.Alike.{Wider, alike_same, rep-keep, each_keep, leads-follow, reals}
use Rattle.heap.proofs.Laws.Shape.{index_of-none}
use Rattle.heap.proofs.Laws.Reach.{index_of-mem, index_of-some}
use Rattle.engine.specs.Machine.{Kept, Held}
use Rattle.heap.specs.Store.{Store}
use Rattle.standing.specs.Contract.{skipped, skipped_roots, Collected, All, Reached, AllReached}

-- what is left of a computation's numbers
unfoldable pub stay : List ℕ → Option ℕ → Option ℕ
stay live none = none
stay live (some k) = elim (index_of k live) [ some i ↦ some k | none ↦ none ]

unfoldable pub in_both : List ℕ → List ℕ → List ℕ
in_both [] live = []
in_both (x ∷ l) live = elim (index_of x live) [ some i ↦ x ∷ in_both l live | none ↦ in_both l live ]

module _ (live : List ℕ) where
  stays : (l : List (Option ℕ)) (h : ℕ) → get_or (map (stay live) l) h none ≡ stay live (get_or l h none)
  unfolding stay
  stays [] h = refl
  stays (o ∷ l) zero = refl
  stays (o ∷ l) (suc h) = stays l h

  stay-to : (o : Option ℕ) (k : ℕ) → o ≡ some k → Memᴰ k live → stay live o ≡ some k
  unfolding stay
  stay-to o k e m = rw (e, (index_of-mem k live m).1, stay)

  stay-from : (o : Option ℕ) (k : ℕ) → stay live o ≡ some k → (o ≡ some k) × Memᴰ k live
  unfolding stay
  stay-from none k e = let z : ◌≡◌ {A = ℕ} 0 1 = cc in absurd (omega arith)
  stay-from (some x) k e = go (index_of x live) refl
    where
      go : (u : Option ℕ) → index_of x live ≡ u → (some x ≡ some k) × Memᴰ k live
      go none q = let y : ◌≡◌ {A = Option ℕ} none (some k) = rw (q, stay) at e in let z : ◌≡◌ {A = ℕ} 0 1 = cc in absurd (omega arith)
      go (some i) q = let y : some x ≡ some k = rw (q, stay) at e in let v : x ≡ k = cc in (y, subst (λ (z : ℕ). Memᴰ z live) v (index_of-some x live i q))

both_to : (l live : List ℕ) (x : ℕ) → Memᴰ x l → Memᴰ x live → Memᴰ x (in_both l live)
unfolding in_both
both_to [] live x m n = m
both_to (y ∷ l) live x m n = go (λ m. both_to l live x m n) (index_of y live) refl (Memᴰ.cases_cons m)
  where
    go : (Memᴰ x l → Memᴰ x (in_both l live)) → (o : Option ℕ) → index_of y live ≡ o → (x ≡ y) ⊎ Memᴰ x l → Memᴰ x (in_both (y ∷ l) live)
    go ih (some i) q (inl e) = rw (q, in_both) (Memᴰ.head e)
    go ih (some i) q (inr w) = rw (q, in_both) (Memᴰ.tail (ih w))
    go ih none q (inl e) = absurd (index_of-none y live q x n e)
    go ih none q (inr w) = rw (q, in_both) (ih w)

both-from : (l live : List ℕ) (x : ℕ) → Memᴰ x (in_both l live) → Memᴰ x l × Memᴰ x live
unfolding in_both
both-from [] live x m = absurd (Memᴰ.not-nil m)
both-from (y ∷ l) live x m = go (both-from l live x) (index_of y live) refl
  where
    later : Memᴰ x l × Memᴰ x live → Memᴰ x (y ∷ l) × Memᴰ x live
    later (a, b) = (Memᴰ.tail a, b)

    go : (Memᴰ x (in_both l live) → Memᴰ x l × Memᴰ x live) → (o : Option ℕ) → index_of y live ≡ o → Memᴰ x (y ∷ l) × Memᴰ x live
    go ih none q = later (ih (rw (q, in_both) at m))
    go ih (some i) q = cases (Memᴰ.cases_cons (rw (q, in_both) at m))
      where
        cases : (x ≡ y) ⊎ Memᴰ x (in_both l live) → Memᴰ x (y ∷ l) × Memᴰ x live
        cases (inl e) = (Memᴰ.head e, subst (λ (z : ℕ). Memᴰ z live) (sym e) (index_of-some y live i q))
        cases (inr w) = later (ih w)

module _ {live : List ℕ} {μ μ' : Store} (C : Collected live μ μ') {g : Graph} {c c' : Held} (S : Stands g c μ c') (L : Reached live μ.nodes c') where
  abbrev w : World
  w = S.world

  abbrev s : Graph
  s = μ.nodes

  abbrev s' : Graph
  s' = μ'.nodes

  abbrev R' : ℕ → ℕ → Type 0
  R' h k = Rel w h k × Memᴰ k live

  abbrev Q' : ℕ → Type 0
  Q' k = Ours w k × Memᴰ k live

  abbrev pub w' : World
  w' = record { φ = map (stay live) w.φ; owned = in_both w.owned live }

  to : (h k : ℕ) → R' h k → Rel w' h k
  to h k (r, m) = stays live w.φ h ∙ stay-to live (get_or w.φ h none) k r m

  from : (h k : ℕ) → Rel w' h k → R' h k
  from h k r = stay-from live (get_or w.φ h none) k (sym (stays live w.φ h) ∙ r)

  to_p : (x : ℕ) → Dom w x → Dom w' x
  to_p x p = rw (length-map w.φ (stay live)) p

  to_q : (x : ℕ) → Q' x → Ours w' x
  to_q x (q, m) = both_to w.owned live x q m

  skipped-real : (x : Node) → NotFwd x → NotFwd (skipped s x)
  unfolding skipped
  skipped-real (cell y hs) r = tt
  skipped-real var r = tt
  skipped-real (fwd k) r = absurd r

  rep-skip : (h k : ℕ) → Reps w g s h k → Memᴰ (follow s k) live → Rep R' (Dom w) Q' g s' h (follow s k)
  rep-skip h k r l =
      let e : follow s k ≡ r.to = leads-follow (Ours (w)) s r.to r.right in
      let q : Rel (w) r.from (follow s k) = rw e r.same in
      let b = reals (Rel (w)) (Dom (w)) (Ours (w)) g s (node g r.from) (node s (follow s k)) (S.holds.alike.mirror r.from (follow s k) q) in
      record {
        from = r.from;
        to = follow s k;
        left = r.left;
        same = (q, l);
        right = here (S.holds.alike.right r.from (follow s k) q, l) refl (rw (C.nodes (follow s k) l) (skipped-real (node s (follow s k)) b.1));
      }

  each-skip : (hs ks : List ℕ) → Each (Reps w g s) hs ks → All (λ k. Memᴰ (follow s k) live) ks → Each (Rep R' (Dom w) Q' g s') hs (map (follow s) ks)
  each-skip [] [] e l = tt
  each-skip [] (k ∷ ks) e l = absurd e
  each-skip (h ∷ hs) [] e l = absurd e
  each-skip (h ∷ hs) (k ∷ ks) (e, es) (l, ls) = (rep-skip h k e l, each-skip hs ks es ls)

  all_of : (ks : List ℕ) → ((j : ℕ) → Memᴰ j ks → Memᴰ (follow s j) live) → All (λ k. Memᴰ (follow s k) live) ks
  all_of [] f = tt
  all_of (k ∷ ks) f = (f k (Memᴰ.head refl), all_of ks (λ j m. f j (Memᴰ.tail m)))

  mirror-skip : (x y : Node) → ((j : ℕ) → Memᴰ j (args y) → Memᴰ (follow s j) live) → Mirror (Rel (w)) (Dom (w)) (Ours (w)) g s x y → Mirror R' (Dom w) Q' g s' x (skipped s y)
  unfolding skipped args
  mirror-skip (cell y hs) (cell z ks) f (a, e) = (a, each-skip hs ks e (all_of ks f))
  mirror-skip (cell y hs) var f m = absurd m
  mirror-skip (cell y hs) (fwd j) f m = absurd m
  mirror-skip var (cell z ks) f m = absurd m
  mirror-skip var var f m = tt
  mirror-skip var (fwd j) f m = absurd m
  mirror-skip (fwd j) y f m = absurd m

  again : Wider R' (Rel w') (Dom w) (Dom w') Q' (Ours w') g g s' s'
  again = record { same = to; left = to_p; right = to_q; left-node = λ x p. refl; right-node = λ x q. refl }

  still_alike : Alike R' (Dom w) Q' g s'
  still_alike = record {
    left = λ h k r. S.holds.alike.left h k r.0;
    right = λ h k r. (S.holds.alike.right h k r.0, r.1);
    to_one = λ h k k' r q. S.holds.alike.to_one h k k' r.0 q.0;
    of_one = λ h h' k r q. S.holds.alike.of_one h h' k r.0 q.0;
    mirror = λ h k r. rw (C.nodes k r.1) (mirror-skip (node g h) (node s k) (λ j m. C.closed k j r.1 m) (S.holds.alike.mirror h k r.0));
  }

  pub collect-stands : Stands g c μ' (skipped_roots s c')
  unfolding skipped_roots
  collect-stands = record {
    world = w';
    holds = record {
      alike = alike_same still_alike to from to_p to_q;
      sized = length-map w.φ (stay live) ∙ S.holds.sized;
      in_p = λ x p. S.holds.in_p x (rw (length-map w.φ (stay live)) at p);
      in_q = λ x q. rw C.size (S.holds.in_q x (both-from w.owned live x q).0);
      fits = C.fits;
      idle = λ x m q. C.idle x m (both-from w.owned live x q).1;
      distinct = C.distinct;
    };
    helds = record {
      value = rep-keep again c.value (follow s c'.value) (rep-skip c.value c'.value S.helds.value L.value);
      askers = each_keep again c.askers (map (follow s) c'.askers) (each-skip c.askers c'.askers S.helds.askers L.askers);
      stack = each_keep again c.stack (map (follow s) c'.stack) (each-skip c.stack c'.stack S.helds.stack L.stack);
    };
  }

pub collect-pool : {live : List ℕ} {μ μ' : Store} → Collected live μ μ' → {ks : List Kept} {cs : List Held} {before : List ℕ} → Pool μ ks cs before → AllReached live μ.nodes cs → PoolIn μ' ks (map (skipped_roots μ.nodes) cs) before
unfolding skipped_roots collect-stands
collect-pool C empty L = record { own = []; pool = empty; within = λ x o. o }
collect-pool {live} {μ} {μ'} C (join {k = k} {c = c} {own = before} S p a) (l, ls) = go (collect-pool C p ls)
  where
    go : {ks : List Kept} {cs : List Held} → PoolIn μ' ks cs before → PoolIn μ' (k ∷ ks) (skipped_roots μ.nodes c ∷ cs) (S.world.owned ++ before)
    go I = record {
      own = in_both S.world.owned live ++ I.own;
      pool = join (collect-stands C S l) I.pool (λ x q o. a x (both-from S.world.owned live x q).0 (I.within x o));
      within = λ x m. within' x (Memᴰ.append_cases (in_both S.world.owned live) m);
    }
      where
        within' : (x : ℕ) → Memᴰ x (in_both S.world.owned live) ⊎ Memᴰ x I.own → Memᴰ x (S.world.owned ++ before)
        within' x (inl q) = Memᴰ.append_left before (both-from S.world.owned live x q).0
        within' x (inr o) = Memᴰ.append_right S.world.owned (I.within x o)
