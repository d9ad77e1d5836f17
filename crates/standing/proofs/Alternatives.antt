-- Alternatives within a turn: what code may rely on while it copies the computation once for each term.
-- Here, in order: a split that stands; each copy's part of the store; a split after one copy was laid down; the split that a turn comes to.
-- Assumes nothing.
use Prim.Native.Nat.{ℕ, ◌≤◌}
use mathlib.Core.Path.{◌≡◌, refl, sym, ◌∙◌, subst}
use mathlib.Core.Option.{some}
use mathlib.Core.List.{List, [], ◌∷◌, append-nil, Memᴰ}
use lib.ListN.{length, set}
use Rattle.book.specs.Syntax.{Book, Symbol}
use Rattle.heap.specs.Alike.{Each}
use Rattle.heap.specs.Graph.{Graph, fwd, copy}
use Rattle.heap.specs.Store.{Store, take1}
use Rattle.heap.proofs.Laws.Alike.{Wider, rep-keep, each_keep}
use Rattle.heap.proofs.Laws.Copies.{Whole}
use Rattle.engine.specs.Turn.{forward}
use Rattle.engine.specs.Compile.{compile}
use Rattle.engine.specs.Machine.{Held, Kept, held_of, Stop, parts, Told, stopped, turn_on, own}
use Rattle.agreement.proofs.Fine.{Takes}
use Rattle.agreement.proofs.Calls.{FineBook}
use Rattle.agreement.proofs.Agree.{Sound, Tidy, turns, turn_on-bound}
use Rattle.standing.specs.Shared.{pour}
use Rattle.standing.specs.Stands.{World, Rel, Dom, Ours, Reps, Holds, Stands}
use Rattle.standing.specs.Part.{Part}
use Rattle.standing.proofs.Grows.{Stops, stops-parts}
use Rattle.standing.proofs.Step.{Tolds, same_stop, turn-alike}
use Rattle.standing.proofs.Stands.{Elsewhere, becomes-stands, copy-poured, holds_frame, still, elsewhere}
use Rattle.standing.proofs.Walks.{stands-part}

-- node k of the store is to become each of the terms in turn, for the computation c: so it is in some graph of its own, which then has no cycle
pub record Splits (Fine : Symbol → ℕ → Type 0) (μ : Store) (c : Held) (k : ℕ) (ks : List ℕ) : Type 0 where
  pub world : World
  pub graph : Graph
  pub holds : Holds world graph μ
  pub call : ℕ
  pub value : ℕ
  pub askers : List ℕ
  pub terms : List ℕ
  pub same : Rel world call k
  pub values : Reps world graph μ.nodes value c.value
  pub asked : Each (Reps world graph μ.nodes) askers c.askers
  pub each : Each (Reps world graph μ.nodes) terms ks
  pub whole : (r : ℕ) → Memᴰ r terms → Whole Fine (record { graph = forward graph call r; value = value; askers = askers })

module _ {Fine : Symbol → ℕ → Type 0} (μ : Store) (c : Held) (k r : ℕ) (ks : List ℕ) where
  -- the store as if k were a forward to the first term: the part that the copy walks
  pub splits-part : (S : Splits Fine μ c k (r ∷ ks)) → Part (forward μ.nodes k r) S.world.owned (c.value ∷ c.askers)
  unfolding forward
  splits-part S = go S.terms S.each S.whole
    where
      go : (ts : List ℕ) → Each (Reps S.world S.graph μ.nodes) ts (r ∷ ks) → ((t : ℕ) → Memᴰ t ts → Whole Fine (record { graph = forward S.graph S.call t; value = S.value; askers = S.askers }))
          → Part (forward μ.nodes k r) S.world.owned (c.value ∷ c.askers)
      go [] e W = absurd e
      go (t ∷ ts) (e, es) W =
          let G = (W t (Memᴰ.head refl)).good in
          subst (λ (l : List ℕ). Part (set μ.nodes k (fwd r)) S.world.owned (c.value ∷ l)) (append-nil c.askers)
          (stands-part (becomes-stands {Fine = Fine} S.world S.graph μ S.holds S.call k S.same t r e G (record { value = S.value; askers = S.askers; stack = [] }) (record { value = c.value; askers = c.askers; stack = [] })
          (record { value = S.values; askers = S.asked; stack = tt })) G)

  -- after its copy was laid down the others still are to come
  pub splits-poured : Splits Fine μ c k (r ∷ ks) → (μ' : Store) (d : Held) → pour (copy (record { graph = forward μ.nodes k r; value = c.value; askers = c.askers })) μ ≡ some (μ', d) → Splits Fine μ' c k ks
  unfolding forward
  splits-poured S μ' d q = go S.terms S.each S.whole
    where
      go : (ts : List ℕ) → Each (Reps S.world S.graph μ.nodes) ts (r ∷ ks) → ((t : ℕ) → Memᴰ t ts → Whole Fine (record { graph = forward S.graph S.call t; value = S.value; askers = S.askers })) → Splits Fine μ' c k ks
      go [] e W = absurd e
      go (t ∷ ts) (e, es) W =
          let w = S.world in
          let g = S.graph in
          let Z = copy-poured {Fine = Fine} w g μ S.holds S.call k S.same t r e S.value c.value S.askers c.askers S.values S.asked (W t (Memᴰ.head refl)) μ' d q in
          let E : Elsewhere (Ours w) μ μ' = elsewhere Z.outside (λ x m. S.holds.idle x m) in
          let K : Wider (Rel w) (Rel w) (Dom w) (Dom w) (Ours w) (Ours w) g g μ.nodes μ'.nodes = still w g E in
          record {
            world = w;
            graph = g;
            holds = holds_frame S.holds E;
            call = S.call;
            value = S.value;
            askers = S.askers;
            terms = ts;
            same = S.same;
            values = rep-keep K S.value c.value S.values;
            asked = each_keep K S.askers c.askers S.asked;
            each = each_keep K ts ks es;
            whole = λ x m. W x (Memᴰ.tail m);
          }

-- the split that a turn comes to
pub splits-turn : (book : Book) (B : FineBook book) (k : Kept) → Sound book B k.comp k.stack → (μ : Store) (c : Held) → Stands k.comp.graph (held_of k) μ c → (n : ℕ) → length k.comp.graph ≤ n
    → (h : ℕ) (ks : List ℕ) (μ' : Store) → turn_on (λ μ. μ.nodes) take1 n (compile book) μ c ≡ stopped (parts h ks μ') → Splits (Takes (compile book)) μ' c h ks
splits-turn book B k s μ c S n l h ks μ' e =
    go (turn_on (λ x. x) own n (compile book) g (held_of k)) refl
    (subst (Tolds S.world g μ (turn_on (λ x. x) own n (compile book) g (held_of k))) e (turn-alike (compile book) S.world g μ S.holds n (held_of k) c S.helds))
  where
    g : Graph
    g = k.comp.graph

    tidy : (x : Stop Graph) → turn_on (λ x. x) own n (compile book) g (held_of k) ≡ stopped x → Tidy (Takes (compile book)) k.comp x
    tidy x q = (turns book B g k.comp.value k.comp.askers s.whole k.stack s.chain).1 x (sym (turn_on-bound book B g k.comp.value k.comp.askers s.whole n l k.stack s.chain) ∙ q)

    at-stop : (x : Stop Graph) → Tidy (Takes (compile book)) k.comp x → Stops S.world g μ x (parts h ks μ') → Splits (Takes (compile book)) μ' c h ks
    at-stop x t (stops-parts {h = h₁} {ks = ks₁} {g' = g₁} o r es) = record {
      world = o.world;
      graph = g₁;
      holds = o.holds;
      call = h₁;
      value = k.comp.value;
      askers = k.comp.askers;
      terms = ks₁;
      same = r;
      values = rep-keep o.wider k.comp.value c.value S.helds.value;
      asked = each_keep o.wider k.comp.askers c.askers S.helds.askers;
      each = es;
      whole = t;
    }

    go : (x : Told Graph) → turn_on (λ x. x) own n (compile book) g (held_of k) ≡ x → Tolds S.world g μ x (stopped (parts h ks μ')) → Splits (Takes (compile book)) μ' c h ks
    go x q (same_stop {x = y} z) = at-stop y (tidy y q) z
