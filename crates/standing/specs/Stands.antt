-- How a computation of the definition stands in the store.
-- Here, in order: which number stands for which handle; a graph and its handles in the store; a computation that stands there; the pool; what a turn
-- changes; what a turn on the store is after the turn of the definition.
-- Not here: that it is so (proofs).
-- Assumes nothing.
use Rattle.std.specs.Prelude.{ℕ, ◌+◌, ◌<◌, ◌≡◌, ◌⊎◌, length, get_or}
use Rattle.std.proofs.Math.Option.{Option, none, some}
use mathlib.Core.List.{List, [], ◌∷◌, ◌++◌, Memᴰ}
use Rattle.heap.specs.Graph.{Graph, node}
use Rattle.heap.specs.Store.{Store}
use Rattle.heap.specs.Place.{Distinct}
use Rattle.heap.specs.Alike.{Each, Rep, Alike}
use Rattle.engine.specs.Turn as T
use Rattle.engine.specs.Turn.{Turned, goes, splits, value, Ending}
use Rattle.engine.specs.Machine.{Held, Kept, held_of}
use Rattle.engine.specs.Run.{Limits}
use Rattle.standing.specs.Shared.{Took, went, split, wrote, ended, lost, none_left}

-- for each handle of the graph the number of its node in the store, if it is read there; and the numbers of the store that are the computation's
pub record World : Type 0 where
  pub φ : List (Option ℕ)
  pub owned : List ℕ

-- number k is the node of handle h
abbrev pub Rel : World → ℕ → ℕ → Type 0
Rel w h k = get_or w.φ h none ≡ some k

-- h is a handle
abbrev pub Dom : World → ℕ → Type 0
Dom w h = h < length w.φ

-- k is a number of the computation
abbrev pub Ours : World → ℕ → Type 0
Ours w k = Memᴰ k w.owned

-- number k stands for handle h, forwards aside
abbrev pub Reps : World → Graph → Graph → ℕ → ℕ → Type 0
Reps w g s = Rep (Rel (w)) (Dom (w)) (Ours (w)) g s

-- the store holds the graph, and its free numbers are nobody's
pub record Holds (w : World) (g : Graph) (μ : Store) : Type 0 where
  pub alike : Alike (Rel (w)) (Dom (w)) (Ours (w)) g μ.nodes
  pub sized : length w.φ ≡ length g
  pub in_p : (x : ℕ) → Dom (w) x → x < length g
  pub in_q : (x : ℕ) → Ours (w) x → x < length μ.nodes
  pub fits : (x : ℕ) → Memᴰ x μ.free → x < length μ.nodes
  pub idle : (x : ℕ) → Memᴰ x μ.free → ¬ (Ours (w) x)
  pub distinct : Distinct μ.free

-- the handles of a computation in its own graph and in the store
pub record Helds (w : World) (g s : Graph) (c c' : Held) : Type 0 where
  pub value : Reps w g s c.value c'.value
  pub askers : Each (Reps w g s) c.askers c'.askers
  pub stack : Each (Reps w g s) c.stack c'.stack

-- the computation c with its own graph g stands in the store as c'
pub record Stands (g : Graph) (c : Held) (μ : Store) (c' : Held) : Type 0 where
  pub world : World
  pub holds : Holds world g μ
  pub helds : Helds world g μ.nodes c c'

-- computations that stand in the store, each at numbers of its own
pub data Pool (μ : Store) : List Kept → List Held → List ℕ → Type 0 where
  empty : Pool μ [] [] []
  join : {k : Kept} {ks : List Kept} {c : Held} {cs : List Held} {own : List ℕ} (S : Stands k.comp.graph (held_of k) μ c) → Pool μ ks cs own → ((x : ℕ) → Ours S.world x → ¬ (Memᴰ x own))
      → Pool μ (k ∷ ks) (c ∷ cs) (S.world.owned ++ own)

-- the pool, its numbers aside
pub record Queue (μ : Store) (ks : List Kept) (cs : List Held) : Type 0 where
  pub own : List ℕ
  pub pool : Pool μ ks cs own

-- the pool: each stands, still at numbers of its own, and these are some of those before
pub record PoolIn (μ : Store) (ks : List Kept) (cs : List Held) (before : List ℕ) : Type 0 where
  pub own : List ℕ
  pub pool : Pool μ ks cs own
  pub within : (x : ℕ) → Memᴰ x own → Memᴰ x before

-- a store that a run may begin with: as many free numbers as the node limit, all different, all in it
pub record Ready (l : Limits) (μ : Store) : Type 0 where
  pub room : length μ.free ≡ l.nodes
  pub fits : (x : ℕ) → Memᴰ x μ.free → x < length μ.nodes
  pub distinct : Distinct μ.free

-- only free numbers were written
pub record Outside (μ μ' : Store) : Type 0 where
  pub nodes : (x : ℕ) → ¬ (Memᴰ x μ.free) → node μ'.nodes x ≡ node μ.nodes x
  pub size : length μ'.nodes ≡ length μ.nodes
  pub less : (x : ℕ) → Memᴰ x μ'.free → Memᴰ x μ.free
  pub distinct : Distinct μ'.free

-- only free numbers and the computation's own were written
pub record Touched (Q : ℕ → Type 0) (μ μ' : Store) : Type 0 where
  pub nodes : (x : ℕ) → ¬ (Q x) → ¬ (Memᴰ x μ.free) → node μ'.nodes x ≡ node μ.nodes x
  pub size : length μ'.nodes ≡ length μ.nodes
  pub less : (x : ℕ) → Memᴰ x μ'.free → Memᴰ x μ.free
  pub distinct : Distinct μ'.free

-- the alternatives stand in the store, at numbers that were free; n nodes were made
pub record Spread (n : ℕ) (μ μ' : Store) (ks : List Kept) (cs : List Held) : Type 0 where
  pub own : List ℕ
  pub pool : Pool μ' ks cs own
  pub new : (x : ℕ) → Memᴰ x own → Memᴰ x μ.free
  pub outside : Outside μ μ'
  pub count : n + length μ'.free ≡ length μ.free

-- the turn makes more nodes than there are
abbrev pub Short : ℕ → Turned Kept → Type 0
Short f (goes k n) = f < n
Short f (splits ks n) = f < n
Short f (value b) = ⊥
Short f (T.ended e) = ⊥
Short f T.lost = Unit

-- the turn on the store after the turn of the definition: the computation goes on and stands; its alternatives stand; the same bytes; the same end; or nodes ran out
pub data After (w : World) (μ : Store) : Turned Kept → Took → Type 0 where
  after-goes : {k : Kept} {n : ℕ} {μ' : Store} {c : Held} (S : Stands k.comp.graph (held_of k) μ' c) → ((x : ℕ) → Ours S.world x → Ours (w) x ⊎ Memᴰ x μ.free) → Touched (Ours (w)) μ μ' → n + length μ'.free ≡ length μ.free → After w μ (goes k n) (went μ' c)
  after-splits : {ks : List Kept} {n : ℕ} {μ' : Store} {cs : List Held} → Spread n μ μ' ks cs → After w μ (splits ks n) (split μ' cs)
  after-value : {b : List ℕ} → After w μ (value b) (wrote b)
  after-ended : {e : Ending} → After w μ (T.ended e) (ended e)
  after-lost : After w μ T.lost lost
  after-full : {x : Turned Kept} → Short (length μ.free) x → After w μ x none_left
