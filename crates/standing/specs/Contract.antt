-- What contracts say of the store: numbers and forwards aside, a computation is its copy.
-- Here, in order: a computation's copy with its stack; its place in the store; nodes taken back, with what is reached.
-- Not here: the turn on the store (Shared), and that a turn and a taking back keep what is said here (proofs).
-- Assumes nothing.
use Rattle.std.specs.Prelude.{ℕ, ◌<◌, ◌≡◌, length}
use mathlib.Core.List.{List, [], ◌∷◌, ◌++◌, map, Memᴰ}
use Rattle.heap.specs.Graph.{Graph, Node, cell, var, fwd, node, follow, args, reach, Comp, copy}
use Rattle.heap.specs.Store.{Store}
use Rattle.heap.specs.Place.{Rooted, Distinct}
use Rattle.engine.specs.Machine.{Held}

-- a computation with its stack, numbered by first sight, forwards left out; with how many askers it has
unfoldable pub shape : Graph → Held → Comp × ℕ
shape g c = (copy (record { graph = g; value = c.value; askers = c.askers ++ c.stack }), length c.askers)

-- what the store's part of a computation must be for its copy to say everything: handles lead to nodes of its own, which are not free
pub record Placed (μ : Store) (c : Held) (own : List ℕ) : Type 0 where
  pub rooted : Rooted μ.nodes (λ x. Memᴰ x own) (λ x. Memᴰ x (reach μ.nodes (c.value ∷ (c.askers ++ c.stack)))) (c.value ∷ (c.askers ++ c.stack))
  pub in_q : (x : ℕ) → Memᴰ x own → x < length μ.nodes
  pub fits : (x : ℕ) → Memᴰ x μ.free → x < length μ.nodes
  pub idle : (x : ℕ) → Memᴰ x μ.free → ¬ (Memᴰ x own)
  pub distinct : Distinct μ.free

-- a node with the forwards of its arguments left out
unfoldable pub skipped : Graph → Node → Node
skipped s (cell y hs) = cell y (map (follow s) hs)
skipped s var = var
skipped s (fwd k) = fwd k

-- a computation with the forwards of its handles left out
unfoldable pub skipped_roots : Graph → Held → Held
skipped_roots s c = record { value = follow s c.value; askers = map (follow s) c.askers; stack = map (follow s) c.stack }

-- what taking back does to the store, `live` being what is reached
pub record Collected (live : List ℕ) (μ μ' : Store) : Type 0 where
  pub closed : (k j : ℕ) → Memᴰ k live → Memᴰ j (args (node μ.nodes k)) → Memᴰ (follow μ.nodes j) live
  pub nodes : (k : ℕ) → Memᴰ k live → node μ'.nodes k ≡ skipped μ.nodes (node μ.nodes k)
  pub size : length μ'.nodes ≡ length μ.nodes
  pub fits : (x : ℕ) → Memᴰ x μ'.free → x < length μ'.nodes
  pub idle : (x : ℕ) → Memᴰ x μ'.free → ¬ (Memᴰ x live)
  pub distinct : Distinct μ'.free

-- of all numbers of a list
abbrev pub All : (ℕ → Type 0) → List ℕ → Type 0
All X [] = Unit
All X (x ∷ l) = X x × All X l

-- the computation's handles are among what is reached
pub record Reached (live : List ℕ) (s : Graph) (c : Held) : Type 0 where
  pub value : Memᴰ (follow s c.value) live
  pub askers : All (λ k. Memᴰ (follow s k) live) c.askers
  pub stack : All (λ k. Memᴰ (follow s k) live) c.stack

-- so of all computations
abbrev pub AllReached : List ℕ → Graph → List Held → Type 0
AllReached live s [] = Unit
AllReached live s (c ∷ cs) = Reached live s c × AllReached live s cs
