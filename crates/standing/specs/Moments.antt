-- A moment of a run on the store that stands for a moment of the definition's run.
-- Here, in order: the node limit on the store; moments as they are shown; sound computations; moments, and what comes of them, that stand for one another.
-- Not here: how one computation stands in the store (Stands), and that a step keeps it so (proofs, Moments).
-- Assumes nothing.
use Rattle.std.specs.Prelude.{ℕ, ◌+◌, ◌≤◌, ◌≡◌, List, [], ◌∷◌, map, length}
use Rattle.book.specs.Syntax.{Book}
use Rattle.book.specs.Answers.{Counts}
use Rattle.heap.specs.Graph.{Comp}
use Rattle.heap.specs.Store.{Store}
use Rattle.engine.specs.Machine.{Held, Kept, held_of}
use Rattle.engine.specs.Run.{Limits, Answer, nodes_of, Moment, moment, Next, ends, next}
use Rattle.agreement.proofs.Calls.{FineBook}
use Rattle.agreement.proofs.Agree.{Sound}
use Rattle.standing.specs.Shared.{StoreMoment, store_moment, StoreNext, store_ends, store_next}
use Rattle.standing.specs.Stands.{Queue}
use Rattle.standing.specs.Contract.{shape}

-- no graph is larger than b
abbrev pub Low : ℕ → List Kept → Type 0
Low b [] = Unit
Low b (k ∷ ks) = (length k.comp.graph ≤ b) × Low b ks

-- the node limit on the store: what is left of it is free, and no computation has more nodes than were made (what A4 replaces, with its laws in proofs, Room)
pub record Room (l : Limits) (μ : Store) (ks : List Kept) (κ : Counts) : Type 0 where
  pub left : length μ.free + nodes_of κ ≡ l.nodes
  pub small : Low (nodes_of κ) ks

-- a moment of the definition's run as it is shown: each computation by its copy, stack included, numbers and forwards aside
unfoldable pub shown : Moment Kept → Moment (Comp × ℕ)
shown (moment ks κ out) = moment (map (λ k. shape k.comp.graph (held_of k)) ks) κ out

-- and what comes of it
unfoldable pub shown_next : Next Kept → Next (Comp × ℕ)
shown_next (ends a) = ends a
shown_next (next x) = next (shown x)

-- a moment of the run on the store as it is shown
unfoldable pub store_shown : StoreMoment → Moment (Comp × ℕ)
store_shown (store_moment μ cs κ out) = moment (map (shape μ.nodes) cs) κ out

-- and what comes of it
unfoldable pub store_shown_next : StoreNext → Next (Comp × ℕ)
store_shown_next (store_ends a) = ends a
store_shown_next (store_next y) = next (store_shown y)

module _ (book : Book) (B : FineBook book) where
  -- every computation is as the machine keeps it
  abbrev pub Sounds : List Kept → Type 0
  Sounds [] = Unit
  Sounds (k ∷ ks) = Sound book B k.comp k.stack × Sounds ks

  module _ (l : Limits) where
    -- the same counts and results, the computations standing in the store in the same order
    pub data StandsFor : Moment Kept → StoreMoment → Type 0 where
      stands-for : {μ : Store} {ks : List Kept} {cs : List Held} {κ : Counts} {out : List ℕ} → Queue μ ks cs → Sounds ks → Room l μ ks κ → StandsFor (moment ks κ out) (store_moment μ cs κ out)

    -- the same answer, or moments that stand for one another
    pub data StandsNext : Next Kept → StoreNext → Type 0 where
      both_end : {a : Answer} → StandsNext (ends a) (store_ends a)
      both_go : {x : Moment Kept} {y : StoreMoment} → StandsFor x y → StandsNext (next x) (store_next y)

    -- the same answer, given at moments that stand for one another
    pub data StandsEnd : Answer × Moment Kept → Answer × StoreMoment → Type 0 where
      stands-end : {a : Answer} {x : Moment Kept} {y : StoreMoment} → StandsFor x y → StandsEnd (a, x) (a, y)
