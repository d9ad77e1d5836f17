-- The part of the store that code walks for one computation.
-- Here, in order: its roots; the stacks of all; its handles; what code may rely on when it walks them.
-- Not here: that a computation that stands in the store has such a part, and what walks find there (proofs, Walks).
-- Assumes nothing.
use Rattle.std.specs.Prelude.{ℕ, ◌≤◌, ◌<◌, ◌≡◌, length}
use mathlib.Core.List.{List, [], ◌∷◌, ◌++◌, Memᴰ}
use Rattle.book.specs.Syntax.{Symbol}
use Rattle.heap.specs.Graph.{Graph, cell, fwd, node, deref, follow, look, reach}
use Rattle.heap.specs.Place.{Leads, NotFwd}
use Rattle.engine.specs.Machine.{Held}

-- the handles that a computation is read from
abbrev pub roots_of : Held → List ℕ
roots_of c = c.value ∷ (c.askers ++ c.stack)

-- the stacks of computations, one behind the other
abbrev pub stacks_of : List Held → List ℕ
stacks_of [] = []
stacks_of (c ∷ cs) = c.stack ++ stacks_of cs

-- k is a handle of the part: its forwards are numbers of the computation, and they end at a node that is reachable from the roots
pub record Handle (s : Graph) (own roots : List ℕ) (k : ℕ) : Type 0 where
  pub leads : Leads (λ x. Memᴰ x own) s (follow s k) k
  pub reached : Memᴰ (follow s k) (reach s roots)

-- the roots are handles; a handle is a number of the computation and below the store's length; so is where its forward leads, and its arguments; its
-- forwards end at no forward, within as many steps as the store is long; and from a node to its arguments a rank falls that is below the store's length
pub record Part (s : Graph) (own roots : List ℕ) : Type 0 where
  pub rank : ℕ → ℕ
  pub root : (k : ℕ) → Memᴰ k roots → Handle s own roots k
  pub ours : (k : ℕ) → Handle s own roots k → Memᴰ k own
  pub inside : (k : ℕ) → Handle s own roots k → k < length s
  pub along : (k j : ℕ) → Handle s own roots k → node s k ≡ fwd j → Handle s own roots j
  pub ended : (k : ℕ) → Handle s own roots k → Handle s own roots (follow s k)
  pub real : (k : ℕ) → Handle s own roots k → NotFwd (look s k)
  pub enough : (k n : ℕ) → Handle s own roots k → length s ≤ n → deref n s k ≡ follow s k
  pub under : (k : ℕ) (y : Symbol) (hs : List ℕ) → Handle s own roots k → look s k ≡ cell y hs → (j : ℕ) → Memᴰ j hs → Handle s own roots j × (rank j < rank k)
  pub low : (k : ℕ) → Handle s own roots k → rank k < length s
