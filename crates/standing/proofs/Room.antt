-- The node limit on the store: what is free is what is left of it. Request A4, which takes nodes back, replaces this file and `Room`.
-- Here, in order: sizes of graphs; what a turn makes; a turn's nodes fit; they do not; after a turn; the bound on depth; the first moment.
-- Assumes nothing.
use Prim.Native.Nat.{ℕ, ◌+◌, ◌≤◌, ◌<◌}
use native.Mathlib.Nat.{add-zero}
use native.Mathlib.Omega.{arith}
use mathlib.Core.Path.{◌≡◌, refl, ◌∙◌}
use mathlib.Core.Bool.{Bool, true, false}
use mathlib.Core.List.{List, [], ◌∷◌, ◌++◌, map}
use lib.Dec.{leb, leb→le, nleb→lt}
use lib.ListN.{length, length-set}
use Rattle.book.specs.Answers.{Counts, counts, zeros}
use Rattle.heap.specs.Graph.{Graph, fwd, Comp}
use Rattle.heap.specs.Store.{Store}
use Rattle.engine.specs.Turn.{Turned, goes, splits, value, ended, lost, Ending, failed, misfit, forward, alternatives, sizes}
use Rattle.engine.specs.Compile.{Program}
use Rattle.engine.specs.Machine as Machine
use Rattle.engine.specs.Machine.{Stop, Told, told, stopped, Kept, held_of, own, from_start, with_graph, finish, turn_on, turn_within}
use Rattle.engine.specs.Run.{Limits, ◌⊕◌, tally, nodes_of, fits}
use Rattle.standing.specs.Shared.{made_in}
use Rattle.standing.specs.Stands.{Ready}
use Rattle.standing.specs.Moments.{Low, Room}

low-start : (b : ℕ) (cs : List Comp) → sizes cs ≤ b → Low b (map from_start cs)
unfolding sizes from_start
low-start b [] p = tt
low-start b (c ∷ cs) p = (omega arith, low-start b cs (omega arith))

low-more : (b b' : ℕ) (ks : List Kept) → b ≤ b' → Low b ks → Low b' ks
low-more b b' [] p l = tt
low-more b b' (k ∷ ks) p (l, ls) = (omega arith, low-more b b' ks p ls)

low-append : (b : ℕ) (ks ks' : List Kept) → Low b ks → Low b ks' → Low b (ks ++ ks')
low-append b [] ks' l l' = l'
low-append b (k ∷ ks) ks' (l, ls) l' = (l, low-append b ks ks' ls l')

-- what a turn makes of a graph of size s is no larger than s and what was made
abbrev pub Sized : ℕ → Turned Kept → Type 0
Sized s (goes k n) = Low (s + n) (k ∷ [])
Sized s (splits ks n) = Low (s + n) ks
Sized s (value b) = Unit
Sized s (ended e) = Unit
Sized s lost = Unit

finish-sized : (c : Comp) (x : Stop Graph) → Sized (length c.graph) (finish c x)
unfolding finish with_graph forward Machine.parted
finish-sized c (Machine.demand N g) = tt
finish-sized c (Machine.becomes h r N g) = (rw (length-set g h (fwd r)) (omega arith), tt)
finish-sized c (Machine.parts h ks g) = low-start _ (alternatives (with_graph c g) h ks) (omega arith)
finish-sized c (Machine.fails g) = tt
finish-sized c (Machine.misfits g) = tt
finish-sized c Machine.broken = tt
finish-sized c Machine.full = tt

pub turn-sized : (m : Program) (k : Kept) → Sized (length k.comp.graph) (Machine.turn m k)
unfolding Machine.turn turn_within
turn-sized m k = go (turn_on (λ x. x) own (length k.comp.graph) m k.comp.graph (held_of k)) refl
  where
    go : (x : Told Graph) → turn_on (λ x. x) own (length k.comp.graph) m k.comp.graph (held_of k) ≡ x → Sized (length k.comp.graph) (Machine.turn m k)
    go (told b) e = rw (e, turn_within) tt
    go (stopped x) e = rw (e, turn_within) (finish-sized k.comp x)

nodes-plus : (k : Counts) (a b c d e f g : ℕ) → nodes_of (k ⊕ counts a b c d e f g) ≡ nodes_of k + b
unfolding nodes_of ◌⊕◌
nodes-plus (counts a' b' c' d' e' f' g') a b c d e f g = refl

-- a turn that makes no nodes
pub nodes-still : (k : Counts) (a c d e f g : ℕ) → nodes_of (k ⊕ counts a 0 c d e f g) ≡ nodes_of k
nodes-still k a c d e f g = nodes-plus k a 0 c d e f g ∙ add-zero (nodes_of k)

pub nodes-ended : (k : Counts) (e : Ending) → nodes_of (k ⊕ tally e) ≡ nodes_of k
unfolding tally
nodes-ended k failed = nodes-still k 1 0 0 0 1 0
nodes-ended k misfit = nodes-still k 1 0 0 0 0 1

module _ {l : Limits} {μ : Store} {ks : List Kept} {κ : Counts} (R : Room l μ ks κ) (j : ℕ) where
  -- what was made of the free numbers fits
  pub room_fits : (μ' : Store) → j + length μ'.free ≡ length μ.free → (fits l κ j ≡ true) × (made_in μ μ' ≡ j)
  unfolding fits made_in
  room_fits μ' e = (go (leb (nodes_of κ + j) l.nodes) refl, omega arith)
    where
      go : (b : Bool) → leb (nodes_of κ + j) l.nodes ≡ b → leb (nodes_of κ + j) l.nodes ≡ true
      go true t = t
      go false t = let h = nleb→lt (nodes_of κ + j) l.nodes (rw t tt) in let r = R.left in absurd (omega arith)

  -- more than is free does not
  pub room-short : length μ.free < j → fits l κ j ≡ false
  unfolding fits
  room-short s = go (leb (nodes_of κ + j) l.nodes) refl
    where
      go : (b : Bool) → leb (nodes_of κ + j) l.nodes ≡ b → leb (nodes_of κ + j) l.nodes ≡ false
      go false t = t
      go true t = let h = leb→le (nodes_of κ + j) l.nodes (rw t tt) in let r = R.left in absurd (omega arith)

module _ {l : Limits} {μ : Store} {k : Kept} {ks : List Kept} {κ : Counts} (R : Room l μ (k ∷ ks) κ) where
  -- after a turn that made j nodes, with what it made at the back
  pub room_after : (ks' : List Kept) (j : ℕ) {μ' : Store} → j + length μ'.free ≡ length μ.free → Low (length k.comp.graph + j) ks' → (a c d e f g : ℕ) → Room l μ' (ks ++ ks') (κ ⊕ counts a j c d e f g)
  room_after ks' j e s a c d x f g =
      let n = nodes-plus κ a j c d x f g in
      let r = R.left in
      let i = R.small.0 in
      record {
        left = rw n (omega arith);
        small = rw n (low-append (nodes_of κ + j) ks ks' (low-more (nodes_of κ) (nodes_of κ + j) ks (omega arith) R.small.1) (low-more (length k.comp.graph + j) (nodes_of κ + j) ks' (omega arith) s));
      }

  -- after a turn that ends its computation
  pub room-ended : (κ' : Counts) → nodes_of κ' ≡ nodes_of κ → Room l μ ks κ'
  room-ended κ' e = record { left = rw e R.left; small = rw e R.small.1 }

  -- the node limit bounds how deep terms and demands go
  pub room_bound : length k.comp.graph ≤ l.nodes
  room_bound = let r = R.left in let i = R.small.0 in omega arith

-- before a question is asked
pub room-ready : {l : Limits} {μ : Store} → Ready l μ → Room l μ [] zeros
unfolding nodes_of
room-ready R = record { left = (let r = R.room in omega arith); small = tt }

-- the first moment: the question's nodes taken from a store that has as many free as the limit
pub room-start : {l : Limits} (μ : Store) {μ' : Store} (c : Comp) → length μ.free ≡ l.nodes → length c.graph + length μ'.free ≡ length μ.free → Room l μ' (from_start c ∷ []) (counts 0 (length c.graph) 1 0 0 0 0)
unfolding from_start nodes_of
room-start μ c r e = record { left = omega arith; small = (omega arith, tt) }
