-- The walk over a term, records in preorder: what is visited, one step of a stack of frames, and what the stack stands on.
-- Here, in order: what a walk may rely on; a visit and a step; what stays.
-- Not here: what the walk owes (Owes), what is written (Written).
-- Assumes nothing.
use Rattle.std.specs.Prelude.{ℕ, suc, ◌+◌, ◌≤◌, ◌≡◌, Bool, true, false, length, get_or, ltb}
use mathlib.Core.List.{List, [], ◌∷◌, Memᴰ}
use Rattle.book.specs.Syntax.{con, fun}
use Rattle.mem.specs.Words.{words}
use Rattle.heap.specs.Graph.{Graph, Node, cell, var, fwd, node, follow, look, args}
use Rattle.store.specs.Regions.{graph_of, marks_of, links_of, list_of, places_of, frames_of, rest_of, Frame, stack}
use Rattle.standing.specs.Part.{Part, Handle}
use Rattle.writer.specs.declared.Met.{Met}
use Rattle.writer.specs.declared.Met.TheVariants.{Made, Free, Nothing}
use Rattle.writer.specs.declared.Turn.{Turn}

-- the handles are read in a part of the graph that has no cycle; and one handle is
pub record Reads (g : Graph) (ks : List ℕ) : Type 0 where
  pub own : List ℕ
  pub all : List ℕ
  pub part : Part g own all
  pub handle : (k : ℕ) → Memᴰ k ks → Handle g own all k

pub record Read (g : Graph) (k : ℕ) : Type 0 where
  pub own : List ℕ
  pub all : List ℕ
  pub part : Part g own all
  pub handle : Handle g own all k

-- each frame is of a node that a handle of H leads to, and there is room above it for all that can come
unfoldable pub IsStood : Graph → (ℕ → Type 0) → (ℕ → ℕ) → List Frame → Type 0
IsStood g H rank [] = Unit {0}
IsStood g H rank (f ∷ fs) = ((h : ℕ) × H h × (f.node ≡ follow g h) × (rank h + suc (length fs) ≤ length g)) × IsStood g H rank fs

pub record Stood (g : Graph) (fs : List Frame) : Type 0 where
  pub own : List ℕ
  pub all : List ℕ
  pub part : Part g own all
  pub high : IsStood g (Handle g own all) part.rank fs

-- what is met at a node, and the frames then
unfoldable pub visit_node : Node → ℕ → List Frame → Met × List Frame
visit_node (cell (con c) hs) n fs = (Made (record { 0 = c }), record { node = n; next = 0 } ∷ fs)
visit_node (cell (fun f) hs) n fs = (Nothing, fs)
visit_node var n fs = (Free (record { 0 = n }), fs)
visit_node (fwd k) n fs = (Nothing, fs)

unfoldable pub visited : Graph → ℕ → List Frame → Met × List Frame
visited g h fs = visit_node (look g h) (follow g h) fs

unfoldable pub pick : {A : Type 0} → Bool → A → A → A
pick true a b = a
pick false a b = b

-- one step: the top frame's next argument is visited, or the frame is done
unfoldable pub stepped : Graph → List Frame → Met × List Frame
stepped g [] = (Nothing, [])
stepped g (f ∷ fs) =
    pick (ltb f.next (length (args (node g f.node))))
    (visited g (get_or (args (node g f.node)) f.next 0) (record { node = f.node; next = f.next + 1 } ∷ fs))
    (Nothing, fs)

-- the bytes of what is met
abbrev pub weigh : Met → ℕ
weigh (Made c) = 2
weigh (Free n) = 3
weigh Nothing = 0

-- all but list, places and frames stays; and all but the frames
pub record Kept (L : ℕ) (s s' : List ℕ) : Type 0 where
  pub graph : graph_of L s' ≡ graph_of L s
  pub marks : marks_of L s' ≡ marks_of L s
  pub links : links_of L s' ≡ links_of L s
  pub rest : rest_of L s' ≡ rest_of L s
  pub long : length (words s') ≡ length (words s)

pub record Framed (L : ℕ) (s s' : List ℕ) : Type 0 where
  pub kept : Kept L s s'
  pub list : list_of L s' ≡ list_of L s
  pub places : places_of L s' ≡ places_of L s

-- what a visit or a step gave is x, and the frames with it; only frames changed
pub record Turned (L : ℕ) (s s' : List ℕ) (t : Turn) (x : Met × List Frame) : Type 0 where
  pub met : t.met ≡ x.0
  pub stack : stack t.depth (frames_of L s') ≡ x.1
  pub framed : Framed L s s'
