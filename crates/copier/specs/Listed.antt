-- The list of nodes seen as it lies in the memory: the list's words are the nodes in order of first sight, and each node's place word is its place + 1.
-- Here, in order: the nodes seen; what stays; handles seen; the nodes under them; the place words set back.
-- Not here: what is written of the nodes seen (Poured).
-- Assumes nothing.
use Rattle.std.specs.Prelude.{ℕ, suc, ◌≤◌, ◌<◌, ◌≡◌, length, get_or, take, set, replicate}
use mathlib.Core.List.{List, [], ◌∷◌, Memᴰ}
use Rattle.std.proofs.Math.Option.{none, some}
use Rattle.mem.specs.Words.{words}
use Rattle.heap.specs.Graph.{Graph, node, follow, args, index_of, sight}
use Rattle.heap.specs.Place.{Distinct}
use Rattle.store.specs.Regions.{graph_of, marks_of, links_of, list_of, places_of, frames_of, rest_of}

-- the first k words of the list
abbrev pub seen_in : ℕ → ℕ → List ℕ → List ℕ
seen_in L k s = take k (list_of L s)

-- no node has a place
abbrev pub Clean : ℕ → List ℕ → Type 0
Clean L s = places_of L s ≡ replicate L 0

-- a node's place word: its place among those seen + 1, or 0
unfoldable pub place_in : List ℕ → ℕ → ℕ
place_in seen k = elim (index_of k seen) [ none ↦ 0 | some i ↦ suc i ]

-- numbers of nodes of the memory
abbrev pub Below : ℕ → List ℕ → Type 0
Below L l = (x : ℕ) → Memᴰ x l → x < L

-- the first k words of the list are different nodes, and the place words are their places
pub record Listed (L k : ℕ) (s : List ℕ) : Type 0 where
  pub fits : k ≤ L
  pub distinct : Distinct (seen_in L k s)
  pub below : Below L (seen_in L k s)
  pub places : (x : ℕ) → x < L → get_or (places_of L s) x 0 ≡ place_in (seen_in L k s) x

-- all but nodes, list and places are as before
pub record Kept (L : ℕ) (s s' : List ℕ) : Type 0 where
  pub marks : marks_of L s' ≡ marks_of L s
  pub links : links_of L s' ≡ links_of L s
  pub frames : frames_of L s' ≡ frames_of L s
  pub rest : rest_of L s' ≡ rest_of L s
  pub long : length (words s') ≡ length (words s)

-- each handle ends at a node of the memory
abbrev pub Ends : ℕ → Graph → List ℕ → Type 0
Ends L g hs = (h : ℕ) → Memᴰ h hs → follow g h < L

-- the list became l, which has k nodes; the graph is as before
pub record Lists (L : ℕ) (s s' : List ℕ) (l : List ℕ) (k : ℕ) : Type 0 where
  pub is : seen_in L k s' ≡ l
  pub listed : Listed L k s'
  pub graph : graph_of L s' ≡ graph_of L s
  pub kept : Kept L s s'

-- the handles seen, behind the k nodes that were
abbrev pub Saw : ℕ → ℕ → List ℕ → List ℕ → List ℕ → ℕ → Type 0
Saw L k hs s s' r = Lists L s s' (sight (graph_of L s) (seen_in L k s) hs) r

-- every node of l has arguments that end at nodes of the memory
abbrev pub Solid : ℕ → Graph → List ℕ → Type 0
Solid L g l = (x : ℕ) → Memᴰ x l → Ends L g (args (node g x))

-- the place words of some nodes set back
unfoldable pub cleared : List ℕ → List ℕ → List ℕ
cleared [] p = p
cleared (x ∷ l) p = cleared l (set p x 0)
