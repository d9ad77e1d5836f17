-- The lent bytes as a memory: nodes, marks, links, list, places, frames, and the rest. L is the node limit; a word has two bytes.
--
--   words 0 .. 10 L        nodes, rows of ten (Rows)
--   10 L .. 11 L           marks: a word a node
--   11 L .. 12 L           links: a word a node, the next node of a stack + 1, 0 at the bottom
--   12 L .. 13 L           list: node numbers
--   13 L .. 14 L           places: a word a node, its place + 1, 0 for none
--   14 L .. 16 L           frames: two words each, a node and its next argument
--   16 L ..                the rest: 20 words a pool place, then tables and registers
--
-- A method that writes says `Became old new (set_mark n v)` (Whole), and in it `Did L s s' (set_mark n v)`: the memory is what set_mark makes of it, and the length stays.
-- Callers take a region's equation by its field: `ap (λ m. m.graph) d.is`; several writes one behind the other by `did_then` (proofs/Writes).
-- Here, in order: room; the regions; the memory and its writes; a stack of frames; the store of the nodes not yet made.
-- Not here: pool, tables and registers, which lie in the rest.
-- Assumes nothing.
use Rattle.std.specs.Prelude.{ℕ, zero, suc, ◌+◌, ◌-◌, ◌*◌, ◌≤◌, List, [], ◌∷◌, map, ◌≡◌, length, get_or, take, drop, set}
use Rattle.mem.specs.Words.{words, rows}
use Rattle.heap.specs.Graph.{Graph, Node}
use Rattle.heap.specs.Build.{up_from}
use Rattle.heap.specs.Store.{Store}
use Rattle.store.specs.Rows.{node_of}

-- the most nodes and the most pool places that there can be, and the words of tables and registers
abbrev pub node_bound : ℕ
node_bound = 32768

abbrev pub pool_bound : ℕ
pool_bound = 1024

abbrev pub table_words : ℕ
table_words = 4096

-- room for L nodes; and for P pool places and the tables too
abbrev pub Room : ℕ → List ℕ → Type 0
Room L s = (L ≤ node_bound) × (16 * L ≤ length (words s))

abbrev pub AllRoom : ℕ → ℕ → List ℕ → Type 0
AllRoom L P s = (L ≤ node_bound) × (P ≤ pool_bound) × (16 * L + 20 * P + table_words ≤ length (words s))

-- the regions
unfoldable pub graph_of : ℕ → List ℕ → Graph
graph_of L s = map node_of (rows 10 L (words s))

-- the argument words of node n's row, whatever the node is
unfoldable pub arg_words : ℕ → List ℕ → List ℕ
arg_words n s = take 8 (drop (10 * n + 2) (words s))

unfoldable pub marks_of : ℕ → List ℕ → List ℕ
marks_of L s = take L (drop (10 * L) (words s))

unfoldable pub links_of : ℕ → List ℕ → List ℕ
links_of L s = take L (drop (11 * L) (words s))

unfoldable pub list_of : ℕ → List ℕ → List ℕ
list_of L s = take L (drop (12 * L) (words s))

unfoldable pub places_of : ℕ → List ℕ → List ℕ
places_of L s = take L (drop (13 * L) (words s))

unfoldable pub frames_of : ℕ → List ℕ → List ℕ
frames_of L s = take (2 * L) (drop (14 * L) (words s))

unfoldable pub rest_of : ℕ → List ℕ → List ℕ
rest_of L s = drop (16 * L) (words s)

-- all of them
pub record Memory : Type 0 where
  pub graph : Graph
  pub marks : List ℕ
  pub links : List ℕ
  pub list : List ℕ
  pub places : List ℕ
  pub frames : List ℕ
  pub rest : List ℕ

abbrev pub memory : ℕ → List ℕ → Memory
memory L s = record { graph = graph_of L s; marks = marks_of L s; links = links_of L s; list = list_of L s; places = places_of L s; frames = frames_of L s; rest = rest_of L s }

-- one region anew
abbrev pub with_graph : Graph → Memory → Memory
with_graph g m = record { graph = g; marks = m.marks; links = m.links; list = m.list; places = m.places; frames = m.frames; rest = m.rest }

abbrev pub with_marks : List ℕ → Memory → Memory
with_marks l m = record { graph = m.graph; marks = l; links = m.links; list = m.list; places = m.places; frames = m.frames; rest = m.rest }

abbrev pub with_links : List ℕ → Memory → Memory
with_links l m = record { graph = m.graph; marks = m.marks; links = l; list = m.list; places = m.places; frames = m.frames; rest = m.rest }

abbrev pub with_list : List ℕ → Memory → Memory
with_list l m = record { graph = m.graph; marks = m.marks; links = m.links; list = l; places = m.places; frames = m.frames; rest = m.rest }

abbrev pub with_places : List ℕ → Memory → Memory
with_places l m = record { graph = m.graph; marks = m.marks; links = m.links; list = m.list; places = l; frames = m.frames; rest = m.rest }

abbrev pub with_frames : List ℕ → Memory → Memory
with_frames l m = record { graph = m.graph; marks = m.marks; links = m.links; list = m.list; places = m.places; frames = l; rest = m.rest }

abbrev pub with_rest : List ℕ → Memory → Memory
with_rest l m = record { graph = m.graph; marks = m.marks; links = m.links; list = m.list; places = m.places; frames = m.frames; rest = l }

-- the writes: one node, or one word, of one region
abbrev pub set_node : ℕ → Node → Memory → Memory
set_node n x m = with_graph (set m.graph n x) m

abbrev pub set_mark : ℕ → ℕ → Memory → Memory
set_mark n v m = with_marks (set m.marks n v) m

abbrev pub set_link : ℕ → ℕ → Memory → Memory
set_link n v m = with_links (set m.links n v) m

abbrev pub set_list : ℕ → ℕ → Memory → Memory
set_list k v m = with_list (set m.list k v) m

abbrev pub set_place : ℕ → ℕ → Memory → Memory
set_place n v m = with_places (set m.places n v) m

abbrev pub set_next : ℕ → ℕ → Memory → Memory
set_next d i m = with_frames (set m.frames (2 * d + 1) i) m

abbrev pub set_frame : ℕ → ℕ → ℕ → Memory → Memory
set_frame d n i m = with_frames (set (set m.frames (2 * d) n) (2 * d + 1) i) m

abbrev pub set_rest : ℕ → ℕ → Memory → Memory
set_rest k v m = with_rest (set m.rest k v) m

-- the bytes s became s': the memory is what f makes of it, and the length stays
pub record Did (L : ℕ) (s s' : List ℕ) (f : Memory → Memory) : Type 0 where
  pub is : memory L s' ≡ f (memory L s)
  pub long : length (words s') ≡ length (words s)

-- a frame of a walk: a node, and the argument that comes next
pub record Frame : Type 0 where
  pub node : ℕ
  pub next : ℕ

-- frame d of the frames' words; the lowest d frames, the top first
abbrev pub frame_at : List ℕ → ℕ → Frame
frame_at l d = record { node = get_or l (2 * d) 0; next = get_or l (2 * d + 1) 0 }

unfoldable pub stack : ℕ → List ℕ → List Frame
stack zero l = []
stack (suc d) l = frame_at l d ∷ stack d l

-- the store of the nodes: those below `made` are made, the others are free
unfoldable pub store_of : ℕ → ℕ → List ℕ → Store
store_of L made s = record { nodes = graph_of L s; free = up_from made (L - made) }
