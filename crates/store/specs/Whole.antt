-- The store as one value, lent bytes and a limit: its regions, and what it becomes.
-- Not here: the regions of bytes and what is written where (Regions).
-- Assumes nothing.
use Rattle.std.specs.Prelude.{ℕ, List, ◌≡◌, length}
use Rattle.heap.specs.Graph.{Graph}
use Rattle.store.specs.declared.whole.Store.{Store}
use Rattle.store.specs.Regions.{Memory, Did, graph_of, arg_words, marks_of, links_of, list_of, places_of, frames_of, rest_of}

-- the regions
abbrev pub graph : Store → Graph
graph st = graph_of st.limit st.bytes.now

abbrev pub arg_row : ℕ → Store → List ℕ
arg_row n st = arg_words n st.bytes.now

abbrev pub marks : Store → List ℕ
marks st = marks_of st.limit st.bytes.now

abbrev pub links : Store → List ℕ
links st = links_of st.limit st.bytes.now

abbrev pub list : Store → List ℕ
list st = list_of st.limit st.bytes.now

abbrev pub places : Store → List ℕ
places st = places_of st.limit st.bytes.now

abbrev pub frames : Store → List ℕ
frames st = frames_of st.limit st.bytes.now

abbrev pub rest : Store → List ℕ
rest st = rest_of st.limit st.bytes.now

-- the limit is the same, and so is the slice that is lent, with as many bytes, whatever these are now
pub record SameLoan (old new : Store) : Type 0 where
  pub limit : new.limit ≡ old.limit
  pub lent : new.bytes.ghost_name ≡ old.bytes.ghost_name
  pub long : length new.bytes.now ≡ length old.bytes.now

-- the memory is what f makes of it, on the same slice with the same limit
pub record Became (old new : Store) (f : Memory → Memory) : Type 0 where
  pub loan : SameLoan old new
  pub did : Did old.limit old.bytes.now new.bytes.now f
