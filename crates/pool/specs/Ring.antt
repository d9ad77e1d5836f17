-- The pool in the rest words: a ring of rows, one for each place, and behind the tables a row for each alternative that waits to be put there.
--
--   words 20 i .. 20 i + 20 of the rest    place i: the value's handle, up to eight askers' handles, the stack's top + 1 (0: empty), ten spare words
--   base + 3016 + 9 i ..                   alternative i, i < 32: the value's handle, the askers'; base is 20 times the number of places
--
-- Here, in order: room; stacks as chains of links; handles in the rest; rows; the ring; what stays; what the functions do.
-- Not here: the tables (compiler), that these are the computations of the definition (standing).
-- Assumes nothing.
use Rattle.std.specs.Prelude.{ℕ, zero, suc, ◌+◌, ◌-◌, ◌*◌, ◌≤◌, true, false, ◌≡◌, length, get_or, take, drop, ltb}
use mathlib.Core.List.{List, [], ◌∷◌, ◌++◌, map, Memᴰ}
use Rattle.mem.specs.Words.{words, Only}
use Rattle.heap.specs.Build.{up_from}
use Rattle.store.specs.Regions.{node_bound, graph_of, marks_of, links_of, list_of, places_of, frames_of, rest_of}
use Rattle.store.specs.Roots.{roots_of}
use Rattle.store.specs.declared.Roots.{Roots}
use Rattle.engine.specs.Machine as m
use Rattle.pool.specs.declared.Held.{Held}

-- the first k words of the rest are there
abbrev pub RestRoom : ℕ → ℕ → List ℕ → Type 0
RestRoom L k s = (L ≤ node_bound) × (k ≤ 32768) × (16 * L + k ≤ length (words s))

-- a computation has a value, and at most eight askers
abbrev pub Sized : Roots → Type 0
Sized r = (1 ≤ r.n) × (r.n ≤ 9)

-- the entries from `top` on along the links, at most n; a link is the next entry + 1, and 0 ends them
unfoldable pub chain : ℕ → List ℕ → ℕ → List ℕ
chain zero l t = []
chain (suc n) l zero = []
chain (suc n) l (suc k) = k ∷ chain n l (get_or l k 0)

-- the stack from a top on: at most as many entries as there are nodes, and one that would be too many
unfoldable pub stack_of : ℕ → List ℕ → ℕ → List ℕ
stack_of L s top = chain (suc L) (links_of L s) top

-- n handles from word k of the rest on
unfoldable pub roots_at : ℕ → List ℕ → ℕ → ℕ → List ℕ
roots_at L s n k = take n (drop k (rest_of L s))

-- a computation by its handles and its stack
abbrev pub held_by : List ℕ → List ℕ → m.Held
held_by l stack = record { value = get_or l 0 0; askers = drop 1 l; stack = stack }

-- the computation that is held
unfoldable pub held_in : ℕ → List ℕ → Held → m.Held
held_in L s h = held_by (roots_of h.roots) (stack_of L s h.top)

-- the computation in row i, with n handles
unfoldable pub row_of : ℕ → List ℕ → ℕ → ℕ → m.Held
row_of L s n i = held_by (roots_at L s n (20 * i)) (stack_of L s (get_or (rest_of L s) (20 * i + 9) 0))

-- the place that is j behind the front
unfoldable pub place_of : ℕ → ℕ → ℕ → ℕ
place_of places head j = elim (ltb (head + j) places) [ true ↦ head + j | false ↦ head + j - places ]

-- the pool: the computations in as many rows as there are waiting, from the front's on, each with n handles
unfoldable pub pool_of : ℕ → ℕ → ℕ → ℕ → ℕ → List ℕ → List m.Held
pool_of L places n head waiting s = map (λ j. row_of L s n (place_of places head j)) (up_from 0 waiting)

-- the word at which the handles of alternative i begin
abbrev pub scratch_at : ℕ → ℕ → ℕ
scratch_at base i = base + 3016 + 9 * i

-- the links agree on some entries
abbrev pub SameLinks : List ℕ → List ℕ → List ℕ → Type 0
SameLinks l l' es = (x : ℕ) → Memᴰ x es → get_or l' x 0 ≡ get_or l x 0

-- of the memory only the words of the rest from a on and before b were written
pub record RestOnly (L a b : ℕ) (s s' : List ℕ) : Type 0 where
  pub graph : graph_of L s' ≡ graph_of L s
  pub marks : marks_of L s' ≡ marks_of L s
  pub links : links_of L s' ≡ links_of L s
  pub list : list_of L s' ≡ list_of L s
  pub places : places_of L s' ≡ places_of L s
  pub frames : frames_of L s' ≡ frames_of L s
  pub rest : Only a b (rest_of L s) (rest_of L s')
  pub long : length (words s') ≡ length (words s)

-- handles that were read, and written
pub record RootsGot (L k n : ℕ) (s : List ℕ) (r : Roots) : Type 0 where
  pub count : r.n ≡ n
  pub is : roots_of r ≡ roots_at L s n k

pub record RootsPut (L k : ℕ) (r : Roots) (s s' : List ℕ) : Type 0 where
  pub is : roots_at L s' r.n k ≡ roots_of r
  pub only : RestOnly L k (k + r.n) s s'

-- a row that was read, and written
pub record RowGot (L n i : ℕ) (s : List ℕ) (h : Held) : Type 0 where
  pub count : h.roots.n ≡ n
  pub is : held_in L s h ≡ row_of L s n i

pub record RowPut (L i : ℕ) (h : Held) (s s' : List ℕ) : Type 0 where
  pub is : row_of L s' h.roots.n i ≡ held_in L s h
  pub only : RestOnly L (20 * i) (20 * i + 10) s s'

-- a computation that was put behind the others; words past the places stay
pub record Pushed (L places n head waiting : ℕ) (h : Held) (s s' : List ℕ) : Type 0 where
  pub is : pool_of L places n head (suc waiting) s' ≡ pool_of L places n head waiting s ++ held_in L s h ∷ []
  pub only : RestOnly L 0 (20 * places) s s'
