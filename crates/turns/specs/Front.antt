-- What a turn on the store is given, and what it gives.
-- Here, in order: room; a computation of the definition that stands in the store; the front of the pool; what searches leave; the answer as the model gives it; what stays; a stack
-- that is dropped; the turn.
-- Not here: the calls of a turn (Calls), the model (standing, Shared).
-- Assumes nothing.
use Rattle.std.specs.Prelude.{ℕ, ◌+◌, ◌*◌, ◌≤◌, ◌<◌, ◌≡◌, ◌≢◌, List, [], ◌∷◌, length, get_or, take}
use Rattle.mem.specs.Words.{words}
use Rattle.book.specs.Syntax.{Book}
use Rattle.book.specs.Accepted as A
use Rattle.heap.specs.Graph.{node, write_each}
use Rattle.heap.specs.Store.{Store, take1}
use Rattle.engine.specs.Turn.{failed, misfit}
use Rattle.engine.specs.Compile.{compile}
use Rattle.engine.specs.Machine as m
use Rattle.agreement.proofs.Calls.{FineBook}
use Rattle.agreement.proofs.Agree.{Sound}
use Rattle.standing.specs.Shared.{Took, went, split, wrote, ended, lost, none_left, store_turn}
use Rattle.standing.specs.Stands.{Stands, Ours}
use Rattle.store.specs.Regions.{node_bound, graph_of, marks_of, links_of, rest_of, store_of}
use Rattle.machine.specs.Tables.{Has}
use Rattle.copier.specs.Listed.{Clean}
use Rattle.seek.specs.Path.{ClosedIn, ResumesIn, Later}
use Rattle.pool.specs.declared.Held.{Held}
use Rattle.pool.specs.Ring.{held_in, SameLinks}
use Rattle.alternatives.specs.Copies.{alts_in}
use Rattle.turns.specs.declared.What.{What}
use Rattle.turns.specs.declared.What.TheVariants.{Went, Split, Wrote, Failed, Misfit, NoneLeft, Lost}
use Rattle.turns.specs.declared.Turned.{Turned}

-- a computation of the definition, of an accepted book, that stands in the store as what is held
pub record Standing (L made : ℕ) (held : Held) (s : List ℕ) : Type 0 where
  pub book : Book
  pub accepted : A.FineBook book
  pub fine : FineBook book
  pub kept : m.Kept
  pub sound : Sound book fine kept.comp kept.stack
  pub stands : Stands kept.comp.graph (m.held_of kept) (store_of L made s) (held_in L s held)
  pub small : length kept.comp.graph ≤ L

-- room for L nodes, for the rest up to `base`, and for tables, registers and scratch rows
abbrev pub Space : ℕ → ℕ → List ℕ → Type 0
Space L base s = (L ≤ node_bound) × (base ≤ 20480) × (16 * L + base + 4096 ≤ length (words s))

-- its turn up to the step
abbrev pub told_by : {L made : ℕ} {held : Held} {s : List ℕ} → Standing L made held s → m.Told Store
told_by {L} {made} {held} {s} S = m.turn_on (λ (μ : Store). μ.nodes) take1 L (compile S.book) (store_of L made s) (held_in L s held)

-- the front of the pool: it stands, and the book's tables and code are there
pub record Front (L base : ℕ) (code : List ℕ) (made : ℕ) (held : Held) (s : List ℕ) : Type 0 where
  pub standing : Standing L made held s
  pub tables : Has (compile standing.book) base (rest_of L s)
  pub coded : (compile standing.book).code ≡ code

-- the value's handle
abbrev pub value_in : Held → ℕ
value_in held = get_or held.roots.at 0 0

-- what searches leave between turns: the marks of all nodes, and where the search from the value goes on
pub record Searched (L made v : ℕ) (s : List ℕ) : Type 0 where
  pub closed : ClosedIn L made s
  pub resumes : ResumesIn L made s v

-- the handles with a stack's top
abbrev pub with_top : Held → ℕ → Held
with_top h t = record { roots = h.roots; top = t }

-- the answer as the model gives it; s is the memory before the turn, s' after it
unfoldable pub took_of : ℕ → ℕ → Held → List ℕ → List ℕ → Turned → What → Took
took_of L base held s s' r Went = went (store_of L r.made s') (held_in L s' (with_top held r.top))
took_of L base held s s' r (Split n) = split (store_of L r.made s') (alts_in L base held.roots.n n s')
took_of L base held s s' r Wrote = wrote (write_each L (graph_of L s) ((held_in L s held).value ∷ (held_in L s held).askers))
took_of L base held s s' r Failed = ended failed
took_of L base held s s' r Misfit = ended misfit
took_of L base held s s' r NoneLeft = none_left
took_of L base held s s' r Lost = lost

-- what is not the computation's stays: nodes that were made, marks and links, but for its own numbers; the words of the pool and the tables
pub record Stays (L base made : ℕ) (own : ℕ → Type 0) (s s' : List ℕ) : Type 0 where
  pub nodes : (x : ℕ) → x < made → ¬ (own x) → node (graph_of L s') x ≡ node (graph_of L s) x
  pub links : (x : ℕ) → x < made → ¬ (own x) → get_or (links_of L s') x 0 ≡ get_or (links_of L s) x 0
  pub rest : take (base + 2440) (rest_of L s') ≡ take (base + 2440) (rest_of L s)
  pub long : length (words s') ≡ length (words s)
  pub marks : (x : ℕ) → x < made → ¬ (own x) → get_or (marks_of L s') x 0 ≡ get_or (marks_of L s) x 0
  pub clean : Clean L s'

-- the stack has entries, and none is a call any more: the turn drops them all and searches the value, and the search keeps its place in links, which may be theirs
abbrev pub Dropped : ℕ → Held → List ℕ → Type 0
Dropped L held s = ((held_in L s held).stack ≢ []) × (m.settle (graph_of L s) (held_in L s held).stack ≡ [])

-- the turn that was taken; only calls of what was made are changed, and finished nodes stay finished; unless the computation goes on, no node that was made is changed; the
-- stack that was there, unless it is dropped, is still there
pub record TurnTaken (L base : ℕ) (code : List ℕ) (made : ℕ) (held : Held) (s s' : List ℕ) (r : Turned) : Type 0 where
  pub is : (F : Front L base code made held s) → took_of L base held s s' r r.what ≡ store_turn L (compile F.standing.book) (store_of L made s) (held_in L s held)
  pub stays : (F : Front L base code made held s) → Stays L base made (Ours F.standing.stands.world) s s'
  pub more : (made ≤ r.made) × (r.made ≤ L)
  pub still : r.what ≡ Wrote → graph_of L s' ≡ graph_of L s
  pub later : Later made (graph_of L s) made (graph_of L s')
  pub finished : (x : ℕ) → get_or (marks_of L s) x 0 ≡ 2 → get_or (marks_of L s') x 0 ≡ 2
  pub searched : Searched L made (value_in held) s'
  pub rows : r.what ≢ Went → (x : ℕ) → x < made → node (graph_of L s') x ≡ node (graph_of L s) x
  pub stack : ¬ (Dropped L held s) → SameLinks (links_of L s) (links_of L s') (held_in L s held).stack
