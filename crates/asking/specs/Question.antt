-- A question laid down in the memory: what is asked for, what the code does record by record, and what it leaves alone.
--
--   words base + 512 .. of the rest     each function's arity
--   base + 768 ..                       each constructor's arity
--   base + 2696 .. base + 3016          the pending handles, the bottom first: the pre-term stack's words
--
-- Here, in order: room; an accepted question; what stays; pending handles; nodes behind which others are; one record; all of them; the answer.
-- Not here: that the records give the question's term (proofs), the machine's run (machine).
-- Assumes nothing.
use Rattle.std.specs.Prelude.{Option as Maybe, Some, None, IfSome, IfNone, ℕ, zero, suc, ◌+◌, ◌*◌, ◌≤◌, ◌<◌, List, [], ◌∷◌, ◌++◌, map, true, false, ◌≡◌, length, get_or, take, drop, set, replicate, eqb}
use Rattle.std.proofs.Math.Option.{Option, none, some}
use Rattle.book.specs.Syntax.{Symbol, con, fun, Right, arity, Book, con_arities}
use Rattle.book.specs.Record.{got}
use Rattle.book.specs.Reading.{read_question}
use Rattle.book.specs.Accepted.{arity_in}
use Rattle.mem.specs.Words.{words, Only}
use Rattle.heap.specs.Graph.{Graph, cell, var}
use Rattle.heap.specs.Build.{up_from, build, start}
use Rattle.heap.specs.Store.{Store}
use Rattle.store.specs.Regions.{node_bound, graph_of, marks_of, links_of, list_of, places_of, frames_of, rest_of, store_of}
use Rattle.engine.specs.Machine as m
use Rattle.standing.specs.Shared.{pour}
use Rattle.pool.specs.Ring.{held_in}
use Rattle.asking.specs.declared.Walk.{Walk}
use Rattle.asking.specs.declared.Built.{Built}

-- where the pending handles begin and end
abbrev pub terms_at : ℕ
terms_at = 2696

abbrev pub terms_end : ℕ
terms_end = 3016

-- room for L nodes, for the rest up to `base`, and for the tables and registers
abbrev pub Space : ℕ → ℕ → List ℕ → Type 0
Space L base s = (L ≤ node_bound) × (base ≤ 20480) × (16 * L + base + 3016 ≤ length (words s))

-- the words of the rest have the arities of the book's symbols, none above eight
pub record Arities (book : Book) (base : ℕ) (rest : List ℕ) : Type 0 where
  pub funs : (f : ℕ) → f < 256 → get_or rest (base + 512 + f) 0 ≡ get_or (map arity book.funcs) f 0
  pub cons : (c : ℕ) → c < 256 → get_or rest (base + 768 + c) 0 ≡ get_or (con_arities book.types) c 0
  pub small : (y : Symbol) → arity_in (con_arities book.types) (map arity book.funcs) y ≤ 8

-- the bytes q are an accepted question of a book whose arities are in the memory
pub record AskedOf (L base : ℕ) (s q : List ℕ) : Type 0 where
  pub book : Book
  pub right : Right
  pub end : ℕ
  pub reads : read_question book q ≡ got right end
  pub arities : Arities book base (rest_of L s)

-- of the memory only nodes, and the words of the rest from a on and before b, were written
pub record Beside (L a b : ℕ) (s s' : List ℕ) : Type 0 where
  pub marks : marks_of L s' ≡ marks_of L s
  pub links : links_of L s' ≡ links_of L s
  pub list : list_of L s' ≡ list_of L s
  pub places : places_of L s' ≡ places_of L s
  pub frames : frames_of L s' ≡ frames_of L s
  pub rest : Only a b (rest_of L s) (rest_of L s')
  pub long : length (words s') ≡ length (words s)

-- the first k words, the last of them first
unfoldable pub terms_of : ℕ → List ℕ → List ℕ
terms_of zero w = []
terms_of (suc k) w = get_or w k 0 ∷ terms_of k w

-- k pending handles, the last that came first
unfoldable pub pre_terms : ℕ → ℕ → List ℕ → ℕ → List ℕ
pre_terms L base s k = terms_of k (drop (base + terms_at) (rest_of L s))

-- a graph at the first numbers, and behind it what was there
unfoldable pub over : Graph → Graph → Graph
over g nodes = g ++ drop (length g) nodes

-- the first nodes became variables
pub record VarsPut (L vars : ℕ) (s s' : List ℕ) : Type 0 where
  pub graph : graph_of L s' ≡ over (replicate vars var) (graph_of L s)
  pub rest : rest_of L s' ≡ rest_of L s
  pub beside : (a b : ℕ) → Beside L a b s s'

-- how many nodes a record of this kind makes: a FRESH (10) none, a CON (7) or a CALL (8) one
unfoldable pub cell_at : ℕ → ℕ
cell_at kind = elim (eqb kind 10) [ true ↦ 0 | false ↦ 1 ]

-- and n records from place k on
unfoldable pub cells : List ℕ → ℕ → ℕ → ℕ
cells q k zero = 0
cells q k (suc n) = cell_at (get_or q k 0) + cells q (k + 2) n

-- the symbol of a CON or a CALL
unfoldable pub symbol_at : ℕ → ℕ → Symbol
symbol_at kind n = elim (eqb kind 7) [ true ↦ con n | false ↦ fun n ]

-- a symbol's arity, by the tables; and the one of a CON or a CALL
unfoldable pub arity_by : ℕ → List ℕ → Symbol → ℕ
arity_by base rest (con c) = get_or rest (base + 768 + c) 0
arity_by base rest (fun f) = get_or rest (base + 512 + f) 0

unfoldable pub arity_at : ℕ → List ℕ → ℕ → ℕ → ℕ
arity_at base rest kind n = arity_by base rest (symbol_at kind n)

-- the nodes after a record, with the arity a, the number `made` of the next node, and the handles T that are pending
unfoldable pub nodes_after : ℕ → ℕ → ℕ → ℕ → Graph → List ℕ → Graph
nodes_after kind n a made g T = elim (eqb kind 10) [ true ↦ g | false ↦ set g made (cell (symbol_at kind n) (take a T)) ]

-- and the handles that are pending then
unfoldable pub terms_after : ℕ → ℕ → ℕ → ℕ → List ℕ → List ℕ
terms_after kind n a made T = elim (eqb kind 10) [ true ↦ n ∷ T | false ↦ made ∷ drop a T ]

-- there is a node for the record, there are handles for its arguments, and there is a word for one handle more
pub record CanStep (L base made depth kind n : ℕ) (s : List ℕ) : Type 0 where
  pub space : Space L base s
  pub low : made ≤ L
  pub deep : depth < 320
  pub cell : (kind ≡ 10 → ⊥) → (made < L) × (arity_at base (rest_of L s) kind n ≤ 8) × (arity_at base (rest_of L s) kind n ≤ depth)

-- a record was walked over
pub record Stepped (L base made depth kind n : ℕ) (s s' : List ℕ) (r : Walk) : Type 0 where
  pub graph : graph_of L s' ≡ nodes_after kind n (arity_at base (rest_of L s) kind n) made (graph_of L s) (pre_terms L base s depth)
  pub terms : pre_terms L base s' r.depth ≡ terms_after kind n (arity_at base (rest_of L s) kind n) made (pre_terms L base s depth)
  pub count : r.made ≡ made + cell_at kind
  pub beside : Beside L (base + terms_at) (base + terms_end) s s'

-- the term of a RIGHT, built behind the first nodes, which are its variables
abbrev pub term_over : Right → Graph → Graph × ℕ
term_over right g = build right.term [] (up_from 0 right.vars) (take right.vars g)

-- all records were walked over: the term is built, and its node is the one pending handle
pub record WalkDone (L base : ℕ) (right : Right) (s s' : List ℕ) (r : Walk) : Type 0 where
  pub graph : graph_of L s' ≡ over (term_over right (graph_of L s)).0 (graph_of L s)
  pub terms : pre_terms L base s' r.depth ≡ (term_over right (graph_of L s)).1 ∷ []
  pub made : r.made ≡ length (term_over right (graph_of L s)).0
  pub beside : Beside L (base + terms_at) (base + terms_end) s s'

-- the store and the computation, if there was room
unfoldable pub answer_of : ℕ → List ℕ → Maybe Built → Option (Store × m.Held)
answer_of L s (Some b) = some (store_of L b.made s, held_in L s (record { roots = b.roots; top = 0 }))
answer_of L s None = none

-- the question was asked: what the definition lays down, with as many nodes; and where they do not fit nothing is written
pub record Asked (L base : ℕ) {s q : List ℕ} (x : AskedOf L base s q) (s' : List ℕ) (r : Maybe Built) : Type 0 where
  pub is : pour (start x.right) (store_of L 0 s) ≡ answer_of L s' r
  pub made : IfSome r (λ b. b.made ≡ length (start x.right).graph)
  pub count : IfSome r (λ b. b.roots.n ≡ suc x.right.vars)
  pub kept : IfNone r (s' ≡ s)
  pub beside : Beside L (base + terms_at) (base + terms_end) s s'
