-- What stands in the book at a place, with the room for its code: what the compiler's functions are called for, and what they do.
-- Here, in order: a record; a surveyed book; a term; RIGHTs; a tree and children; types; functions.
-- A function is called with such a record (its `requires`), and answers for every such record (its `ensures`).
-- Not here: the tables and the compiler's answer (Tables).
-- Assumes nothing.
use Rattle.std.specs.Prelude.{ℕ, ◌+◌, ◌*◌, ◌≤◌, ◌<◌, List, [], ◌++◌, map, ◌≡◌, length, get_or, drop, true}
use Rattle.std.proofs.lemmas.List.Edits.{sets}
use Rattle.book.specs.Record.{got}
use Rattle.book.specs.Syntax.{Book, arity, Term, Right, Tree, Trees, con_arities, cons_of, first_con}
use Rattle.book.specs.Reading.{Slots, all_fit, read_book}
use Rattle.book.specs.Steps.{types_of, Front}
use Rattle.book.specs.Accepted.{FineTypes, FineTerm, FineRights, FineTree, FineTrees}
use Rattle.engine.specs.Code.{emit, go}
use Rattle.engine.specs.Compile.{Positions, compile, of_rights, of_tree, of_trees, offsets, flat}
use Rattle.compiler.specs.Records.{types_recs, Rcd, a_type, a_cons, a_func, a_split, a_rule, a_right, a_symbol, a_slot, a_fresh, a_none, bytes_of, bytes, term_recs, rights_recs, tree_recs, trees_recs}
use Rattle.compiler.specs.Rows.{Rows, LoreIs, row, load_body}
use Rattle.compiler.specs.declared.Ends.{Ends}
use Rattle.compiler.specs.declared.Lore.{Lore}

-- a record of a type that exists
abbrev pub FineRcd : List (List ℕ) → Rcd → Type 0
FineRcd types (a_type c) = Unit {0}
FineRcd types (a_cons a) = Unit {0}
FineRcd types (a_func a) = Unit {0}
FineRcd types (a_split i t) = t < length types
FineRcd types (a_rule n) = Unit {0}
FineRcd types (a_right v) = Unit {0}
FineRcd types (a_symbol f) = Unit {0}
FineRcd types (a_slot i) = Unit {0}
FineRcd types (a_fresh v) = Unit {0}
FineRcd types a_none = Unit {0}

-- a record stands at place k
pub record RcdHere (s : List ℕ) (lore : Lore) (k : ℕ) : Type 0 where
  pub types : List (List ℕ)
  pub funcs : List ℕ
  pub told : LoreIs types funcs lore
  pub rcd : Rcd
  pub rest : List ℕ
  pub is : drop k s ≡ bytes_of rcd ++ rest
  pub fine : FineRcd types rcd

-- an accepted book and its lore
pub record Surveyed (s : List ℕ) (lore : Lore) : Type 0 where
  pub book : Book
  pub end : ℕ
  pub is : read_book s ≡ got book end
  pub told : LoreIs book.types (map arity book.funcs) lore

-- a term stands at place k
pub record TermHere (s : List ℕ) (lore : Lore) (k : ℕ) : Type 0 where
  pub types : List (List ℕ)
  pub funcs : List ℕ
  pub told : LoreIs types funcs lore
  pub slots : ℕ
  pub vars : ℕ
  pub term : Term
  pub rest : List ℕ
  pub is : drop k s ≡ bytes (term_recs term) ++ rest
  pub fine : FineTerm (con_arities types) funcs slots vars term

-- n RIGHTs stand at place k, and their code has room from o on
pub record RightsHere (s : List ℕ) (lore : Lore) (rows : List ℕ) (k n o : ℕ) (code : List ℕ) : Type 0 where
  pub types : List (List ℕ)
  pub funcs : List ℕ
  pub told : LoreIs types funcs lore
  pub pos : Positions
  pub are : Rows rows pos
  pub rights : List Right
  pub rest : List ℕ
  pub is : drop k s ≡ bytes (rights_recs rights) ++ rest
  pub count : length rights ≡ n
  pub fine : FineRights (con_arities types) funcs (length pos) rights
  pub fits : o + length (emit (of_rights pos rights)) ≤ length code

-- they are passed, and their code is written
pub record RightsDone {s : List ℕ} {lore : Lore} {rows : List ℕ} {k n o : ℕ} {code : List ℕ} (x : RightsHere s lore rows k n o code) (code' : List ℕ) (r : Ends) : Type 0 where
  pub at : r.at ≡ k + length (bytes (rights_recs x.rights))
  pub out : r.out ≡ o + length (emit (of_rights x.pos x.rights))
  pub is : code' ≡ sets code o (emit (of_rights x.pos x.rights))

-- the positions of these slots, as far as they are not split
pub record Match (slots : Slots) (pos : Positions) : Type 0 where
  pub long : length pos ≡ length slots
  pub each : (i : ℕ) → get_or slots i 8 < 8 → length (get_or pos i []) ≡ get_or slots i 8

-- a tree stands at place k, and its code has room from o on
pub record TreeHere (s : List ℕ) (lore : Lore) (rows : List ℕ) (n k o : ℕ) (code : List ℕ) : Type 0 where
  pub types : List (List ℕ)
  pub funcs : List ℕ
  pub told : LoreIs types funcs lore
  pub slots : Slots
  pub pos : Positions
  pub match : Match slots pos
  pub are : Rows rows pos
  pub many : length pos ≡ n
  pub tree : Tree
  pub rest : List ℕ
  pub is : drop k s ≡ bytes (tree_recs tree) ++ rest
  pub fine : FineTree types funcs slots tree
  pub fits : o + length (emit (of_tree types tree pos o)) ≤ length code

pub record TreeDone {s : List ℕ} {lore : Lore} {rows : List ℕ} {n k o : ℕ} {code : List ℕ} (x : TreeHere s lore rows n k o code) (code' : List ℕ) (r : Ends) : Type 0 where
  pub at : r.at ≡ k + length (bytes (tree_recs x.tree))
  pub out : r.out ≡ o + length (emit (of_tree x.types x.tree x.pos o))
  pub is : code' ≡ sets code o (emit (of_tree x.types x.tree x.pos o))

-- Children stand at place k, one for each of the m arities from constructor c on, under a SPLIT of slot i; their code has room from o on and their GOs from g on.
pub record TreesHere (s : List ℕ) (lore : Lore) (rows : List ℕ) (n i c m k g o : ℕ) (code : List ℕ) : Type 0 where
  pub types : List (List ℕ)
  pub funcs : List ℕ
  pub told : LoreIs types funcs lore
  pub slots : Slots
  pub pos : Positions
  pub match : Match slots pos
  pub are : Rows rows pos
  pub many : length pos ≡ n
  pub there : i < n
  pub short : get_or slots i 8 < 8
  pub arities : List ℕ
  pub count : length arities ≡ m
  pub same : (j : ℕ) → j < m → get_or lore.cons (c + j) 0 ≡ get_or arities j 0
  pub low : (j : ℕ) → get_or arities j 0 ≤ 8
  pub cons : c + m ≤ 256
  pub room : all_fit n arities ≡ true
  pub trees : Trees
  pub rest : List ℕ
  pub is : drop k s ≡ bytes (trees_recs trees) ++ rest
  pub fine : FineTrees types funcs slots i trees arities
  pub before : g + 5 * m ≤ o
  pub fits : o + length (emit (flat (of_trees types trees arities pos i o))) ≤ length code

pub record TreesDone {s : List ℕ} {lore : Lore} {rows : List ℕ} {n i c m k g o : ℕ} {code : List ℕ} (x : TreesHere s lore rows n i c m k g o code) (code' : List ℕ) (r : Ends) : Type 0 where
  pub at : r.at ≡ k + length (bytes (trees_recs x.trees))
  pub out : r.out ≡ o + length (emit (flat (of_trees x.types x.trees x.arities x.pos i o)))
  pub is : code' ≡ sets (sets code g (emit (map go (offsets o (of_trees x.types x.trees x.arities x.pos i o))))) o (emit (flat (of_trees x.types x.trees x.arities x.pos i o)))

-- the types of a book, as they stand at its start
pub record TypesKnown (s : List ℕ) (n : ℕ) : Type 0 where
  pub front : Front s (length (types_of s))
  pub many : length (types_of s) ≡ n
  pub fine : FineTypes (types_of s)

-- each type's first constructor and count are noted in the lore; the rest stays
pub record TypesNoted (s : List ℕ) (lore lore' : Lore) (n : ℕ) : Type 0 where
  pub sizes : lore'.sizes ≡ lore.sizes
  pub cons : lore'.cons ≡ lore.cons
  pub funcs : lore'.funcs ≡ lore.funcs
  pub firsts : (t : ℕ) → t < n → get_or lore'.firsts t 0 ≡ first_con (types_of s) t
  pub counts : (t : ℕ) → t < n → get_or lore'.counts t 0 ≡ length (cons_of (types_of s) t)

-- a function's start, by the words of the tables
abbrev pub start_at : List ℕ → ℕ → ℕ
start_at words f = get_or words (2 * f) 0 + 65536 * get_or words (2 * f + 1) 0

-- a function's start is noted; the others' stay, and what is behind them
pub record Started (w w' : List ℕ) (f start : ℕ) : Type 0 where
  pub long : length w' ≡ length w
  pub is : start_at w' f ≡ start
  pub same : (g : ℕ) → (g ≡ f → ⊥) → start_at w' g ≡ start_at w g
  pub behind : (i : ℕ) → 512 ≤ i → get_or w' i 0 ≡ get_or w i 0

-- What the functions' code is written over: the book with its lore, the place of the first FUNC, empty position in row 255, tables, and room for the code.
pub record FuncsHere (s : List ℕ) (lore : Lore) (rows w : List ℕ) (from : ℕ) (code : List ℕ) : Type 0 where
  pub book : Book
  pub end : ℕ
  pub is : read_book s ≡ got book end
  pub told : LoreIs book.types (map arity book.funcs) lore
  pub start : from ≡ length (bytes (types_recs book.types))
  pub long : length rows ≡ 2304
  pub empty : row rows 255 ≡ load_body []
  pub wide : 512 ≤ length w
  pub fits : length (compile book).code ≤ length code
  pub small : length (compile book).code ≤ 262144

-- the code stands at the start of the code room, the rest as lent; and the starts are noted
pub record FuncsDone {s : List ℕ} {lore : Lore} {rows w : List ℕ} {from : ℕ} {code : List ℕ} (x : FuncsHere s lore rows w from code) (w' code' : List ℕ) : Type 0 where
  pub is : code' ≡ sets code 0 (compile x.book).code
  pub long : length w' ≡ length w
  pub starts : (f : ℕ) → f < length x.book.funcs → start_at w' f ≡ get_or (compile x.book).starts f 0
  pub behind : (i : ℕ) → 512 ≤ i → get_or w' i 0 ≡ get_or w i 0
