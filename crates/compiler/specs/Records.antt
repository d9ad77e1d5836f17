-- The records that a book's syntax stands for, one behind the other, and what code each of them costs.
-- Here, in order: records and their bytes; the records of terms, RIGHTs, trees, functions, types and books; costs.
-- Not here: that an accepted book is these bytes (proofs/Bytes), that the code is so long (proofs/Lengths).
-- Assumes nothing.
use Rattle.std.specs.Prelude.{ℕ, suc, ◌+◌, ◌*◌, List, [], ◌∷◌, ◌++◌, map, true, false, length, eqb}
use Rattle.book.specs.Syntax.{Symbol, con, fun, Term, Terms, app, slot, fresh, done, arg, Right, Tree, Trees, split, rule, norule, stop, child, Func, Book, cons_of}

-- the eleven kinds of record; CON and CALL are the two symbols
pub data Rcd : Type 0 where
  a_type a_cons a_func : ℕ → Rcd
  a_split : ℕ → ℕ → Rcd
  a_rule a_right : ℕ → Rcd
  a_symbol : Symbol → Rcd
  a_slot a_fresh : ℕ → Rcd
  a_none : Rcd

-- a record's bytes
abbrev pub bytes_of : Rcd → List ℕ
bytes_of (a_type c) = 1 ∷ c ∷ []
bytes_of (a_cons a) = 2 ∷ a ∷ []
bytes_of (a_func a) = 3 ∷ a ∷ []
bytes_of (a_split i t) = 4 ∷ i ∷ t ∷ []
bytes_of (a_rule k) = 5 ∷ k ∷ []
bytes_of (a_right v) = 6 ∷ v ∷ []
bytes_of (a_symbol (con c)) = 7 ∷ c ∷ []
bytes_of (a_symbol (fun f)) = 8 ∷ f ∷ []
bytes_of (a_slot i) = 9 ∷ i ∷ []
bytes_of (a_fresh v) = 10 ∷ v ∷ []
bytes_of a_none = 11 ∷ []

-- records one behind the other
abbrev pub bytes : List Rcd → List ℕ
bytes [] = []
bytes (r ∷ rs) = bytes_of r ++ bytes rs

abbrev mutual
  -- a term's records
  pub term_recs : Term → List Rcd
  term_recs (app f ts) = a_symbol f ∷ terms_recs ts
  term_recs (slot i) = a_slot i ∷ []
  term_recs (fresh i) = a_fresh i ∷ []

  -- and those of arguments
  pub terms_recs : Terms → List Rcd
  terms_recs done = []
  terms_recs (arg t ts) = term_recs t ++ terms_recs ts

-- a RIGHT's records
abbrev pub right_recs : Right → List Rcd
right_recs r = a_right r.vars ∷ term_recs r.term

-- those of RIGHTs
abbrev pub rights_recs : List Right → List Rcd
rights_recs [] = []
rights_recs (r ∷ rs) = right_recs r ++ rights_recs rs

abbrev mutual
  -- a tree's records
  pub tree_recs : Tree → List Rcd
  tree_recs (split i t ts) = a_split i t ∷ trees_recs ts
  tree_recs (rule rs) = a_rule (length rs) ∷ rights_recs rs
  tree_recs norule = a_none ∷ []

  -- and those of children
  pub trees_recs : Trees → List Rcd
  trees_recs stop = []
  trees_recs (child t ts) = tree_recs t ++ trees_recs ts

-- the records of functions
abbrev pub funcs_recs : List Func → List Rcd
funcs_recs [] = []
funcs_recs (f ∷ fs) = a_func f.arity ∷ tree_recs f.tree ++ funcs_recs fs

-- the records of types
abbrev pub types_recs : List (List ℕ) → List Rcd
types_recs [] = []
types_recs (cs ∷ ts) = a_type (length cs) ∷ map a_cons cs ++ types_recs ts

-- a book's records
abbrev pub book_recs : Book → List Rcd
book_recs book = types_recs book.types ++ funcs_recs book.funcs

-- the length of a variable's arm: a MAKEANON for each argument and a MAKETERM for each constructor, and NARROW
abbrev pub arm_cost : List ℕ → ℕ
arm_cost [] = 1
arm_cost (a ∷ more) = a + 3 + arm_cost more

-- how many bytes of code a record brings
unfoldable pub cost : List (List ℕ) → Rcd → ℕ
cost types (a_type c) = 0
cost types (a_cons a) = 0
cost types (a_func a) = 0
cost types (a_split i t) = 12 + 5 * suc (length (cons_of types t)) + arm_cost (cons_of types t)
cost types (a_rule k) = elim (eqb k 1) [ true ↦ 2 | false ↦ 1 ]
cost types (a_right v) = 2 * v
cost types (a_symbol f) = 3
cost types (a_slot i) = 11
cost types (a_fresh v) = 2
cost types a_none = 1

-- and records together
abbrev pub costs : List (List ℕ) → List Rcd → ℕ
costs types [] = 0
costs types (r ∷ rs) = cost types r + costs types rs
