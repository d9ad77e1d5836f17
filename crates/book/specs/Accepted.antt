-- What an accepted book and an accepted question are like: every rule on what a record may name and on how many there may be, as facts about what was read.
-- Here, in order: symbols; terms; RIGHTs; trees; functions; a book.
-- Not here: that what is read is like this (proofs/Acceptance).
-- Assumes nothing.
use Rattle.std.specs.Prelude.{ℕ, suc, ◌+◌, ◌≤◌, ◌<◌, ◌≡◌, true, List, [], ◌∷◌, map, length, get_or, replicate}
-- (the table, so that its rows are checked before anything that stands on the definitions)
use Rattle.book.specs.Syntax.{Symbol, con, fun, Term, Terms, app, slot, fresh, done, arg, Right, Tree, Trees, split, rule, norule, stop, child, Func, arity, Book, con_arities, cons_of}
use Rattle.book.specs.Reading.{Slots, all_fit, under}

-- the arity of a constructor or of a function
abbrev pub arity_in : List ℕ → List ℕ → Symbol → ℕ
arity_in cons funcs (con c) = get_or cons c 0
arity_in cons funcs (fun f) = get_or funcs f 0

-- a constructor or function that is named must exist
abbrev pub KnownIn : List ℕ → List ℕ → Symbol → Type 0
KnownIn cons funcs (con c) = c < length cons
KnownIn cons funcs (fun f) = f < length funcs

-- how many terms
abbrev pub count : Terms → ℕ
count done = 0
count (arg t ts) = suc (count ts)

abbrev mutual
  -- how many records a term has
  pub records : Term → ℕ
  records (app f ts) = suc (records_of ts)
  records (slot i) = 1
  records (fresh i) = 1

  -- and terms together
  pub records_of : Terms → ℕ
  records_of done = 0
  records_of (arg t ts) = records t + records_of ts

abbrev mutual
  -- every symbol is known and has its arity of terms, a SLOT exists, a FRESH is below its RIGHT's count
  pub FineTerm : List ℕ → List ℕ → ℕ → ℕ → Term → Type 0
  FineTerm cons funcs slots vars (app f ts) = KnownIn cons funcs f × (count ts ≡ arity_in cons funcs f) × FineTerms cons funcs slots vars ts
  FineTerm cons funcs slots vars (slot i) = i < slots
  FineTerm cons funcs slots vars (fresh i) = i < vars

  -- each of the terms
  pub FineTerms : List ℕ → List ℕ → ℕ → ℕ → Terms → Type 0
  FineTerms cons funcs slots vars done = Unit
  FineTerms cons funcs slots vars (arg t ts) = FineTerm cons funcs slots vars t × FineTerms cons funcs slots vars ts

-- a RIGHT has 0..8 fresh variables, and its term at most 255 records
abbrev pub FineRight : List ℕ → List ℕ → ℕ → Right → Type 0
FineRight cons funcs slots r = (r.vars ≤ 8) × FineTerm cons funcs slots r.vars r.term × (records r.term ≤ 255)

-- each of a RULE's RIGHTs
abbrev pub FineRights : List ℕ → List ℕ → ℕ → List Right → Type 0
FineRights cons funcs slots [] = Unit
FineRights cons funcs slots (r ∷ rs) = FineRight cons funcs slots r × FineRights cons funcs slots rs

abbrev mutual
  -- A SPLIT's slot exists, is not split already and has a position shorter than 8, its type exists, and no child has more than 64 slots; a RULE has 1..16 RIGHTs.
  pub FineTree : List (List ℕ) → List ℕ → Slots → Tree → Type 0
  FineTree types funcs slots (split s t ts) =
      (s < length slots) × (get_or slots s 8 < 8) × (t < length types) × FineTrees types funcs slots s ts (cons_of types t) × (all_fit (length slots) (cons_of types t) ≡ true)
  FineTree types funcs slots (rule rs) = (1 ≤ length rs) × (length rs ≤ 16) × FineRights (con_arities types) funcs (length slots) rs
  FineTree types funcs slots norule = Unit

  -- under a SPLIT of slot s, one tree for each constructor of the type, by the constructors' arities
  pub FineTrees : List (List ℕ) → List ℕ → Slots → ℕ → Trees → List ℕ → Type 0
  FineTrees types funcs slots s stop [] = Unit
  FineTrees types funcs slots s stop (a ∷ more) = ⊥
  FineTrees types funcs slots s (child t ts) [] = ⊥
  FineTrees types funcs slots s (child t ts) (a ∷ more) = FineTree types funcs (under slots s a) t × FineTrees types funcs slots s ts more

-- a function's arity is 0..8, and its tree is over its arguments, positions of length 1
abbrev pub FineFunc : List (List ℕ) → List ℕ → Func → Type 0
FineFunc types funcs f = (f.arity ≤ 8) × FineTree types funcs (replicate f.arity 1) f.tree

-- types at most 64, each of 1..32 constructors
pub record FineTypes (types : List (List ℕ)) : Type 0 where
  -- how many types
  pub few : length types ≤ 64
  -- how many constructors each has
  pub each : (t : ℕ) → t < length types → (1 ≤ length (cons_of types t)) × (length (cons_of types t) ≤ 32)
  -- how many constructors altogether
  pub cons : length (con_arities types) ≤ 256
  -- their arities; a constructor that doesn't exist counts as 0 here
  pub arities : (c : ℕ) → get_or (con_arities types) c 0 ≤ 8

-- an accepted book
pub record FineBook (book : Book) : Type 0 where
  -- its types
  pub types : FineTypes book.types
  -- how many functions
  pub few : length book.funcs ≤ 256
  -- each function, whatever get_or is to give beyond the last
  pub funcs : (f : ℕ) (other : Func) → f < length book.funcs → FineFunc book.types (map arity book.funcs) (get_or book.funcs f other)
