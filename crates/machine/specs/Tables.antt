-- What the machine requires of the tables that a program has in the rest of the memory, from word `base` on.
--
--   0 .. 512        each function's start: low word, high word
--   512 .. 768      each function's arity
--   768 .. 1024     each constructor's arity
--   1024 .. 1280    each constructor's type; 65535 where there is no such constructor
--   1280 .. 1536    each constructor's arm
--   2440 .. 2696    the free-variable registers
--   2696 .. 3016    the pre-term stack, its bottom first
--
-- Here, in order: the places; room; a constructor's home; the tables.
-- Not here: who fills them (crate compiler).
-- Assumes nothing.
use Rattle.std.specs.Prelude.{ℕ, ◌+◌, ◌*◌, ◌≤◌, ◌<◌, List, ◌≡◌, length, get_or}
use Rattle.std.proofs.Math.Option.{Option, none, some}
use Rattle.std.proofs.Math.ListN.{get_elem?}
use Rattle.book.specs.Syntax.{Symbol, con_arities}
use Rattle.mem.specs.Words.{words}
use Rattle.store.specs.Regions.{node_bound}
use Rattle.engine.specs.Compile.{Program}
use Rattle.engine.specs.Machine.{homes, arity_of}

-- where the free-variable registers and the pre-term stack begin, and how many there are
abbrev pub vars_at : ℕ
vars_at = 2440

abbrev pub terms_at : ℕ
terms_at = 2696

abbrev pub terms_end : ℕ
terms_end = 3016

abbrev pub var_bound : ℕ
var_bound = 256

abbrev pub term_bound : ℕ
term_bound = 320

-- the longest code
abbrev pub code_bound : ℕ
code_bound = 262144

-- room for L nodes, for the rest up to `base`, and for the tables and registers
abbrev pub Space : ℕ → ℕ → List ℕ → Type 0
Space L base s = (L ≤ node_bound) × (base ≤ 20480) × (16 * L + base + 3016 ≤ length (words s))

-- the words t and j say which type a constructor has, and which place there; 65535 is no type
abbrev pub Home : Option (ℕ × ℕ) → ℕ → ℕ → Type 0
Home none t j = t ≡ 65535
Home (some h) t j = (t ≡ h.0) × (j ≡ h.1)

-- the words of the rest have the program's tables; no arity is above eight
pub record Has (m : Program) (base : ℕ) (rest : List ℕ) : Type 0 where
  pub start : (f : ℕ) → f < 256 → get_or rest (base + 2 * f) 0 + 65536 * get_or rest (base + 2 * f + 1) 0 ≡ get_or m.starts f 0
  pub funs : (f : ℕ) → f < 256 → get_or rest (base + 512 + f) 0 ≡ get_or m.arities f 0
  pub cons : (c : ℕ) → c < 256 → get_or rest (base + 768 + c) 0 ≡ get_or (con_arities m.types) c 0
  pub home : (c : ℕ) → c < 256 → Home (get_elem? (homes 0 m.types) c) (get_or rest (base + 1024 + c) 0) (get_or rest (base + 1280 + c) 0)
  pub small : (y : Symbol) → arity_of m y ≤ 8
