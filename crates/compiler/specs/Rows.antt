-- What the compiler's own tables hold, and the code that it makes of single records.
-- Here, in order: rows of positions; what the lore of a book says; the code of a term's records, last to first; bytes written.
-- Not here: what stands in the book at a place (Here).
-- Assumes nothing.
use Rattle.std.specs.Prelude.{ℕ, zero, suc, ◌+◌, ◌*◌, ◌≤◌, ◌<◌, List, [], ◌∷◌, ◌++◌, true, false, ◌≡◌, ◌⊎◌, length, get_or, take, drop, replicate, eqb, ltb}
use Rattle.std.proofs.lemmas.List.Edits.{sets}
use Rattle.compiler.specs.Records.{arm_cost}
use Rattle.book.specs.Syntax.{con_arities, cons_of, first_con}
use Rattle.book.specs.Accepted.{FineTypes}
use Rattle.engine.specs.Code.{four}
use Rattle.engine.specs.Compile.{Positions}
use Rattle.compiler.specs.declared.Lore.{Lore}

-- a LOAD's body: the position's length and 8 steps, the rest 0
abbrev pub load_body : List ℕ → List ℕ
load_body p = length p ∷ take 8 (p ++ replicate 8 0)

-- row i of nine bytes
unfoldable pub row : List ℕ → ℕ → List ℕ
row rows i = take 9 (drop (9 * i) rows)

-- The rows hold the bodies of the LOADs of these positions. There is a row for every number that a byte can name.
pub record Rows (rows : List ℕ) (pos : Positions) : Type 0 where
  pub long : length rows ≡ 2304
  pub few : length pos ≤ 64
  pub are : (i : ℕ) → i < length pos → row rows i ≡ load_body (get_or pos i [])
  pub short : (i : ℕ) → length (get_or pos i []) ≤ 8

-- The first n rows stay, and row 255, which is the empty position.
pub record Keeps (n : ℕ) (rows rows' : List ℕ) : Type 0 where
  pub long : length rows' ≡ length rows
  pub same : (i : ℕ) → i < n → row rows' i ≡ row rows i
  pub empty : row rows' 255 ≡ row rows 255

-- a row is another position, one step longer; the others stay
pub record Stepped (rows rows' : List ℕ) (slot to step : ℕ) : Type 0 where
  pub long : length rows' ≡ length rows
  pub is : (p : List ℕ) → row rows slot ≡ load_body p → row rows' to ≡ load_body (p ++ step ∷ [])
  pub same : (i : ℕ) → i < 256 → (i ≡ to → ⊥) → row rows' i ≡ row rows i

-- rows n, n + 1, .. are another position, with one step more, from 1 on
pub record Grown (rows rows' : List ℕ) (slot n a : ℕ) : Type 0 where
  pub long : length rows' ≡ length rows
  pub are : (p : List ℕ) → row rows slot ≡ load_body p → (j : ℕ) → j < a → row rows' (n + j) ≡ load_body (p ++ (j + 1) ∷ [])
  pub same : (i : ℕ) → i < 256 → (i < n) ⊎ (n + a ≤ i) → row rows' i ≡ row rows i

-- The lore is that of a book with these types and functions.
pub record LoreIs (types : List (List ℕ)) (funcs : List ℕ) (lore : Lore) : Type 0 where
  pub long : length lore.cons ≡ 256
  pub fine : FineTypes types
  pub con_ars : (c : ℕ) → c < length (con_arities types) → get_or lore.cons c 0 ≡ get_or (con_arities types) c 0
  pub fun_ars : (f : ℕ) → f < length funcs → get_or lore.funcs f 0 ≡ get_or funcs f 0
  pub firsts : (t : ℕ) → t < length types → get_or lore.firsts t 0 ≡ first_con types t
  pub counts : (t : ℕ) → t < length types → get_or lore.counts t 0 ≡ length (cons_of types t)

-- how many terms follow a term's record
unfoldable pub args_at : Lore → ℕ → ℕ → ℕ
args_at lore kind n = elim (eqb kind 7) [ true ↦ get_or lore.cons n 0 | false ↦ elim (eqb kind 8) [ true ↦ get_or lore.funcs n 0 | false ↦ 0 ] ]

-- the code of one record of a term
unfoldable pub num_code : List ℕ → ℕ → ℕ → List ℕ
num_code rows kind n =
    elim (eqb kind 7) [
      | true ↦ 0x38 ∷ 0 ∷ n ∷ []
      | false ↦ elim (eqb kind 8) [
        | true ↦ 0x38 ∷ 1 ∷ n ∷ []
        | false ↦ elim (eqb kind 10) [ true ↦ 0x37 ∷ n ∷ [] | false ↦ (0x30 ∷ row rows n) ++ 0x33 ∷ [] ]
      ]
    ]

-- the code of the n records of two bytes from place k on, the last one's first
unfoldable pub back : List ℕ → List ℕ → ℕ → ℕ → List ℕ
back rows s k zero = []
back rows s k (suc n) = back rows s (k + 2) n ++ num_code rows (get_or s k 0) (get_or s (k + 1) 0)

-- a STOREVAR for each of n variables
unfoldable pub vars_code : ℕ → List ℕ
vars_code zero = []
vars_code (suc n) = vars_code n ++ 0x36 ∷ n ∷ []

-- a variable's arm: an instance for each constructor from number c on
unfoldable pub arm_code : ℕ → List ℕ → List ℕ
arm_code c [] = 0x3A ∷ []
arm_code c (a ∷ more) = replicate a 0x35 ++ 0x38 ∷ 0 ∷ c ∷ arm_code (suc c) more

-- a SPLIT's LOAD, BRANCH and first GO from o on, and its variable's arm behind the other GOs
pub record Fronts (lore : Lore) (rows l l' : List ℕ) (slot ty c m o r : ℕ) : Type 0 where
  pub is : l' ≡ sets (sets l o ((0x30 ∷ row rows slot) ++ 0x31 ∷ ty ∷ 0x32 ∷ four (o + 17 + 5 * m))) (o + 17 + 5 * m) (arm_code c (take m (drop c lore.cons)))
  pub next : r ≡ o + 17 + 5 * m + length (arm_code c (take m (drop c lore.cons)))

-- bytes written from place o on, and the place after them
pub record Emits (l l' : List ℕ) (o r : ℕ) (x : List ℕ) : Type 0 where
  pub is : l' ≡ sets l o x
  pub next : r ≡ o + length x

-- On the way: `ahead` is still to be written of the whole.
pub record Progress (l l' : List ℕ) (o r : ℕ) (ahead whole : List ℕ) : Type 0 where
  pub written : List ℕ
  pub is : l' ≡ sets l o written
  pub next : r ≡ o + length written
  pub all : written ++ ahead ≡ whole

-- how many bytes a record has, by its kind
unfoldable pub width_at : ℕ → ℕ
width_at kind = elim (eqb kind 4) [ true ↦ 3 | false ↦ elim (eqb kind 11) [ true ↦ 1 | false ↦ 2 ] ]

-- the length of the arm of n constructors from number c on
unfoldable pub arm_at : List ℕ → ℕ → ℕ → ℕ
arm_at cons c n = arm_cost (take n (drop c cons))

-- how many bytes of code a SPLIT of a type brings
unfoldable pub split_at : Lore → ℕ → ℕ
split_at lore t = 12 + 5 * (get_or lore.counts t 0 + 1) + arm_at lore.cons (get_or lore.firsts t 0) (get_or lore.counts t 0)

-- how many bytes of code another record brings, by its kind and its first number
unfoldable pub cost_at : ℕ → ℕ → ℕ
cost_at kind n =
    elim (eqb kind 5) [
      | true ↦ elim (eqb n 1) [ true ↦ 2 | false ↦ 1 ]
      | false ↦ elim (eqb kind 6) [
        | true ↦ 2 * n
        | false ↦ elim (eqb kind 9) [ true ↦ 11 | false ↦ elim (eqb kind 10) [ true ↦ 2 | false ↦ elim (eqb kind 11) [ true ↦ 1 | false ↦ elim (ltb kind 7) [ true ↦ 0 | false ↦ 3 ] ] ] ]
      ]
    ]
