-- What the machine reads beside the code: the words of its tables; and what the compiler answers.
-- Here, in order: the tables; a constructor's home; parts of the tables noted; the lore surveyed; the answer.
-- Assumes nothing.
use Rattle.std.specs.Prelude.{ℕ, zero, suc, ◌+◌, ◌*◌, ◌≤◌, ◌<◌, List, ◌++◌, map, ◌⊎◌, ◌≡◌, length, get_or, drop, Result, Ok, Err}
use Rattle.std.proofs.Math.Option.{some}
use Rattle.std.proofs.Math.ListN.{get_elem?}
use Rattle.std.proofs.lemmas.List.Edits.{sets}
use Rattle.mem.specs.Words.{words}
use Rattle.book.specs.Syntax.{arity, Book, con_arities, cons_of, first_con}
use Rattle.book.specs.Record.{got, fault}
use Rattle.book.specs.Reading.{read_book}
use Rattle.book.specs.Steps.{types_of, Front}
use Rattle.book.specs.declared.Fault.{Fault}
use Rattle.engine.specs.Compile.{Program, compile}
use Rattle.engine.specs.Machine.{homes}
use Rattle.compiler.specs.Rows.{LoreIs}
use Rattle.compiler.specs.Here.{start_at}
use Rattle.compiler.specs.declared.Lore.{Lore}
use Rattle.compiler.specs.declared.Refused.{Refused}
use Rattle.compiler.specs.declared.Refused.TheVariants as refused

-- Words 0..512 are the starts of functions, low word and high word each; 512..768 their arities; 768..1024 the arities of constructors; 1024..1280 each constructor's type; 1280..1536 its arm there.
pub record Tables (m : Program) (w : List ℕ) : Type 0 where
  pub starts : (f : ℕ) → f < length m.arities → start_at w f ≡ get_or m.starts f 0
  pub funs : (f : ℕ) → f < length m.arities → get_or w (512 + f) 0 ≡ get_or m.arities f 0
  pub cons : (c : ℕ) → c < length (con_arities m.types) → get_or w (768 + c) 0 ≡ get_or (con_arities m.types) c 0
  pub homes : (c : ℕ) → c < length (con_arities m.types) → get_elem? (homes 0 m.types) c ≡ some (get_or w (1024 + c) 0, get_or w (1280 + c) 0)

-- constructor c is number j of type t
pub record HomeOf (types : List (List ℕ)) (c t j : ℕ) : Type 0 where
  pub there : t < length types
  pub below : j < length (cons_of types t)
  pub is : first_con types t + j ≡ c

-- the arities of n functions are noted
pub record FunsNoted (lore : Lore) (w w' : List ℕ) (n : ℕ) : Type 0 where
  pub long : length w' ≡ length w
  pub are : (f : ℕ) → f < n → get_or w' (512 + f) 0 ≡ get_or lore.funcs f 0
  pub same : (i : ℕ) → (i < 512) ⊎ (768 ≤ i) → get_or w' i 0 ≡ get_or w i 0

-- the arities and the homes of n constructors are noted
pub record ConsNoted (s : List ℕ) (lore : Lore) (w w' : List ℕ) (n : ℕ) : Type 0 where
  pub long : length w' ≡ length w
  pub are : (c : ℕ) → c < n → get_or w' (768 + c) 0 ≡ get_or lore.cons c 0
  pub homes : (c : ℕ) → c < n → HomeOf (types_of s) c (get_or w' (1024 + c) 0) (get_or w' (1280 + c) 0)
  pub same : (i : ℕ) → (i < 768) ⊎ (1536 ≤ i) → get_or w' i 0 ≡ get_or w i 0

-- the types of a book stand at its start, with n constructors
pub record ConsKnown (s : List ℕ) (n : ℕ) : Type 0 where
  pub front : Front s (length (types_of s))
  pub cons : length (con_arities (types_of s)) ≡ n
  pub few : length (types_of s) ≤ 64
  pub each : (t : ℕ) → t < length (types_of s) → length (cons_of (types_of s) t) ≤ 32

-- the place after n types, by the lore's counts
unfoldable pub front_at : Lore → ℕ → ℕ
front_at lore zero = 0
front_at lore (suc n) = front_at lore n + (2 * get_or lore.counts n 0 + 2)

-- an accepted book and its lore
pub record BookKnown (s : List ℕ) (lore : Lore) : Type 0 where
  pub book : Book
  pub end : ℕ
  pub is : read_book s ≡ got book end
  pub front : Front s lore.sizes.types
  pub types_are : types_of s ≡ book.types
  pub told : LoreIs book.types (map arity book.funcs) lore
  pub types : length book.types ≡ lore.sizes.types
  pub cons : length (con_arities book.types) ≡ lore.sizes.cons
  pub funs : length book.funcs ≡ lore.sizes.funcs

-- its code is written from the start on, and the tables are filled
pub record BookDone {s : List ℕ} {lore : Lore} (x : BookKnown s lore) (w w' code code' : List ℕ) : Type 0 where
  pub is : code' ≡ sets code 0 (compile x.book).code
  pub tables : Tables (compile x.book) w'
  pub behind : (i : ℕ) → 1536 ≤ i → get_or w' i 0 ≡ get_or w i 0

-- what surveying a book answers
unfoldable pub SurveyIs : List ℕ → Result Lore Fault → Type 0
SurveyIs s (Ok lore) = BookKnown s lore
SurveyIs s (Err f) = read_book s ≡ fault f.sort f.at

-- The book is accepted and its code fits: the code stands at the start of the code memory, the rest as lent, and the tables are as the machine needs them.
pub record DoesFit (s : List ℕ) (room : ℕ) (tables tables' code code' : List ℕ) (n : ℕ) : Type 0 where
  pub book : Book
  pub end : ℕ
  pub is : read_book s ≡ got book end
  pub long : n ≡ length (compile book).code
  pub fits : n ≤ room
  pub stands : code' ≡ (compile book).code ++ drop n code
  pub filled : Tables (compile book) (words tables')
  pub behind : (i : ℕ) → 1536 ≤ i → get_or (words tables') i 0 ≡ get_or (words tables) i 0

-- the book is accepted, its code is longer than the room, and not one byte is written
pub record IsTooLong (s : List ℕ) (room : ℕ) (tables tables' code code' : List ℕ) (n : ℕ) : Type 0 where
  pub book : Book
  pub end : ℕ
  pub is : read_book s ≡ got book end
  pub long : n ≡ length (compile book).code
  pub over : room < n
  pub tables-kept : tables' ≡ tables
  pub code-kept : code' ≡ code

-- what the compiler answers
unfoldable pub CompiledIs : List ℕ → ℕ → List ℕ → List ℕ → List ℕ → List ℕ → Result ℕ Refused → Type 0
CompiledIs s room tables tables' code code' (Ok n) = DoesFit s room tables tables' code code' n
CompiledIs s room tables tables' code code' (Err (refused.TooLong n)) = IsTooLong s room tables tables' code code' n
CompiledIs s room tables tables' code code' (Err (refused.Fault f)) = (read_book s ≡ fault f.sort f.at) × (tables' ≡ tables) × (code' ≡ code)
