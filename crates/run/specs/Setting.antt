-- What is there before a question is asked: the book's code and its tables; or nothing was written.
-- Here, in order: the tables ended at a book's counts; room; a book that is set up; code that is too long; the answer.
-- Not here: the tables' words (machine, Tables), how they are filled (compiler, Tables).
-- Assumes nothing.
use Rattle.std.specs.Prelude.{ℕ, ◌*◌, ◌≤◌, ◌<◌, ◌≡◌, List, ◌++◌, length, drop, Result, Ok, Err}
use Rattle.mem.specs.Words.{words}
use Rattle.book.specs.Syntax.{Book, con_arities}
use Rattle.book.specs.Record.{got, fault}
use Rattle.book.specs.Reading.{read_book}
use Rattle.store.specs.Regions.{AllRoom, rest_of}
use Rattle.engine.specs.Compile.{compile}
use Rattle.engine.specs.Run as e
use Rattle.machine.specs.Tables.{Has}
use Rattle.compiler.specs.declared.Refused.{Refused}
use Rattle.compiler.specs.declared.Refused.TheVariants.{TooLong, Fault}
use Rattle.run.specs.Filled.{Ended}

-- the tables end at the counts of the book that the bytes are
pub record EndedAt (b : List ℕ) (L base : ℕ) (s s' : List ℕ) : Type 0 where
  pub is : (book : Book) (end : ℕ) → read_book b ≡ got book end → Ended L base (length book.funcs) (length (con_arities book.types)) s s'

-- room for the tables and for the code
pub record Lends (l : e.Limits) (work code : List ℕ) : Type 0 where
  pub nodes : l.nodes ≤ 16384
  pub pool : l.pool ≤ 1024
  pub most : l.code ≤ 262144
  pub room : AllRoom l.nodes l.pool work
  pub lent : l.code ≤ length code

-- the book's code stands at the start of the code memory, beyond it all is as lent, and the tables are there
pub record SetUp (b : List ℕ) (l : e.Limits) (work work' code code' : List ℕ) (n : ℕ) : Type 0 where
  pub book : Book
  pub end : ℕ
  pub is : read_book b ≡ got book end
  pub long : n ≡ length (compile book).code
  pub fits : n ≤ l.code
  pub coded : code' ≡ (compile book).code ++ drop n code
  pub tables : Has (compile book) (20 * l.pool) (rest_of l.nodes work')
  pub same : length (words work') ≡ length (words work)

-- the code is longer than the room, and not one byte is written
pub record OverRoom (b : List ℕ) (l : e.Limits) (work work' code code' : List ℕ) (n : ℕ) : Type 0 where
  pub book : Book
  pub end : ℕ
  pub is : read_book b ≡ got book end
  pub long : n ≡ length (compile book).code
  pub over : l.code < n
  pub work_stays : work' ≡ work
  pub code_stays : code' ≡ code

-- what setting up answers
unfoldable pub SettingIs : List ℕ → e.Limits → List ℕ → List ℕ → List ℕ → List ℕ → Result ℕ Refused → Type 0
SettingIs b l work work' code code' (Ok n) = SetUp b l work work' code code' n
SettingIs b l work work' code code' (Err (TooLong n)) = OverRoom b l work work' code code' n
SettingIs b l work work' code code' (Err (Fault f)) = read_book b ≡ fault f.sort f.at
