-- A question asked: what is there, and what a run of it gives.
-- Assumes nothing.
use Rattle.std.specs.Prelude.{ℕ, ◌*◌, ◌≤◌, ◌≡◌, List, length, take, drop}
use Rattle.book.specs.Syntax.{Book, Right}
use Rattle.book.specs.Record.{got}
use Rattle.book.specs.Reading.{read_question}
use Rattle.book.specs.Accepted as A
use Rattle.store.specs.Regions.{AllRoom, rest_of}
use Rattle.engine.specs.Compile.{compile}
use Rattle.engine.specs.Machine as m
use Rattle.engine.specs.Run as e
use Rattle.agreement.proofs.Calls.{FineBook}
use Rattle.machine.specs.Tables.{Has}
use Rattle.run.specs.declared.Done.{Done}
use Rattle.run.specs.Given.{answer_is}
use Rattle.run.specs.Between.{counts_in}

-- limits in range, and room in the memories
pub record Roomy (l : e.Limits) (s results : List ℕ) : Type 0 where
  pub nodes : l.nodes ≤ 16384
  pub pool : (1 ≤ l.pool) × (l.pool ≤ 1024)
  pub budget : l.budget ≤ 1000000
  pub most : l.results ≤ 65536
  pub room : AllRoom l.nodes l.pool s
  pub lent : l.results ≤ length results

-- an accepted book, its code and its tables, and an accepted question of it
pub record Asks (l : e.Limits) (code s q : List ℕ) : Type 0 where
  pub book : Book
  pub accepted : A.FineBook book
  pub fine : FineBook book
  pub coded : (compile book).code ≡ code
  pub tables : Has (compile book) (20 * l.pool) (rest_of l.nodes s)
  pub right : Right
  pub end : ℕ
  pub reads : read_question book q ≡ got right end

-- the definition's answer, counts and results; bytes beyond those written are as lent
pub record AskDone (l : e.Limits) (code s q results results' : List ℕ) (r : Done) : Type 0 where
  pub is : (X : Asks l code s q) → e.closed code (e.ask (m.turn (compile X.book)) l m.from_start X.right) ≡ e.outcome (answer_is r.answer) (counts_in r.state) (take r.state.written results') code
  pub behind : drop r.state.written results' ≡ drop r.state.written results
  pub written : r.state.written ≤ l.results
