-- What the parts of a run around its turns leave.
-- Here, in order: memory made ready; alternatives that joined the pool; a result's record.
-- Not here: the pool's layout (pool, Ring), the alternatives' (alternatives, Copies), the bytes of a result's terms (heap, Graph).
-- Assumes nothing.
use Rattle.std.specs.Prelude.{ℕ, ◌+◌, ◌*◌, ◌≡◌, Option, OnSome, IfNone, List, ◌∷◌, ◌++◌, length, take, drop}
use Rattle.std.proofs.lemmas.List.Edits.{sets}
use Rattle.mem.specs.Words.{words}
use Rattle.store.specs.Regions.{graph_of, rest_of}
use Rattle.engine.specs.Code.{four}
use Rattle.engine.specs.Run.{result_record}
use Rattle.seek.specs.Walkable.{Clear}
use Rattle.copier.specs.Listed.{Clean}
use Rattle.pool.specs.Ring.{pool_of, RestOnly}
use Rattle.alternatives.specs.Copies.{alts_in}
use Rattle.writer.specs.Walk.{Kept}
use Rattle.writer.specs.Owes.{fits}

-- no node is marked and none has a place; nodes and rest are as before
pub record Fresh (L : ℕ) (s s' : List ℕ) : Type 0 where
  pub clear : Clear L s'
  pub clean : Clean L s'
  pub graph : graph_of L s' ≡ graph_of L s
  pub rest : rest_of L s' ≡ rest_of L s
  pub long : length (words s') ≡ length (words s)

-- the alternatives in the first `count` scratch rows wait behind the others, in order; words past the places stay
pub record Joined (L places n head waiting count : ℕ) (s s' : List ℕ) : Type 0 where
  pub is : pool_of L places n head (waiting + count) s' ≡ pool_of L places n head waiting s ++ alts_in L (20 * places) n count s
  pub only : RestOnly L 0 (20 * places) s s'

-- kind 20 and the turn's number at place k
unfoldable pub headed : List ℕ → ℕ → ℕ → List ℕ
headed l k turn = sets l k (0x20 ∷ four turn)

-- the record of the terms' bytes stands at place `at`, if it fits into the room, and r is where it ends; else nothing is written
pub record ResultPut (L room at turn : ℕ) (terms s s' out out' : List ℕ) (r : Option ℕ) : Type 0 where
  pub end : r ≡ fits room (at + length (result_record turn terms))
  pub written : OnSome r (out' ≡ take at out ++ result_record turn terms ++ drop (at + length (result_record turn terms)) out)
  pub none : IfNone r (out' ≡ out)
  pub kept : Kept L s s'
  pub clean : Clean L s'
