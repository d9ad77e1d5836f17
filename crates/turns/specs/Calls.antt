-- The stack within a turn, and what is promised of the calls that are walked.
-- Here, in order: a stack that climbs; the calls; links and marks that stay; what becomes a forward; what the calls come to; the stack at the turn's begin; where a turn begins.
-- Not here: the turn (Front).
-- Assumes nothing.
use Rattle.std.specs.Prelude.{ℕ, ◌≤◌, ◌<◌, ◌≡◌, ◌⊎◌, length, get_or, Option, Some, None, MatchOption}
use mathlib.Core.List.{List, ◌∷◌, Memᴰ}
use Rattle.mem.specs.Words.{words}
use Rattle.book.specs.Syntax.{Book}
use Rattle.book.specs.Accepted as A
use Rattle.heap.specs.Graph.{Graph, write_each}
use Rattle.heap.specs.Alike.{Each}
use Rattle.heap.specs.Store.{Store}
use Rattle.heap.proofs.Laws.Good.{Good}
use Rattle.heap.proofs.Laws.Forward.{Call}
use Rattle.engine.specs.Compile.{compile}
use Rattle.engine.specs.Machine as m
use Rattle.agreement.proofs.Fine.{Takes}
use Rattle.agreement.proofs.Calls.{FineBook}
use Rattle.agreement.proofs.Chain.{Chain}
use Rattle.standing.specs.Stands.{World, Ours, Reps, Holds}
use Rattle.store.specs.Regions.{graph_of, marks_of, links_of, places_of, rest_of, store_of}
use Rattle.machine.specs.Tables.{Has}
use Rattle.machine.specs.View.{stack_of, stop_of}
use Rattle.machine.specs.Contract.{Kept, Fine}
use Rattle.machine.specs.Drive.{drive_on}
use Rattle.machine.specs.declared.Ended.{Ended}
use Rattle.machine.specs.declared.Stop.{Stop}
use Rattle.machine.specs.declared.Stop.TheVariants.{Demand, Becomes, Parts, Fails, Misfits, Broken, Full}
use Rattle.seek.specs.Path.{CallAt}
use Rattle.pool.specs.declared.Held.{Held}
use Rattle.pool.specs.Ring.{held_in, SameLinks}
use Rattle.turns.specs.Front.{Standing, told_by, value_in, Searched, Dropped}

-- the stack N, its top a call, stands for a chain in the computation's own graph; its numbers are those of the world w₀, or were free in μ₀
pub record Stacked (book : Book) (g : Graph) (v : ℕ) (w₀ : World) (μ₀ μ : Store) (N : List ℕ) : Type 0 where
  pub world : World
  pub holds : Holds world g μ
  pub top : ℕ
  pub rest : List ℕ
  pub call : Call g top
  pub chain : Chain book g v (top ∷ rest)
  pub each : Each (Reps world g μ.nodes) (top ∷ rest) N
  pub new : (x : ℕ) → Ours world x → Ours w₀ x ⊎ Memᴰ x μ₀.free
  pub less : (x : ℕ) → Memᴰ x μ.free → Memᴰ x μ₀.free

-- a call is on the stack's top, and the book's tables and code are there
pub record Calls (L base : ℕ) (code : List ℕ) (top made : ℕ) (s : List ℕ) : Type 0 where
  pub book : Book
  pub accepted : A.FineBook book
  pub fine : FineBook book
  pub tables : Has (compile book) base (rest_of L s)
  pub coded : (compile book).code ≡ code
  pub graph : Graph
  pub good : Good (Takes (compile book)) graph
  pub value : ℕ
  pub world : World
  pub stack : Stacked book graph value world (store_of L made s) (store_of L made s) (stack_of L s top)

-- links differ only at the world's own numbers, of those that were made
abbrev pub OwnLinks : ℕ → ℕ → World → List ℕ → List ℕ → Type 0
OwnLinks L made w s s' = (x : ℕ) → x < made → ¬ (Ours w x) → get_or (links_of L s') x 0 ≡ get_or (links_of L s) x 0

-- and so do marks
abbrev pub OwnMarks : ℕ → ℕ → World → List ℕ → List ℕ → Type 0
OwnMarks L made w s s' = (x : ℕ) → x < made → ¬ (Ours w x) → get_or (marks_of L s') x 0 ≡ get_or (marks_of L s) x 0

-- links differ only at the world's own calls
abbrev pub CallLinks : ℕ → ℕ → World → List ℕ → List ℕ → Type 0
CallLinks L made w s s' = (x : ℕ) → x < made → ¬ (Ours w x × CallAt (graph_of L s) x) → get_or (links_of L s') x 0 ≡ get_or (links_of L s) x 0

-- what is to become a forward is a call
abbrev pub HitCall : ℕ → List ℕ → Stop → Type 0
HitCall L s (Demand k) = Unit {0}
HitCall L s (Becomes h k) = CallAt (graph_of L s) h.0
HitCall L s (Parts h) = Unit {0}
HitCall L s Fails = Unit {0}
HitCall L s Misfits = Unit {0}
HitCall L s Broken = Unit {0}
HitCall L s Full = Unit {0}

-- the calls that were walked: how the code ended, after at most n of them
pub record Driven (L base : ℕ) (code : List ℕ) (n top made : ℕ) (s s' : List ℕ) (a : Ended) : Type 0 where
  pub is : (C : Calls L base code top made s) → stop_of L base s' a.regs a.stop ≡ drive_on n (compile C.book) (stack_of L s top) (store_of L made s)
  pub links : (C : Calls L base code top made s) → CallLinks L made C.world s s'
  pub hit : (C : Calls L base code top made s) → HitCall L s' a.stop
  pub deep : Calls L base code top made s → SameLinks (links_of L s) (links_of L s') (stack_of L s top)
  pub kept : Kept L base made s s'
  pub more : made ≤ a.regs.made
  pub fine : Fine a.regs

-- the top + 1 of the stack where a turn begins; 0 where it begins at no call
abbrev pub top_in : Option ℕ → ℕ
top_in None = 0
top_in (Some t) = t

-- there is no stack, or it is settled and no link is written
abbrev pub StackKept : ℕ → Held → List ℕ → List ℕ → Option ℕ → Type 0
StackKept L held s s' r = (held.top ≡ 0) ⊎ ((links_of L s' ≡ links_of L s) × (stack_of L s' (top_in r) ≡ m.settle (graph_of L s) (held_in L s held).stack))

-- where a turn begins: at a call on the stack's top, or there is none
pub record Begun (L made : ℕ) (held : Held) (s s' : List ℕ) (r : Option ℕ) : Type 0 where
  pub begun : (S : Standing L made held s) → MatchOption r
      (told_by S ≡ m.told (write_each L (graph_of L s) ((held_in L s held).value ∷ (held_in L s held).askers)))
      (λ t. (told_by S ≡ m.stopped (drive_on L (compile S.book) (stack_of L s' t) (store_of L made s'))) × Stacked S.book S.kept.comp.graph S.kept.comp.value S.stands.world (store_of L made s') (store_of L made s') (stack_of L s' t))
  pub graph : graph_of L s' ≡ graph_of L s
  pub links : (S : Standing L made held s) → OwnLinks L made S.stands.world s s'
  pub places : places_of L s' ≡ places_of L s
  pub rest : rest_of L s' ≡ rest_of L s
  pub marks : (S : Standing L made held s) → OwnMarks L made S.stands.world s s'
  pub finished : (x : ℕ) → get_or (marks_of L s) x 0 ≡ 2 → get_or (marks_of L s') x 0 ≡ 2
  pub searched : Searched L made (value_in held) s'
  pub stack : ¬ (Dropped L held s) → StackKept L held s s' r
  pub long : length (words s') ≡ length (words s)
