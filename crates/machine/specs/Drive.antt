-- What is promised of the call on the stack's top, and of the settled stack.
-- Here, in order: the machine over the store; the top's code, and its room; what `on_top` promises; the settled stack.
-- Not here: the calls that are walked instead (crate turns).
-- Assumes nothing.
use Rattle.std.specs.Prelude.{ℕ, ◌≤◌, List, [], ◌∷◌, ◌≡◌, length, get_or, drop}
use Rattle.book.specs.Syntax.{fun}
use Rattle.heap.specs.Graph.{cell, look}
use Rattle.heap.specs.Store.{Store, take1}
use Rattle.store.specs.Regions.{graph_of, links_of, rest_of, store_of}
use Rattle.engine.specs.Compile.{Program}
use Rattle.engine.specs.Machine as m
use Rattle.std.proofs.Math.Option.{none}
use Rattle.machine.specs.Tables.{Has}
use Rattle.machine.specs.View.{stack_of, stop_of}
use Rattle.machine.specs.Contract.{Kept, Fine, Low}
use Rattle.machine.specs.declared.Ended.{Ended}

abbrev pub drive_on : ℕ → Program → List ℕ → Store → m.Stop Store
drive_on n p N μ = m.drive (λ (μ : Store). μ.nodes) take1 n p N μ

-- the code of the call on the stack's top; an empty stack has none
unfoldable pub top_stop : Program → List ℕ → Store → m.Stop Store
top_stop p [] μ = m.broken
top_stop p (t ∷ N) μ = m.on_top (λ (μ : Store). μ.nodes) take1 p (look μ.nodes t) (t ∷ N) μ

-- it has room on the pre-term stack
abbrev pub LowTop : Program → List ℕ → Store → Type 0
LowTop p N μ = (f : ℕ) (hs : List ℕ) (t : ℕ) (N' : List ℕ) → N ≡ t ∷ N' → look μ.nodes t ≡ cell (fun f) hs → Low (length p.code) p (m.st (drop (get_or p.starts f 0) p.code) N none [] [] μ)

-- the answer of the code of the call on the stack's top
pub record Topped (L base : ℕ) (code : List ℕ) (t₀ k₀ : ℕ) (s s' : List ℕ) (a : Ended) : Type 0 where
  pub is : (p : Program) → Has p base (rest_of L s) → p.code ≡ code → LowTop p (stack_of L s t₀) (store_of L k₀ s) → stop_of L base s' a.regs a.stop ≡ top_stop p (stack_of L s t₀) (store_of L k₀ s)
  pub kept : Kept L base k₀ s s'
  pub links : links_of L s' ≡ links_of L s
  pub top : a.regs.top ≡ t₀
  pub made : k₀ ≤ a.regs.made
  pub fine : Fine a.regs

-- the stack without the constructors and variables on its top, if it has no more entries than there are nodes
abbrev pub Settled : ℕ → List ℕ → ℕ → ℕ → Type 0
Settled L s t t' = length (stack_of L s t) ≤ L → stack_of L s t' ≡ m.settle (graph_of L s) (stack_of L s t)
