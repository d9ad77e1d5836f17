-- The code of a call of an accepted book's function has room on the pre-term stack, in the machine's own words.
-- Here, in order: one instruction; at most n of them; the call on a stack's top.
-- Assumes nothing.
use Prim.Native.Nat.{ℕ, zero, suc, ◌≤◌}
use lib.Dec.{lit≤}
use mathlib.Core.Path.{◌≡◌, refl, subst}
use mathlib.Core.Option.{none}
use mathlib.Core.List.{List, []}
use lib.ListN.{length, get_or, drop}
use Rattle.book.specs.Syntax.{Book}
use Rattle.book.specs.Accepted as A
use Rattle.heap.specs.Graph.{Graph}
use Rattle.heap.specs.Store.{Store, take1}
use Rattle.heap.proofs.Laws.Good.{Good}
use Rattle.engine.specs.Compile.{Program, compile}
use Rattle.engine.specs.Machine as m
use Rattle.agreement.proofs.Fine.{Takes}
use Rattle.agreement.proofs.Calls.{FineBook}
use Rattle.terms.specs.Depth.{term_bound, code_left, pre_terms, Fits}
use Rattle.terms.proofs.Steps.{fits-step, fits-stays}
use Rattle.terms.proofs.Whole.{code_fits}
use Rattle.standing.specs.Stands.{World}
use Rattle.machine.specs.Contract.{step_on, Roomy, Low}
use Rattle.machine.specs.Drive.{LowTop}
use Rattle.turns.specs.Calls.{Stacked}
use Rattle.turns.proofs.Climbing.{stacked-known}

module _ (p : Program) where
  abbrev nodes : Store → Graph
  nodes μ = μ.nodes

  roomy : (x : m.Step Store) → ((s' : m.State Store) → x ≡ m.on s' → length (pre_terms s') ≤ term_bound) → Roomy x
  unfolding Roomy
  roomy (m.on (m.st I N R T F μ)) f = f (m.st I N R T F μ) refl
  roomy (m.ends x) f = tt

  low : (n : ℕ) (s : m.State Store) → Fits p n (code_left s) (length (pre_terms s)) → length (pre_terms s) ≤ term_bound → Low n p s
  unfolding Low
  low zero s f l = tt
  low (suc n) s f l = (roomy (step_on p s) (λ s' e. fits-stays nodes take1 p n s s' e f l), λ s' e. low n s' (fits-step nodes take1 p n s s' e f) (fits-stays nodes take1 p n s s' e f l))

-- the call on the stack's top
pub low-top : (book : Book) (B : FineBook book) → A.FineBook book → (g : Graph) (G : Good (Takes (compile book)) g) (v : ℕ) {w₀ : World} {μ₀ μ : Store} (N : List ℕ) → Stacked book g v w₀ μ₀ μ N → LowTop (compile book) N μ
low-top book B Q g G v {w₀} {μ₀} {μ} N C f hs t N' e q =
    low (compile book) (length (compile book).code) (m.st (drop (get_or (compile book).starts f 0) (compile book).code) N none [] [] μ)
    (code_fits book Q B.small f (stacked-known book B g G v t N' (subst (Stacked book g v w₀ μ₀ μ) e C) f hs q) (length (compile book).code)) (lit≤ tt)
