-- Within a turn: the machine's state on the store while the code of a call runs.
-- Here, in order: a state that stands; where the code begins; one instruction; its handles.
-- Assumes nothing.
use Prim.Native.Nat.{ℕ}
use mathlib.Core.Path.{◌≡◌, refl, subst}
use mathlib.Core.Option.{Option, none, some}
use mathlib.Core.List.{List, [], ◌∷◌, ◌++◌}
use Rattle.book.specs.Syntax.{Book}
use Rattle.heap.specs.Alike.{Each}
use Rattle.heap.specs.Place.{Rooted}
use Rattle.heap.specs.Graph.{Graph}
use Rattle.heap.specs.Store.{Store, take1}
use Rattle.heap.proofs.Laws.Alike.{Maybe}
use Rattle.heap.proofs.Laws.Shape.{each_append}
use Rattle.engine.specs.Compile.{Program}
use Rattle.engine.specs.Machine.{st, Step, on, step, own}
use Rattle.agreement.proofs.Calls.{FineBook}
use Rattle.standing.specs.Stands.{World, Ours, Reps}
use Rattle.standing.proofs.Grows.{States, Steps, steps_on}
use Rattle.standing.proofs.Step.{step-alike}
use Rattle.standing.proofs.Walks.{Read, holds-rooted}
use Rattle.standing.proofs.Stacks.{Climbs}

-- the state stands for one on a computation's own graph
pub record Within (I N : List ℕ) (R : Option ℕ) (T F : List ℕ) (μ : Store) : Type 0 where
  pub world : World
  pub graph : Graph
  pub stack : List ℕ
  pub current : Option ℕ
  pub terms : List ℕ
  pub vars : List ℕ
  pub states : States world I stack current terms vars graph I N R T F μ

-- the code of the call on top of the stack begins
pub within-top : (book : Book) (B : FineBook book) {g : Graph} {v : ℕ} {μ : Store} {N : List ℕ} → Climbs book B g v μ N → (I : List ℕ) → Within I N none [] [] μ
within-top book B {g} C I = record {
  world = C.world;
  graph = g;
  stack = C.top ∷ C.rest;
  current = none;
  terms = [];
  vars = [];
  states = record { code = refl; stack = C.each; current = tt; terms = tt; vars = tt; holds = C.holds };
}

-- one instruction
pub within_step : (m : Program) {I N : List ℕ} {R : Option ℕ} {T F : List ℕ} {μ : Store} → Within I N R T F μ → (I' N' : List ℕ) (R' : Option ℕ) (T' F' : List ℕ) (μ' : Store)
    → step (λ μ. μ.nodes) take1 m (st I N R T F μ) ≡ on (st I' N' R' T' F' μ') → Within I' N' R' T' F' μ'
within_step m {I} {N} {R} {T} {F} {μ} W I' N' R' T' F' μ' e =
    go (step (λ x. x) own m (st I W.stack W.current W.terms W.vars W.graph))
    (subst (Steps W.world W.graph μ (step (λ x. x) own m (st I W.stack W.current W.terms W.vars W.graph))) e (step-alike m W.world I W.stack W.current W.terms W.vars W.graph I N R T F μ W.states))
  where
    go : (x : Step Graph) → Steps W.world W.graph μ x (on (st I' N' R' T' F' μ')) → Within I' N' R' T' F' μ'
    go x (steps_on {N = N₁} {R = R₁} {T = T₁} {F = F₁} {g' = g₁} o Z) = record {
      world = o.world;
      graph = g₁;
      stack = N₁;
      current = R₁;
      terms = T₁;
      vars = F₁;
      states = record { code = refl; stack = Z.stack; current = Z.current; terms = Z.terms; vars = Z.vars; holds = Z.holds };
    }

-- the current register as a list
abbrev pub in_list : Option ℕ → List ℕ
in_list none = []
in_list (some r) = r ∷ []

-- its handles lie in the store, and so does what they read: forwards end, at nodes of the computation whose arguments are such handles again
pub within-rooted : {I N : List ℕ} {R : Option ℕ} {T F : List ℕ} {μ : Store} (W : Within I N R T F μ) → Rooted μ.nodes (Ours W.world) (Read W.states.holds) (N ++ (in_list R ++ (T ++ F)))
within-rooted {N = N} {R} {T} {F} {μ} W =
    holds-rooted W.states.holds (W.stack ++ (in_list W.current ++ (W.terms ++ W.vars))) (N ++ (in_list R ++ (T ++ F)))
    (each_append X W.stack N (in_list W.current ++ (W.terms ++ W.vars)) (in_list R ++ (T ++ F)) W.states.stack
    (each_append X (in_list W.current) (in_list R) (W.terms ++ W.vars) (T ++ F) (listed W.current R W.states.current) (each_append X W.terms T W.vars F W.states.terms W.states.vars)))
  where
    X : ℕ → ℕ → Type 0
    X = Reps W.world W.graph μ.nodes

    listed : (a b : Option ℕ) → Maybe X a b → Each X (in_list a) (in_list b)
    listed none none e = tt
    listed none (some k) e = absurd e
    listed (some h) none e = absurd e
    listed (some h) (some k) e = (e, tt)
