-- What the machine's functions promise: the definition's answer, and what they leave alone.
-- Here, in order: the machine on the store; registers in their bounds; what stays; an instruction; code that runs to its end.
-- Not here: the calls that are walked instead (Drive).
-- Assumes nothing.
use Rattle.std.specs.Prelude.{ℕ, zero, suc, ◌+◌, ◌≤◌, List, ◌∷◌, ◌≡◌, length, take, drop, Result}
use Rattle.mem.specs.Words.{words}
use Rattle.heap.specs.Store.{Store, take1}
use Rattle.store.specs.Regions.{graph_of, marks_of, links_of, list_of, places_of, frames_of, rest_of}
use Rattle.engine.specs.Code.{Instr}
use Rattle.engine.specs.Compile.{Program}
use Rattle.engine.specs.Machine as m
use Rattle.machine.specs.Tables.{vars_at, terms_end, var_bound, term_bound, Has}
use Rattle.machine.specs.View.{state_of, stop_of, ran_of, after}
use Rattle.machine.specs.declared.Regs.{Regs}
use Rattle.machine.specs.declared.Ended.{Ended}

-- the machine over the store
abbrev pub run_on : Program → Instr → m.State Store → m.Step Store
run_on p i s = m.run (λ (μ : Store). μ.nodes) take1 p i s

abbrev pub step_on : Program → m.State Store → m.Step Store
step_on p s = m.step (λ (μ : Store). μ.nodes) take1 p s

abbrev pub exec_on : ℕ → Program → m.State Store → m.Stop Store
exec_on n p s = m.exec (λ (μ : Store). μ.nodes) take1 n p s

-- a term put on the pre-term stack
unfoldable pub pushed : ℕ → m.State Store → m.Step Store
pushed k (m.st I N R T F μ) = m.on (m.st I N R (k ∷ T) F μ)

-- whatever program has its tables there
abbrev pub ByTables : ℕ → List ℕ → (Program → Type 0) → Type 0
ByTables base rest f = (p : Program) → Has p base rest → f p

-- the registers are in their bounds
abbrev pub Fine : Regs → Type 0
Fine r = (r.terms ≤ term_bound) × (r.vars ≤ var_bound)

-- what is not the machine's to change: the nodes made before, marks, list, places and frames, and the rest but for the registers
pub record Kept (L base made : ℕ) (s s' : List ℕ) : Type 0 where
  pub nodes : take made (graph_of L s') ≡ take made (graph_of L s)
  pub marks : marks_of L s' ≡ marks_of L s
  pub list : list_of L s' ≡ list_of L s
  pub places : places_of L s' ≡ places_of L s
  pub frames : frames_of L s' ≡ frames_of L s
  pub before : take (base + vars_at) (rest_of L s') ≡ take (base + vars_at) (rest_of L s)
  pub behind : drop (base + terms_end) (rest_of L s') ≡ drop (base + terms_end) (rest_of L s)
  pub long : length (words s') ≡ length (words s)

-- and while one call's code runs, the links and the stack's top
pub record Frame (L base : ℕ) (s s' : List ℕ) (r r' : Regs) : Type 0 where
  pub kept : Kept L base r.made s s'
  pub links : links_of L s' ≡ links_of L s
  pub top : r'.top ≡ r.top
  pub made : r.made ≤ r'.made
  pub fine : Fine r'

-- the pre-term stack of what comes next is no longer than there is room for
unfoldable pub Roomy : m.Step Store → Type 0
Roomy (m.on (m.st I N R T F μ)) = length T ≤ term_bound
Roomy (m.ends x) = Unit

-- an instruction's answer is what f says, wherever that has room
pub record Went (L base : ℕ) (code : List ℕ) (r : Regs) (s s' : List ℕ) (a : Result Regs Ended) (f : Program → m.Step Store) : Type 0 where
  pub is : (p : Program) → Has p base (rest_of L s) → p.code ≡ code → Roomy (f p) → ran_of L base code s' a ≡ f p
  pub frame : Frame L base s s' r (after a)

-- at most n instructions have room on the pre-term stack
unfoldable pub Low : ℕ → Program → m.State Store → Type 0
Low zero p s = Unit
Low (suc n) p s = Roomy (step_on p s) × ((s' : m.State Store) → step_on p s ≡ m.on s' → Low n p s')

-- code's answer after at most n instructions is the machine's, if they have room
pub record Came (L base : ℕ) (code : List ℕ) (r : Regs) (n : ℕ) (s s' : List ℕ) (a : Ended) : Type 0 where
  pub is : (p : Program) → Has p base (rest_of L s) → p.code ≡ code → Low n p (state_of L base code r s) → stop_of L base s' a.regs a.stop ≡ exec_on n p (state_of L base code r s)
  pub frame : Frame L base s s' r a.regs
