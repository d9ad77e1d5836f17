-- How many entries the pre-term stack needs while code runs: a fixed number is enough.
-- Here, in order: the bound; what a state has left, and on its pre-term stack, and in its registers; instructions that add an entry; room for one instruction; for at most n instructions; for any number of them.
-- Not here: that the code of an accepted book has room (proofs/Whole), that running keeps it (proofs/Steps).
-- Assumes nothing.
use Rattle.std.specs.Prelude.{ℕ, zero, suc, ◌-◌, ◌≤◌, ◌<◌, List, length, drop}
use Rattle.book.specs.Syntax.{cons_of}
use Rattle.engine.specs.Code.{Instr, load, branch, go, push, pop, make_anon, store_var, make_var, make_term, replace, narrow, choice, fail, wrong, decode, width}
use Rattle.engine.specs.Compile.{Program}
use Rattle.engine.specs.Machine.{State, st, arity_of, jump}

-- how many entries the pre-term stack has room for
abbrev pub term_bound : ℕ
term_bound = 320

-- how many free-variable registers there are
abbrev pub var_bound : ℕ
var_bound = 256

module _ {M : Type 0} where
  -- the code that is left
  abbrev pub code_left : State M → List ℕ
  code_left (st I N R T F μ) = I

  -- the pre-term stack
  abbrev pub pre_terms : State M → List ℕ
  pre_terms (st I N R T F μ) = T

  -- the free-variable registers
  abbrev pub registers : State M → List ℕ
  registers (st I N R T F μ) = F

-- the instructions that add an entry
abbrev pub Adds : Instr → Type 0
Adds (load p) = ⊥
Adds (branch y) = ⊥
Adds (go o) = ⊥
Adds push = Unit
Adds pop = ⊥
Adds make_anon = Unit
Adds (store_var v) = ⊥
Adds (make_var v) = Unit
Adds (make_term y) = Unit
Adds replace = ⊥
Adds narrow = ⊥
Adds choice = ⊥
Adds fail = ⊥
Adds wrong = ⊥

-- An instruction with code I behind it has room on a pre-term stack of t entries, and `next` holds of the code and of the entries that it goes on with; a BRANCH may go on at each of its arms.
unfoldable pub Fit : Program → Instr → (List ℕ → ℕ → Type 0) → List ℕ → ℕ → Type 0
Fit m (load p) next I t = next I t
Fit m (branch y) next I t = next (jump m I 0) t × ((j : ℕ) → j < length (cons_of m.types y) → next (jump m I (suc j)) t)
Fit m (go o) next I t = Unit
Fit m push next I t = (t < term_bound) × next I (suc t)
Fit m pop next I t = next I (t - 1)
Fit m make_anon next I t = (t < term_bound) × next I (suc t)
Fit m (store_var v) next I t = next I t
Fit m (make_var v) next I t = (t < term_bound) × next I (suc t)
Fit m (make_term y) next I t = arity_of m y ≤ t → (t - arity_of m y < term_bound) × next I (suc (t - arity_of m y))
Fit m replace next I t = Unit
Fit m narrow next I t = Unit
Fit m choice next I t = Unit
Fit m fail next I t = Unit
Fit m wrong next I t = Unit

-- at most n instructions of the code I have room on a pre-term stack of t entries
unfoldable pub Fits : Program → ℕ → List ℕ → ℕ → Type 0
Fits m zero I t = Unit
Fits m (suc n) I t = Fit m (decode I) (λ I' t'. Fits m n I' t') (drop (width (decode I)) I) t

-- and any number of them
abbrev pub Runs : Program → List ℕ → ℕ → Type 0
Runs m I t = (n : ℕ) → Fits m n I t
