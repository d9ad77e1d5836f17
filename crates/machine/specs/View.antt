-- The machine's state in the memory and in the registers that the code carries.
-- Here, in order: a stack of links; the pre-term stack; the current register; the state; empty registers; instructions; how an instruction and how code ends.
-- Not here: the tables (Tables), what functions promise (Contract).
-- Assumes nothing.
use Rattle.std.specs.Prelude.{ℕ, zero, suc, ◌+◌, ◌-◌, List, [], ◌∷◌, reverse, ◌≡◌, get_or, take, drop, Option, Some, None, Result, Ok, Err}
use Rattle.std.proofs.Math.Option as pure
use Rattle.std.proofs.Math.ListN.{get_elem?}
use Rattle.heap.specs.Graph.{Graph, look, args}
use Rattle.heap.specs.Store.{Store}
use Rattle.store.specs.Rows.{symbol_of}
use Rattle.store.specs.Regions.{links_of, rest_of, store_of}
use Rattle.engine.specs.Code as c
use Rattle.engine.specs.Machine as m
use Rattle.machine.specs.Tables.{vars_at, terms_at}
use Rattle.store.specs.declared.Head.{Head}
use Rattle.store.specs.declared.Seen.{Seen}
use Rattle.store.specs.declared.Seen.TheVariants.{Var, Con, Call, Fwd}
use Rattle.book.specs.declared.FunNo.{FunNo}
use Rattle.store.specs.declared.NodeNo.{NodeNo}
use Rattle.machine.specs.declared.Regs.{Regs}
use Rattle.machine.specs.declared.Ended.{Ended}
use Rattle.machine.specs.declared.Op.{Op}
use Rattle.machine.specs.declared.Op.TheVariants.{Load, Branch, Go, Push, Pop, MakeAnon, StoreVar, MakeVar, MakeTerm, Replace, Narrow, Choice, Fail, Wrong}
use Rattle.machine.specs.declared.Stop.{Stop}
use Rattle.machine.specs.declared.Stop.TheVariants.{Demand, Becomes, Parts, Fails, Misfits, Broken, Full}

-- the nodes from `top` on along the links, at most n; a link is the next node + 1, and 0 ends it
unfoldable pub chain : ℕ → List ℕ → ℕ → List ℕ
chain zero l t = []
chain (suc n) l zero = []
chain (suc n) l (suc k) = k ∷ chain n l (get_or l k 0)

-- the first k words, the last of them first
unfoldable pub terms_of : ℕ → List ℕ → List ℕ
terms_of zero w = []
terms_of (suc k) w = get_or w k 0 ∷ terms_of k w

-- the pre-narrex stack: at most as many entries as there are nodes, and one that would be too many
unfoldable pub stack_of : ℕ → List ℕ → ℕ → List ℕ
stack_of L s top = chain (suc L) (links_of L s) top

-- the pre-term stack of k entries
unfoldable pub pre_terms : ℕ → ℕ → List ℕ → ℕ → List ℕ
pre_terms L base s k = terms_of k (drop (base + terms_at) (rest_of L s))

-- k free-variable registers
unfoldable pub free_vars : ℕ → ℕ → List ℕ → ℕ → List ℕ
free_vars L base s k = take k (drop (base + vars_at) (rest_of L s))

-- the current register: a node, if there is one
unfoldable pub cur_of : Option NodeNo → pure.Option ℕ
cur_of None = pure.none
cur_of (Some n) = pure.some n.0

-- the node at one step of a position
unfoldable pub child_of : Graph → ℕ → ℕ → pure.Option ℕ
child_of g h p = get_elem? (args (look g h)) (p - 1)

-- the machine's state
unfoldable pub state_of : ℕ → ℕ → List ℕ → Regs → List ℕ → m.State Store
state_of L base code r s = m.st (drop r.pc code) (stack_of L s r.top) (cur_of r.cur) (pre_terms L base s r.terms) (free_vars L base s r.vars) (store_of L r.made s)

-- the registers that a call's code begins with: all are empty
abbrev pub emptied : ℕ → ℕ → Regs
emptied top made = record { pc = 0; top = top; cur = None; terms = 0; vars = 0; made = made }

-- the instruction that an operation at place `at` of the code is
unfoldable pub op_of : List ℕ → ℕ → Op → c.Instr
op_of code at (Load n) = c.load (take n (drop (at + 2) code))
op_of code at (Branch t) = c.branch t
op_of code at Go = c.go (c.from_four (drop (at + 1) code))
op_of code at Push = c.push
op_of code at Pop = c.pop
op_of code at MakeAnon = c.make_anon
op_of code at (StoreVar v) = c.store_var v
op_of code at (MakeVar v) = c.make_var v
op_of code at (MakeTerm h) = c.make_term (symbol_of h)
op_of code at Replace = c.replace
op_of code at Narrow = c.narrow
op_of code at Choice = c.choice
op_of code at Fail = c.fail
op_of code at Wrong = c.wrong

-- how many bytes it takes
abbrev pub width_of : Op → ℕ
width_of (Load n) = 10
width_of (Branch t) = 2
width_of Go = 5
width_of Push = 1
width_of Pop = 1
width_of MakeAnon = 1
width_of (StoreVar v) = 2
width_of (MakeVar v) = 2
width_of (MakeTerm h) = 3
width_of Replace = 1
width_of Narrow = 1
width_of Choice = 1
width_of Fail = 1
width_of Wrong = 1

-- the head that MAKETERM's two bytes say
unfoldable pub SymbolAt : List ℕ → ℕ → Head → Type 0
SymbolAt code at h = symbol_of h ≡ c.symbol (drop at code)

-- an arm, if there is one
unfoldable pub arm_is : Option ℕ → pure.Option ℕ
arm_is None = pure.none
arm_is (Some j) = pure.some j

-- which function what is seen calls
abbrev pub called_of : Seen → Option FunNo
called_of Var = None
called_of (Con y n) = None
called_of (Call f n) = Some f
called_of (Fwd t) = None

-- how code ended; the alternatives' terms are the pre-term stack, the first alternative deepest
unfoldable pub stop_of : ℕ → ℕ → List ℕ → Regs → Stop → m.Stop Store
stop_of L base s r (Demand k) = m.demand (k.0 ∷ stack_of L s r.top) (store_of L r.made s)
stop_of L base s r (Becomes h k) = m.becomes h.0 k.0 (stack_of L s r.top) (store_of L r.made s)
stop_of L base s r (Parts h) = m.parts h.0 (reverse (pre_terms L base s r.terms)) (store_of L r.made s)
stop_of L base s r Fails = m.fails (store_of L r.made s)
stop_of L base s r Misfits = m.misfits (store_of L r.made s)
stop_of L base s r Broken = m.broken
stop_of L base s r Full = m.full

-- how an instruction ended: the code goes on, or ends
unfoldable pub ran_of : ℕ → ℕ → List ℕ → List ℕ → Result Regs Ended → m.Step Store
ran_of L base code s (Ok r) = m.on (state_of L base code r s)
ran_of L base code s (Err e) = m.ends (stop_of L base s e.regs e.stop)

-- the registers after it
abbrev pub after : Result Regs Ended → Regs
after (Ok r) = r
after (Err e) = e.regs
