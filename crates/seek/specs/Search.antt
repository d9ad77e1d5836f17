-- The search for the first call, turn by turn.
-- Here, in order: what a handle leads to; what a node's arguments lead to; a turn; a walk; what a search relies on; what it leaves.
-- Not here: the words in which it keeps its place (Path), why it finds the first call (proofs).
-- Assumes nothing.
use Rattle.std.specs.Prelude.{ℕ, suc, ◌+◌, ◌≤◌, ◌<◌, ◌≡◌, ◌⊎◌, ◌≢◌, length, get_or, Option, Some, None}
use mathlib.Core.List.{List, Memᴰ}
use Rattle.mem.specs.Words.{words}
use Rattle.book.specs.Syntax.{con, fun}
use Rattle.heap.specs.Graph.{Graph, cell, var, node, follow, look, args, first_call}
use Rattle.store.specs.Regions.{graph_of, marks_of, links_of, places_of, rest_of, Memory, memory, Did, set_mark, set_link}
use Rattle.standing.specs.Part.{Part, Handle}
use Rattle.store.specs.declared.NodeNo.{NodeNo}
use Rattle.seek.specs.Walkable.{Walkable, found_of}
use Rattle.seek.specs.Path.{Closed, ClosedIn, Trail, Resumes, ResumesIn}
use Rattle.seek.specs.declared.Ahead.{Ahead}
use Rattle.seek.specs.declared.Ahead.TheVariants.{Quiet, Cell, Call}
use Rattle.seek.specs.declared.Turn.{Turn}
use Rattle.seek.specs.declared.Turn.TheVariants.{On, Hit, Over}
use Rattle.seek.specs.declared.Stopped.{Stopped}

-- handle k leads to a variable or to a finished node
pub record IsQuiet (g : Graph) (marks : List ℕ) (k : ℕ) : Type 0 where
  pub is : (look g k ≡ var) ⊎ (get_or marks (follow g k) 0 ≡ 2)

-- handle k leads to n, a constructor that is not finished
pub record IsCell (g : Graph) (marks : List ℕ) (k n : ℕ) : Type 0 where
  pub at : n ≡ follow g k
  pub name : ℕ
  pub is : look g k ≡ cell (con name) (args (look g k))
  pub unfinished : get_or marks n 0 ≢ 2

-- handle k leads to n, a call
pub record IsCall (g : Graph) (k n : ℕ) : Type 0 where
  pub at : n ≡ follow g k
  pub name : ℕ
  pub is : look g k ≡ cell (fun name) (args (look g k))

abbrev pub Met : Graph → List ℕ → ℕ → Ahead → Type 0
Met g marks k Quiet = IsQuiet g marks k
Met g marks k (Cell n) = IsCell g marks k n.0
Met g marks k (Call n) = IsCall g k n.0

-- the first argument of node n that is not quiet is X
pub record First (g : Graph) (marks : List ℕ) (n : ℕ) (X : ℕ → Type 0) : Type 0 where
  pub next : ℕ
  pub inside : next < length (args (node g n))
  pub before : (j : ℕ) → j < next → IsQuiet g marks (get_or (args (node g n)) j 0)
  pub is : X (get_or (args (node g n)) next 0)

-- all arguments of node n are quiet
pub record AllQuiet (g : Graph) (marks : List ℕ) (n : ℕ) : Type 0 where
  pub each : (j : ℕ) → j < length (args (node g n)) → IsQuiet g marks (get_or (args (node g n)) j 0)

-- what the arguments of node n lead to: nothing, or the first that is not quiet
abbrev pub Scanned : Graph → List ℕ → ℕ → Ahead → Type 0
Scanned g marks n Quiet = AllQuiet g marks n
Scanned g marks n (Cell h) = First g marks n (λ k. IsCell g marks k h.0)
Scanned g marks n (Call h) = First g marks n (λ k. IsCall g k h.0)

-- the arguments of node n can be walked
abbrev pub Under : Graph → ℕ → Type 0
Under g n = (j : ℕ) → j < length (args (node g n)) → Walkable g (get_or (args (node g n)) j 0)

-- what a turn at t needs, with b the lowest node of the path
pub record Fit (L b t : ℕ) (s : List ℕ) : Type 0 where
  pub inside : t < L
  pub under : Under (graph_of L s) t
  pub linked : t ≢ b → 1 ≤ get_or (links_of L s) t 0

-- a constructor goes on the path
pub record Up (L t : ℕ) (s s' : List ℕ) (h : ℕ) : Type 0 where
  pub ahead : First (graph_of L s) (marks_of L s) t (λ k. IsCell (graph_of L s) (marks_of L s) k h)
  pub did : Did L s s' (set_link h (t + 1))

-- a node is finished
pub record Finished (L t : ℕ) (s s' : List ℕ) : Type 0 where
  pub quiet : AllQuiet (graph_of L s) (marks_of L s) t
  pub did : Did L s s' (set_mark t 2)

-- and goes from the path, for the node below it
pub record Down (L b t : ℕ) (s s' : List ℕ) (p : ℕ) : Type 0 where
  pub finished : Finished L t s s'
  pub above : t ≢ b
  pub linked : get_or (links_of L s) t 0 ≡ suc p

-- there is a call
pub record Hits (L t : ℕ) (s s' : List ℕ) (h : ℕ) : Type 0 where
  pub ahead : First (graph_of L s) (marks_of L s) t (λ k. IsCall (graph_of L s) k h)
  pub same : memory L s' ≡ memory L s
  pub long : length (words s') ≡ length (words s)

-- a turn at the path's top t
abbrev pub Came : ℕ → ℕ → ℕ → List ℕ → List ℕ → Turn → Type 0
Came L b t s s' (On n) = Up L t s s' n.0 ⊎ Down L b t s s' n.0
Came L b t s s' (Hit h) = Hits L t s s' h.0
Came L b t s s' Over = Finished L t s s' × (t ≡ b)

-- the part of the graph that is searched from r, where the nodes of the part are made
pub record Ground (made : ℕ) (g : Graph) (own roots : List ℕ) (r : ℕ) : Type 0 where
  pub part : Part g own roots
  pub handle : Handle g own roots r
  pub below : (x : ℕ) → Memᴰ x own → x < made

-- what a search leaves: graph, places, the rest and the length as they were; marks and links of what is not the computation's; finished nodes finished; and the marks of all closed
pub record Leaves (L made : ℕ) (own : List ℕ) (s s' : List ℕ) : Type 0 where
  pub graph : graph_of L s' ≡ graph_of L s
  pub places : places_of L s' ≡ places_of L s
  pub rest : rest_of L s' ≡ rest_of L s
  pub long : length (words s') ≡ length (words s)
  pub marks : (x : ℕ) → ¬ (Memᴰ x own) → get_or (marks_of L s') x 0 ≡ get_or (marks_of L s) x 0
  pub links : (x : ℕ) → ¬ (Memᴰ x own) → get_or (links_of L s') x 0 ≡ get_or (links_of L s) x 0
  pub finished : (x : ℕ) → get_or (marks_of L s) x 0 ≡ 2 → get_or (marks_of L s') x 0 ≡ 2
  pub closed : Closed made (graph_of L s) (marks_of L s')

-- the walk from root r, which leads to b, at the path's top t
pub record Walks (L r b t : ℕ) (s : List ℕ) : Type 0 where
  pub made : ℕ
  pub own : List ℕ
  pub roots : List ℕ
  pub ground : Ground made (graph_of L s) own roots r
  pub closed : ClosedIn L made s
  pub trail : Trail made (graph_of L s) (marks_of L s) (links_of L s) r b t

-- where it ended: at a call, with the path to it; or the root's node is finished
abbrev pub Reached : ℕ → ℕ → ℕ → ℕ → List ℕ → List ℕ → Option Stopped → Type 0
Reached L made r b s s' (Some w) = Trail made (graph_of L s) (marks_of L s') (links_of L s') r b w.top.0
Reached L made r b s s' None = get_or (marks_of L s') b 0 ≡ 2

-- the call
unfoldable pub call_of : Option Stopped → Option NodeNo
call_of (Some w) = Some w.call
call_of None = None

pub record Went (L r b t : ℕ) (s s' : List ℕ) (o : Option Stopped) : Type 0 where
  pub found : found_of (call_of o) ≡ first_call L (graph_of L s) r
  pub long : length (words s') ≡ length (words s)
  pub low : (w : Stopped) → o ≡ Some w → w.top.0 < L
  pub leaves : (W : Walks L r b t s) → Leaves L W.made W.own s s'
  pub reached : (W : Walks L r b t s) → Reached L W.made r b s s' o

-- where the path's top is: the root's mark says that the link has it, or it is b
abbrev pub TopAt : ℕ → ℕ → ℕ → List ℕ → ℕ → Type 0
TopAt L r b s t = ((get_or (marks_of L s) r 0 ≡ 1) × (get_or (links_of L s) r 0 ≡ suc t)) ⊎ ((get_or (marks_of L s) r 0 ≢ 1) × (t ≡ b))

-- the root keeps the path's top
abbrev pub Held : ℕ → ℕ → ℕ → List ℕ → List ℕ → Type 0
Held L r t s s' = Did L s s' (λ (m : Memory). set_link r (t + 1) (set_mark r 1 m))

-- what a search from r relies on
pub record Resumable (L r : ℕ) (s : List ℕ) : Type 0 where
  pub made : ℕ
  pub own : List ℕ
  pub roots : List ℕ
  pub ground : Ground made (graph_of L s) own roots r
  pub closed : ClosedIn L made s
  pub resumes : ResumesIn L made s r

-- what it leaves
pub record Sought (L made : ℕ) (own : List ℕ) (r : ℕ) (s s' : List ℕ) : Type 0 where
  pub leaves : Leaves L made own s s'
  pub resumes : Resumes made (graph_of L s) (marks_of L s') (links_of L s') r

abbrev pub SoughtFrom : ℕ → ℕ → List ℕ → List ℕ → Type 0
SoughtFrom L r s s' = (G : Resumable L r s) → Sought L G.made G.own r s s'
