-- Where a search stopped, in two words of the nodes themselves: the mark and the link.
--
--   mark of a node   2: finished, no call is under it, and that stays true; 0 or 1: not known
--   mark of a root   1: a search from it has stopped at a call, and its link is the path's top + 1; 0: none has
--   link of a node   on the path, and not the lowest: the node below it on the path + 1
--
-- The path goes from the node that the root leads to up to the node whose argument led to the call. Each of its nodes is a constructor; it is what an argument of the one
-- below leads to, and what stands before that argument leads to no call. A call's link is the stack's, and no call is on a path.
-- Why it stays true: a turn makes forwards of calls only, and writes links of calls only; constructors, variables and forwards that are made stay as they are.
-- Here, in order: no call under a handle; the marks of all nodes; a node on a path; one above another; the path; where the search from a root goes on; a later moment.
-- Not here: the search (Search), that these facts survive a turn (proofs, Survives).
-- Assumes nothing.
use Rattle.std.specs.Prelude.{ℕ, suc, ◌≤◌, ◌<◌, ◌≡◌, ◌⊎◌, ◌≢◌, length, get_or}
use mathlib.Core.List.{List, Memᴰ}
use Rattle.book.specs.Syntax.{con, fun}
use Rattle.heap.specs.Graph.{Graph, cell, var, node, args}
use Rattle.heap.specs.Place.{Leads}
use Rattle.store.specs.Regions.{graph_of, marks_of, links_of}

-- k leads to e through nodes that are made
abbrev pub To : ℕ → Graph → ℕ → ℕ → Type 0
To made g e k = Leads (λ x. x < made) g e k

-- no call is under k: it leads to a variable or to a finished node
pub record Shut (made : ℕ) (g : Graph) (marks : List ℕ) (k : ℕ) : Type 0 where
  pub end : ℕ
  pub leads : To made g end k
  pub quiet : (node g end ≡ var) ⊎ (get_or marks end 0 ≡ 2)

-- the marks of all nodes: none from `made` on; a finished node is a constructor, and no call is under its arguments
pub record Closed (made : ℕ) (g : Graph) (marks : List ℕ) : Type 0 where
  pub new : (n : ℕ) → made ≤ n → get_or marks n 0 ≡ 0
  pub name : (n : ℕ) → get_or marks n 0 ≡ 2 → (y : ℕ) × (node g n ≡ cell (con y) (args (node g n)))
  pub under : (n : ℕ) → get_or marks n 0 ≡ 2 → (k : ℕ) → Memᴰ k (args (node g n)) → Shut made g marks k

-- a constructor that is not finished
pub record Open (g : Graph) (marks : List ℕ) (n : ℕ) : Type 0 where
  pub name : ℕ
  pub con : node g n ≡ cell (con name) (args (node g n))
  pub unfinished : get_or marks n 0 ≢ 2

-- an argument of p leads to n, and no call is under those before it
pub record Above (made : ℕ) (g : Graph) (marks : List ℕ) (p n : ℕ) : Type 0 where
  pub next : ℕ
  pub inside : next < length (args (node g p))
  pub before : (j : ℕ) → j < next → Shut made g marks (get_or (args (node g p)) j 0)
  pub leads : To made g n (get_or (args (node g p)) next 0)

-- the path from root r, which leads to b, up to a node
pub data Trail (made : ℕ) (g : Graph) (marks links : List ℕ) (r b : ℕ) : ℕ → Type 0 where
  lowest : Open g marks b → To made g b r → Trail made g marks links r b b
  upon : {p n : ℕ} → Trail made g marks links r b p → Above made g marks p n → Open g marks n → get_or links n 0 ≡ suc p → Trail made g marks links r b n

-- where the search from r goes on
pub record Place (made : ℕ) (g : Graph) (marks links : List ℕ) (r : ℕ) : Type 0 where
  pub base : ℕ
  pub top : ℕ
  pub linked : get_or links r 0 ≡ suc top
  pub trail : Trail made g marks links r base top

-- the root's mark says that there is such a place, or nothing is left to be searched
abbrev pub Resumes : ℕ → Graph → List ℕ → List ℕ → ℕ → Type 0
Resumes made g marks links r = get_or marks r 0 ≡ 1 → Shut made g marks r ⊎ Place made g marks links r

-- a call stands at x; what stands there never changes
abbrev pub CallAt : Graph → ℕ → Type 0
CallAt g x = (f : ℕ) × (hs : List ℕ) × (node g x ≡ cell (fun f) hs)

abbrev pub Fixed : Graph → ℕ → Type 0
Fixed g x = (node g x ≡ var) ⊎ ((y : ℕ) × (hs : List ℕ) × (node g x ≡ cell (con y) hs))

-- from one moment to a later one: constructors and variables that are made stay, and so do the ways to them
pub record Later (made : ℕ) (g : Graph) (made' : ℕ) (g' : Graph) : Type 0 where
  pub more : made ≤ made'
  pub rows : (x : ℕ) → x < made → Fixed g x → node g' x ≡ node g x
  pub leads : (e k : ℕ) → Fixed g e → To made g e k → To made' g' e k

-- at the bytes
abbrev pub ClosedIn : ℕ → ℕ → List ℕ → Type 0
ClosedIn L made s = Closed made (graph_of L s) (marks_of L s)

abbrev pub ResumesIn : ℕ → ℕ → List ℕ → ℕ → Type 0
ResumesIn L made s r = Resumes made (graph_of L s) (marks_of L s) (links_of L s) r
