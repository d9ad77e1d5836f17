-- What the copies for a computation's alternatives make of the memory.
-- Here, in order: room; a node saved; the terms and the alternatives in the rest; what code relies on; what stays; one copy; all copies.
-- Not here: the copy of one computation (copier), the model that the equations name (standing, Shared).
-- Assumes nothing.
use Rattle.std.specs.Prelude.{ℕ, zero, suc, ◌+◌, ◌*◌, ◌≤◌, ◌<◌, ◌≡◌, Option, IfSome, length, get_or, take, drop}
use mathlib.Core.List.{List, [], ◌∷◌, ◌++◌, Memᴰ}
use Rattle.mem.specs.Words.{words, Only}
use Rattle.book.specs.Syntax.{Book, con, fun}
use Rattle.heap.specs.Graph.{Graph, Node, cell, var, fwd, node, Comp, copy}
use Rattle.engine.specs.Turn.{forward}
use Rattle.engine.specs.Compile.{compile}
use Rattle.engine.specs.Machine as m
use Rattle.agreement.proofs.Fine.{Takes}
use Rattle.standing.specs.Part.{Part}
use Rattle.standing.specs.Shared.{pour, pour_all}
use Rattle.standing.proofs.Alternatives.{Splits}
use Rattle.store.specs.Roots.{roots_of}
use Rattle.store.specs.declared.Roots.{Roots}
use Rattle.store.specs.declared.Seen.{Seen}
use Rattle.store.specs.declared.Seen.TheVariants.{Var, Con, Call, Fwd}
use Rattle.store.specs.Regions.{node_bound, graph_of, marks_of, links_of, frames_of, rest_of, store_of}
use Rattle.copier.specs.Listed.{Clean}
use Rattle.copier.specs.Poured.{given}
use Rattle.pool.specs.Ring.{held_by, roots_at, scratch_at}
use Rattle.alternatives.specs.declared.Saved.{Saved}

-- room for L nodes, for the rest up to `base`, and for tables, registers and scratch rows
abbrev pub Space : ℕ → ℕ → List ℕ → Type 0
Space L base s = (L ≤ node_bound) × (base ≤ 20480) × (16 * L + base + 4096 ≤ length (words s))

-- what is seen, with its arguments
unfoldable pub node_with : Seen → List ℕ → Node
node_with Var l = var
node_with (Con c k) l = cell (con c.0) (take k l)
node_with (Call f k) l = cell (fun f.0) (take k l)
node_with (Fwd t) l = fwd t.0

-- a node that was saved
unfoldable pub node_is : Saved → Node
node_is r = node_with r.what r.args

-- the alternatives' terms, the first one first
unfoldable pub terms_in : ℕ → ℕ → List ℕ → ℕ → List ℕ
terms_in L base s n = take n (drop (base + 2696) (rest_of L s))

-- alternative i, with n handles; and the first `count` of them
unfoldable pub alt_in : ℕ → ℕ → ℕ → List ℕ → ℕ → m.Held
alt_in L base n s i = held_by (roots_at L s n (scratch_at base i)) []

unfoldable pub alts_in : ℕ → ℕ → ℕ → ℕ → List ℕ → List m.Held
alts_in L base n zero s = []
alts_in L base n (suc i) s = alts_in L base n i s ++ alt_in L base n s i ∷ []

-- with node h a forward to k, the handles are the roots of a part of the store whose numbers are made, and h is one of them
pub record Opens (L made : ℕ) (l : List ℕ) (h k : ℕ) (s : List ℕ) : Type 0 where
  pub own : List ℕ
  pub part : Part (forward (graph_of L s) h k) own l
  pub taken : (x : ℕ) → Memᴰ x own → x < made
  pub inside : h < made

-- the computation with these handles is to be split at node h, by the terms
pub record Divides (L made : ℕ) (l : List ℕ) (h : ℕ) (ks : List ℕ) (s : List ℕ) : Type 0 where
  pub book : Book
  pub splits : Splits (Takes (compile book)) (store_of L made s) (held_by l []) h ks

-- the nodes made before, marks, links and frames are as before, and so is the rest but for the words from a on and before b; no node has a place
pub record Aside (L made a b : ℕ) (s s' : List ℕ) : Type 0 where
  pub nodes : (x : ℕ) → x < made → node (graph_of L s') x ≡ node (graph_of L s) x
  pub marks : marks_of L s' ≡ marks_of L s
  pub links : links_of L s' ≡ links_of L s
  pub frames : frames_of L s' ≡ frames_of L s
  pub rest : Only a b (rest_of L s) (rest_of L s')
  pub long : length (words s') ≡ length (words s)
  pub clean : Clean L s'

-- the computation with these handles as if node h were a forward to k
abbrev pub as_if : Graph → List ℕ → ℕ → ℕ → Comp
as_if g l h k = record { graph = forward g h k; value = get_or l 0 0; askers = drop 1 l }

-- its copy is alternative i, or does not fit
pub record OnePoured (L base made : ℕ) (r : Roots) (h k i : ℕ) (s s' : List ℕ) (a : Option ℕ) : Type 0 where
  pub is : pour (copy (as_if (graph_of L s) (roots_of r) h k)) (store_of L made s) ≡ given (λ n. (store_of L n s', alt_in L base r.n s' i)) a
  pub more : IfSome a (λ n. (made ≤ n) × (n ≤ L))
  pub aside : Aside L made (scratch_at base i) (scratch_at base i + r.n) s s'

-- the copies for all terms are the alternatives, whatever the stack is, or do not fit
pub record AllPoured (L base made : ℕ) (r : Roots) (h count : ℕ) (s s' : List ℕ) (a : Option ℕ) : Type 0 where
  pub is : (N : List ℕ) → pour_all (store_of L made s) (held_by (roots_of r) N) h (terms_in L base s count) ≡ given (λ n. (store_of L n s', alts_in L base r.n count s')) a
  pub more : IfSome a (λ n. (made ≤ n) × (n ≤ L))
  pub aside : Aside L made (scratch_at base 0) (scratch_at base 32) s s'
