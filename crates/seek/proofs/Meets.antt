-- What a handle leads to, and what a node's arguments lead to, by what the code reads.
-- Here, in order: a handle; the arguments, one by one; the node that is next on the path.
-- Assumes nothing.
use Prim.Native.Nat.{ℕ, ◌<◌}
use mathlib.Core.Path.{◌≡◌, refl, sym, ap, ◌∙◌, subst}
use mathlib.Core.Logic.{inl, ◌≢◌}
use mathlib.Core.List.{List}
use lib.ListN.{length, get_or}
use Rattle.book.specs.Syntax.{con, fun}
use Rattle.book.specs.declared.ConNo.{ConNo}
use Rattle.book.specs.declared.FunNo.{FunNo}
use Rattle.heap.specs.Graph.{Graph, Node, cell, node, follow, look, args}
use Rattle.store.specs.declared.NodeNo.{NodeNo}
use Rattle.store.specs.declared.Seen.{Seen}
use Rattle.store.specs.declared.Seen.TheVariants.{Var, Con, Call, Fwd}
use Rattle.store.specs.Rows.{seen}
use Rattle.store.proofs.Laws.{seen-var, seen-con, seen-call, seen-fwd}
use Rattle.seek.specs.Walkable.{Walkable}
use Rattle.store.specs.Regions.{graph_of, marks_of}
use Rattle.seek.specs.Search.{IsQuiet, IsCell, IsCall, First, Met, Scanned, Under}
use Rattle.seek.proofs.Walkables.{walkable-below}
use Rattle.seek.specs.declared.Ahead.{Ahead}
use Rattle.seek.specs.declared.Ahead.TheVariants.{Quiet}
use Rattle.seek.specs.declared.Ahead.TheVariants as a

-- handle h, which leads to n
read : (g : Graph) (h n : ℕ) → n ≡ follow g h → look g h ≡ node g n
unfolding look
read g h n e = ap (node g) (sym e)

module _ (g : Graph) (marks : List ℕ) (h n : ℕ) (e : n ≡ follow g h) where
  pub met-var : Var ≡ seen (node g n) → IsQuiet g marks h
  met-var q = record { is = inl (read g h n e ∙ seen-var (node g n) q) }

  pub met-cell : (y : ConNo) (k : ℕ) → Con y k ≡ seen (node g n) → (mark : ℕ) → mark ≡ get_or marks n 0 → mark ≢ 2 → IsCell g marks h n
  met-cell y k q mark u z = record { at = e; name = y.0; is = subst (λ (x : Node). x ≡ cell (con y.0) (args x)) (sym (read g h n e)) (seen-con (node g n) y k q).0; unfinished = λ w. z (u ∙ w) }

  pub met-fwd : (t : NodeNo) → Walkable g h → Fwd t ≡ seen (node g n) → IsQuiet g marks h
  met-fwd t K q = absurd (rw (read g h n e ∙ seen-fwd (node g n) t q) at (K.part.real h K.handle))

  -- what is no cell
  pub met-other : (k : Seen) → k ≡ seen (node g n) → ((y : ConNo) (i : ℕ) → k ≡ Con y i → ⊥) → ((f : FunNo) (i : ℕ) → k ≡ Call f i → ⊥) → Walkable g h → IsQuiet g marks h
  met-other Var q a b K = met-var q
  met-other (Con y i) q a b K = absurd (a y i refl)
  met-other (Call f i) q a b K = absurd (b f i refl)
  met-other (Fwd t) q a b K = met-fwd t K q

pub met-call : (g : Graph) (h n : ℕ) → n ≡ follow g h → (f : FunNo) (k : ℕ) → Call f k ≡ seen (node g n) → IsCall g h n
met-call g h n e f k q = record { at = e; name = f.0; is = subst (λ (x : Node). x ≡ cell (fun f.0) (args x)) (sym (read g h n e)) (seen-call (node g n) f k q).0 }

-- argument j of node n is h, and those before it are quiet
module _ (g : Graph) (marks : List ℕ) (n j h : ℕ) (lt : j < length (args (node g n))) (e : h ≡ get_or (args (node g n)) j 0) (before : (i : ℕ) → i < j → IsQuiet g marks (get_or (args (node g n)) i 0)) where
  pub scan-ends : (k : Ahead) → (k ≡ Quiet → ⊥) → Met g marks h k → Scanned g marks n k
  scan-ends Quiet z m = absurd (z refl)
  scan-ends (a.Cell x) z m = record { next = j; inside = lt; before = before; is = subst (λ (y : ℕ). IsCell g marks y x.0) e m }
  scan-ends (a.Call x) z m = record { next = j; inside = lt; before = before; is = subst (λ (y : ℕ). IsCall g y x.0) e m }

-- a constructor that an argument of t leads to is a node
pub turn_in : (L t : ℕ) (s : List ℕ) (h : NodeNo) → First (graph_of L s) (marks_of L s) t (λ x. IsCell (graph_of L s) (marks_of L s) x h.0) → Under (graph_of L s) t → h.0 < L
turn_in L t s h F U = subst (λ (x : ℕ). x < L) (sym F.is.at) (walkable-below L s (get_or (args (node (graph_of L s) t)) F.next 0) (U F.next F.inside)).1
