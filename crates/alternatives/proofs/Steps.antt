-- One copy: what it relies on, what it makes of the store, and what stays.
-- Here, in order: numbers that are free; the part that the copy walks; the copy with its node put back.
-- Assumes nothing.
use Prim.Native.Nat.{ℕ, ◌+◌, ◌-◌, ◌≤◌, ◌<◌}
use native.Mathlib.Omega.{arith}
use mathlib.Core.Path.{◌≡◌, refl, ap, sym, ◌∙◌, subst}
use mathlib.Core.Logic.{◌⊎◌, inl, inr, ◌≢◌}
use Rattle.std.specs.Prelude.{Option, Some, None}
use mathlib.Core.List.{List, [], Memᴰ}
use mathlib.Core.Option.{some}
use lib.ListN.{length, get_or, take, drop, set}
use lib.Seq.{get_or-set_other, get_or-set_same}
use Rattle.mem.specs.Words.{Only}
use Rattle.heap.specs.Graph.{Graph, Node, var, fwd, node, copy}
use Rattle.heap.specs.Build.{up_from}
use Rattle.heap.specs.Store.{Store}
use Rattle.engine.specs.Turn.{forward}
use Rattle.engine.specs.Machine as m
use Rattle.standing.specs.Shared.{pour}
use Rattle.store.specs.Regions.{Memory, graph_of, rest_of, store_of, Did, set_node}
use Rattle.store.specs.Roots.{roots_of}
use Rattle.store.specs.declared.Roots.{Roots}
use Rattle.store.proofs.Laws.{length-graph}
use Rattle.copier.specs.Poured.{Walkable, PouredTo, given, comp_of, held_of}
use Rattle.copier.specs.declared.Poured.{Poured}
use Rattle.pool.specs.Ring.{held_by, roots_at, scratch_at, RootsPut}
use Rattle.alternatives.specs.declared.Saved.{Saved}
use Rattle.alternatives.specs.Copies.{node_is, alt_in, Opens, as_if, Aside, OnePoured}
use Rattle.std.proofs.lemmas.Bool.{cases_eq}
use Rattle.copier.proofs.Pours.{up_from-from}
use Rattle.alternatives.proofs.Laws.{with_node, put_back, pour-back}

-- a node that is made is not free
pub made-taken : (L made h : ℕ) (s : List ℕ) → h < made → (j : ℕ) → Memᴰ j (store_of L made s).free → h ≢ j
unfolding store_of
made-taken L made h s lt j w e = let i = up_from-from (L - made) made j w in absurd (omega arith)

-- the part that the copy walks, once the forward is written
pub opens-walk : (L made : ℕ) (r : Roots) (h k : ℕ) (s s₁ : List ℕ) → Opens L made (roots_of r) h k s → Did L s s₁ (set_node h (fwd k)) → Walkable (graph_of L s₁) made (roots_of r)
unfolding forward
opens-walk L made r h k s s₁ O d =
    subst (λ (g : Graph). Walkable g made (roots_of r)) (sym (ap (λ (x : Memory). x.graph) d.is))
    (record { own = O.own; roots = roots_of r; part = O.part; handles = O.part.root; taken = O.taken })

-- the store's nodes
pub nodes-are : (L made : ℕ) (s : List ℕ) → (store_of L made s).nodes ≡ graph_of L s
unfolding store_of
nodes-are L made s = refl

module _ (L base made : ℕ) (r : Roots) (h k i : ℕ) (s s₁ s₂ s₃ : List ℕ) (v : Saved)
    (O : Opens L made (roots_of r) h k s) (fits : made ≤ L) (is : node_is v ≡ node (graph_of L s) h) (d : Did L s s₁ (set_node h (fwd k))) (e : Did L s₂ s₃ (set_node h (node_is v))) where
  abbrev x : Node
  x = node (graph_of L s) h

  -- the copy, as it was poured
  abbrev copied_to : Poured → Store × m.Held
  copied_to q = (store_of L q.made s₂, held_of (roots_of q.roots))

  g₁ : graph_of L s₁ ≡ set (graph_of L s) h (fwd k)
  g₁ = ap (λ (m : Memory). m.graph) d.is

  g₃ : graph_of L s₃ ≡ set (graph_of L s₂) h x
  g₃ = ap (λ (m : Memory). m.graph) e.is ∙ ap (set (graph_of L s₂) h) is

  -- whether it fits or not
  module _ (p : Option Poured) (P : PouredTo L made r s₁ s₂ p) where
    walked : pour (copy (as_if (graph_of L s) (roots_of r) h k)) (with_node (store_of L made s) h (fwd k)) ≡ given copied_to p
    unfolding comp_of store_of forward
    walked =
        subst (λ (g : Graph). pour (copy (record { graph = g; value = get_or (roots_of r) 0 0; askers = drop 1 (roots_of r) })) (record { nodes = g; free = up_from made (L - made) }) ≡ given copied_to p) g₁ P.is

    one-is : pour (copy (as_if (graph_of L s) (roots_of r) h k)) (store_of L made s) ≡ put_back h x (given copied_to p)
    one-is =
        pour-back (copy (as_if (graph_of L s) (roots_of r) h k)) (store_of L made s) h (fwd k) (made-taken L made h s O.inside)
        ∙ ap (put_back h (node (store_of L made s).nodes h)) walked
        ∙ ap (λ (g : Graph). put_back h (node g h) (given copied_to p)) (nodes-are L made s)

    one-nodes : (y : ℕ) → y < made → node (graph_of L s₃) y ≡ node (graph_of L s) y
    one-nodes y lt = ap (λ (g : Graph). node g y) g₃ ∙ go (cases_eq y h)
      where
        go : (y ≡ h) ⊎ (y ≢ h) → node (set (graph_of L s₂) h x) y ≡ node (graph_of L s) y
        go (inl u) = rw u (get_or-set_same (graph_of L s₂) h x var (let a = O.inside in let b = length-graph L s₂ in omega arith))
        go (inr n) = get_or-set_other (graph_of L s₂) h y x var n ∙ P.before y lt ∙ ap (λ (g : Graph). node g y) g₁ ∙ get_or-set_other (graph_of L s) h y (fwd k) var n

    rest_same : rest_of L s₃ ≡ rest_of L s
    rest_same = ap (λ (m : Memory). m.rest) e.is ∙ P.kept.rest ∙ ap (λ (m : Memory). m.rest) d.is

    one-aside : (a b : ℕ) → Aside L made a b s s₃
    one-aside a b = record {
      nodes = one-nodes;
      marks = ap (λ (m : Memory). m.marks) e.is ∙ P.kept.marks ∙ ap (λ (m : Memory). m.marks) d.is;
      links = ap (λ (m : Memory). m.links) e.is ∙ P.kept.links ∙ ap (λ (m : Memory). m.links) d.is;
      frames = ap (λ (m : Memory). m.frames) e.is ∙ P.kept.frames ∙ ap (λ (m : Memory). m.frames) d.is;
      rest = record { before = ap (take a) rest_same; behind = ap (drop b) rest_same; long = ap length rest_same };
      long = e.long ∙ P.kept.long ∙ d.long;
      clean = ap (λ (m : Memory). m.places) e.is ∙ P.clean;
    }

  -- it does not fit
  pub one_none : PouredTo L made r s₁ s₂ None → OnePoured L base made r h k i s s₃ None
  unfolding put_back given
  one_none P = record { is = one-is None P; more = tt; aside = one-aside None P _ _ }

  -- it fits, and its handles are written
  module _ (q : Poured) (P : PouredTo L made r s₁ s₂ (Some q)) (s₄ : List ℕ) (w : RootsPut L (scratch_at base i) q.roots s₃ s₄) where
    stored : with_node (store_of L q.made s₂) h x ≡ store_of L q.made s₄
    unfolding store_of
    stored = ap (λ (g : Graph). record { nodes = g; free = up_from q.made (L - q.made) }) (sym (w.only.graph ∙ g₃))

    alt : held_of (roots_of q.roots) ≡ alt_in L base r.n s₄ i
    unfolding held_of alt_in
    alt = ap (λ (l : List ℕ). held_by l []) (sym (ap (λ (n : ℕ). roots_at L s₄ n (scratch_at base i)) (sym P.same) ∙ w.is))

    A : Aside L made 0 0 s s₃
    A = one-aside (Some q) P 0 0

    pub one-some : OnePoured L base made r h k i s s₄ (Some q.made)
    unfolding put_back given
    one-some = record {
      is = one-is (Some q) P ∙ (λ t. some (stored t, alt t));
      more = P.more;
      aside = record {
        nodes = λ y lt. ap (λ (g : Graph). node g y) w.only.graph ∙ A.nodes y lt;
        marks = w.only.marks ∙ A.marks;
        links = w.only.links ∙ A.links;
        frames = w.only.frames ∙ A.frames;
        rest = subst (λ (n : ℕ). Only (scratch_at base i) (scratch_at base i + n) (rest_of L s) (rest_of L s₄)) P.same (subst (λ (l : List ℕ). Only (scratch_at base i) (scratch_at base i + q.roots.n) l (rest_of L s₄)) (rest_same (Some q) P) w.only.rest);
        long = w.only.long ∙ A.long;
        clean = w.only.places ∙ A.clean;
      };
    }
