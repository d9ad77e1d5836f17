-- What a call demands: it is a call further down, and it is demanded still when a forward was made elsewhere.
-- Assumes nothing.
use Prim.Native.Nat.{ℕ, zero, suc, ◌+◌, ◌≤◌, ◌<◌}
use native.Mathlib.Nat.{le_of_suc-le-suc, not-suc-le-zero}
use native.Mathlib.Omega.{arith}
use mathlib.Core.Path.{◌≡◌, refl, sym, ap, ◌∙◌}
use mathlib.Core.Logic.{◌⊎◌, inl, inr}
use mathlib.Core.Option.{Option, none, some}
use mathlib.Core.List.{List, [], ◌∷◌, ◌++◌}
use lib.ListN.{length, get_or, length-append, get_or-append}
use lib.Seq.{get_or-append-add}
use Rattle.book.specs.Syntax.{Symbol, con, fun, Tree, Trees, split, rule, norule, stop, child, cons_of}
use Rattle.heap.specs.Graph.{Graph, Node, cell, var, fwd, look, follow}
use Rattle.heap.proofs.Laws.Good.{Good, follow-ends, follow-real}
use Rattle.heap.proofs.Laws.Forward.{Keeps, Call, look-follow}
use Rattle.engine.specs.Plain.{place, Reached, demands, narrows, rewrites, fails, misfits, stuck, walk, walk_child}
use Rattle.engine.specs.Compile.{Program, Positions, below}
use Rattle.agreement.proofs.Fine.{Takes, FineTree, FineTrees, FineRights, Some}
use Rattle.agreement.proofs.Arms.{cases}
use Rattle.agreement.proofs.Places.{Placed, placed, arity-at}
use Rattle.agreement.proofs.Trees.{walk-fun, walk_none, walk-some, walk-var, walk-fwd, get_d-mem, below_length}
use Rattle.engine.specs.Machine.{arity_of}

module _ (m : Program) (g : Graph) (G : Good (Takes m) g) where
  -- handles in the graph, of lower rank than r
  abbrev pub Low : ℕ → List ℕ → Type 0
  Low r slots = (i : ℕ) → i < length slots → (get_or slots i 0 < length g) × (G.rank (get_or slots i 0) < r)

  pub low-append : (r : ℕ) (slots : List ℕ) (k : ℕ) (y : Symbol) (hs : List ℕ) → Low r slots → k < length g → G.rank k < r → look g k ≡ cell y hs → Low r (slots ++ hs)
  unfolding look
  low-append r slots k y hs L i p e j q = go (cases (length slots) j) (rw (length-append slots hs) at q)
    where
      go : (j < length slots) ⊎ ((u : ℕ) × (j ≡ length slots + u)) → j < length slots + length hs → (get_or (slots ++ hs) j 0 < length g) × (G.rank (get_or (slots ++ hs) j 0) < r)
      go (inl a) w = rw (get_or-append slots hs 0 j a) (L j a)
      go (inr (u, a)) w =
          let E = follow-ends G k i in
          let b = G.kid (follow g k) (get_or hs u 0) E.inside (rw e (get_d-mem hs u 0 (omega arith))) in
          let c : G.rank (follow g k) ≤ G.rank k = E.lower in
          rw (a, get_or-append-add slots hs u 0) (b.0, omega (arith, b.1))

  con-takes : (x t c : ℕ) (hs : List ℕ) (j : ℕ) → look g x ≡ cell (con c) hs → Placed m.types t c j → length hs ≡ get_or (cons_of m.types t) j 0
  unfolding look arity_of
  con-takes x t c hs j e P = (G.fine (follow g x) (con c) hs e).exact ∙ rw P.number (arity-at m.types t j P.small)

  -- what is known of the call k that a walk from slots of rank below r demands
  pub record Demanded (r k : ℕ) (again : Graph → Reached) : Type 0 where
    pub inside : k < length g
    pub lower : G.rank k < r
    pub call : Call g k
    pub ended : follow g k ≡ k
    pub kept : (h : ℕ) (g' : Graph) → Keeps h g g' → Call g' k → again g' ≡ demands (follow g' k)

  module _ (r : ℕ) where
    abbrev TreesDemand : Trees → Type 0
    TreesDemand ts = (arities : List ℕ) (pos : Positions) (s : ℕ) → FineTrees m pos s ts arities → (j : ℕ) → j < length arities → (slots : List ℕ) → length slots ≡ length (below pos s (get_or arities j 0)) → Low r slots
        → (k : ℕ) → walk_child ts m.types g slots j ≡ demands k → Demanded r k (λ g'. walk_child ts m.types g' slots j)

    module _ (s t : ℕ) (ts : Trees) (ih : TreesDemand ts) (pos : Positions) (f : FineTree m pos (split s t ts)) (slots : List ℕ) (l : length slots ≡ length pos) (L : Low r slots)
        (k : ℕ) (w : walk (split s t ts) m.types g slots ≡ demands k) where
      abbrev R : ℕ
      R = get_or slots s 0

      abbrev Result : Type 0
      Result = Demanded r k (λ g'. walk (split s t ts) m.types g' slots)

      R-low : (R < length g) × (G.rank R < r)
      R-low = L s (rw l f.0)

      to-child : (c : ℕ) (hs : List ℕ) → look g R ≡ cell (con c) hs → (o : Option ℕ) → place m.types t c ≡ o → Result
      to-child c hs e none eo = let q = walk_none m.types s t ts g slots c hs e eo in let z : ◌≡◌ {A = ℕ} 0 1 = cc in absurd (omega arith)
      to-child c hs e (some j) eo =
          let P = placed m.types t c j eo in
          let d = ih (cons_of m.types t) pos s f.2 j P.small (slots ++ hs) (rw (length-append slots hs, below_length pos s (get_or (cons_of m.types t) j 0), l, con-takes R t c hs j e P)) (low-append r slots R (con c) hs L R-low.0 R-low.1 e) k
          (sym (walk-some m.types s t ts g slots c hs j e eo) ∙ w) in
          record {
            inside = d.inside;
            lower = d.lower;
            call = d.call;
            ended = d.ended;
            kept = λ h g' K c'. walk-some m.types s t ts g' slots c hs j (K.cons R c hs R-low.0 e) eo ∙ d.kept h g' K c';
          }

      at_split : (x : Node) → look g R ≡ x → Result
      at_split (cell (con c) hs) e = to-child c hs e (place m.types t c) refl
      at_split var e = let q = walk-var m.types s t ts g slots e in let z : ◌≡◌ {A = ℕ} 0 1 = cc in absurd (omega arith)
      at_split (fwd y) e = let q = walk-fwd m.types s t ts g slots y e in let z : ◌≡◌ {A = ℕ} 0 1 = cc in absurd (omega arith)
      at_split (cell (fun h) hs) e =
          let q = walk-fun m.types s t ts g slots h hs e in
          let u : k ≡ follow g R = cc in
          let E = follow-ends G R R-low.0 in
          let v : follow g (follow g R) ≡ follow g R = follow-real G (follow g R) E.inside E.real in
          rw u (record {
            inside = E.inside;
            lower = (let a = E.lower in omega (arith, R-low.1));
            call = (h, hs, look-follow g (follow g R) R v ∙ e);
            ended = v;
            kept = λ x g' K c. (let y = K.follows R R-low.0 in walk-fun m.types s t ts g' slots c.0 c.1 (look-follow g' R (follow g R) y ∙ c.2) ∙ ap demands y);
          })

    mutual
      unfolding walk walk_child

      pub tree-demands : (t : Tree) (pos : Positions) → FineTree m pos t → (slots : List ℕ) → length slots ≡ length pos → Low r slots
          → (k : ℕ) → walk t m.types g slots ≡ demands k → Demanded r k (λ g'. walk t m.types g' slots)
      tree-demands (split s t ts) pos f slots l L k w = at_split s t ts (λ arities pos s f j p slots l L k w. trees-demand ts arities pos s f j p slots l L k w) pos f slots l L k w (look g (get_or slots s 0)) refl
      tree-demands (rule rs) pos f slots l L k w = let z : ◌≡◌ {A = ℕ} 0 1 = cc in absurd (omega arith)
      tree-demands norule pos f slots l L k w = let z : ◌≡◌ {A = ℕ} 0 1 = cc in absurd (omega arith)

      pub trees-demand : (ts : Trees) (arities : List ℕ) (pos : Positions) (s : ℕ) → FineTrees m pos s ts arities → (j : ℕ) → j < length arities → (slots : List ℕ) → length slots ≡ length (below pos s (get_or arities j 0)) → Low r slots
          → (k : ℕ) → walk_child ts m.types g slots j ≡ demands k → Demanded r k (λ g'. walk_child ts m.types g' slots j)
      trees-demand stop [] pos s f j p slots l L k w = absurd (not-suc-le-zero p)
      trees-demand stop (a ∷ more) pos s f j p slots l L k w = absurd f
      trees-demand (child t ts) [] pos s f j p slots l L k w = absurd f
      trees-demand (child t ts) (a ∷ more) pos s (f, fs) zero p slots l L k w = tree-demands t (below pos s a) f slots l L k w
      trees-demand (child t ts) (a ∷ more) pos s (f, fs) (suc j) p slots l L k w = trees-demand ts more pos s fs j (le_of_suc-le-suc p) slots l L k w

    -- what else is known of the end of a walk
    abbrev pub Proper : Reached → Type 0
    Proper (demands k) = Unit
    Proper (narrows v t) = v < length g
    Proper (rewrites rs slots) = Some rs × FineRights m (length slots) rs × Low r slots
    Proper fails = Unit
    Proper misfits = Unit
    Proper stuck = ⊥

    abbrev TreesProper : Trees → Type 0
    TreesProper ts = (arities : List ℕ) (pos : Positions) (s : ℕ) → FineTrees m pos s ts arities → (j : ℕ) → j < length arities → (slots : List ℕ) → length slots ≡ length (below pos s (get_or arities j 0)) → Low r slots
        → Proper (walk_child ts m.types g slots j)

    module _ (s t : ℕ) (ts : Trees) (ih : TreesProper ts) (pos : Positions) (f : FineTree m pos (split s t ts)) (slots : List ℕ) (l : length slots ≡ length pos) (L : Low r slots) where
      abbrev Q : ℕ
      Q = get_or slots s 0

      Q-low : (Q < length g) × (G.rank Q < r)
      Q-low = L s (rw l f.0)

      proper-child : (c : ℕ) (hs : List ℕ) → look g Q ≡ cell (con c) hs → (o : Option ℕ) → place m.types t c ≡ o → Proper (walk (split s t ts) m.types g slots)
      proper-child c hs e none eo = rw (walk_none m.types s t ts g slots c hs e eo) tt
      proper-child c hs e (some j) eo =
          let P = placed m.types t c j eo in
          rw (walk-some m.types s t ts g slots c hs j e eo)
          (ih (cons_of m.types t) pos s f.2 j P.small (slots ++ hs) (rw (length-append slots hs, below_length pos s (get_or (cons_of m.types t) j 0), l, con-takes Q t c hs j e P))
          (low-append r slots Q (con c) hs L Q-low.0 Q-low.1 e))

      proper-split : (x : Node) → look g Q ≡ x → Proper (walk (split s t ts) m.types g slots)
      proper-split (cell (con c) hs) e = proper-child c hs e (place m.types t c) refl
      proper-split var e = rw (walk-var m.types s t ts g slots e) (follow-ends G Q Q-low.0).inside
      proper-split (fwd y) e = absurd (unfold look in (rw e at (follow-ends G Q Q-low.0).real))
      proper-split (cell (fun h) hs) e = rw (walk-fun m.types s t ts g slots h hs e) tt

    mutual
      unfolding walk walk_child

      pub tree-proper : (t : Tree) (pos : Positions) → FineTree m pos t → (slots : List ℕ) → length slots ≡ length pos → Low r slots → Proper (walk t m.types g slots)
      tree-proper (split s t ts) pos f slots l L = proper-split s t ts (λ arities pos s f j p slots l L. trees-proper ts arities pos s f j p slots l L) pos f slots l L (look g (get_or slots s 0)) refl
      tree-proper (rule rs) pos (o, f) slots l L = (o, rw l f, L)
      tree-proper norule pos f slots l L = tt

      pub trees-proper : (ts : Trees) (arities : List ℕ) (pos : Positions) (s : ℕ) → FineTrees m pos s ts arities → (j : ℕ) → j < length arities → (slots : List ℕ) → length slots ≡ length (below pos s (get_or arities j 0)) → Low r slots
          → Proper (walk_child ts m.types g slots j)
      trees-proper stop [] pos s f j p slots l L = absurd (not-suc-le-zero p)
      trees-proper stop (a ∷ more) pos s f j p slots l L = absurd f
      trees-proper (child t ts) [] pos s f j p slots l L = absurd f
      trees-proper (child t ts) (a ∷ more) pos s (f, fs) zero p slots l L = tree-proper t (below pos s a) f slots l L
      trees-proper (child t ts) (a ∷ more) pos s (f, fs) (suc j) p slots l L = trees-proper ts more pos s fs j (le_of_suc-le-suc p) slots l L
