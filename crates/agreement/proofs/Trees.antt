-- Running the code of a tree does what walking the tree does.
-- Assumes nothing.
use Prim.Native.Nat.{ℕ, zero, suc, ◌+◌, ◌-◌, ◌*◌, ◌≤◌, ◌<◌, ◌^◌}
use native.Mathlib.Nat.{le_of_suc-le-suc, not-suc-le-zero}
use native.Mathlib.Omega.{arith}
use mathlib.Core.Path.{◌≡◌, refl, sym, ap, ◌∙◌}
use mathlib.Core.Option.{Option, none, some}
use mathlib.Core.Logic.{◌⊎◌, inl, inr}
use native.Mathlib.Numerals.{one-add}
use mathlib.Core.List.{List, [], ◌∷◌, ◌++◌, append-nil, map, reverse_aux, reverse_aux-reverse_aux-nil, Memᴰ}
use lib.ListN.{length, get_or, drop, length-append, get_or-append, length-map, get_elem?}
use lib.Seq.{get_or-append-add}
use Rattle.heap.proofs.Laws.Numbers.{up_from-at, up_from-length}
use Rattle.book.specs.Syntax.{Symbol, con, fun, Right, Tree, Trees, split, rule, norule, stop, child, first_con, cons_of}
use Rattle.heap.specs.Graph.{Graph, Node, cell, var, fwd, look, follow, args}
use Rattle.heap.specs.Build.{up_from, build_right}
use Rattle.heap.proofs.Laws.Good.{Good, follow-more, look-more, follow-ends}
use Rattle.engine.specs.Plain.{place, Reached, demands, narrows, rewrites, fails, misfits, stuck, at_split, walk, walk_child, instances, build_rights}
use Rattle.engine.specs.Code.{Instr, load, branch, go, pop, replace, narrow, choice, fail, encode, emit, from_four}
use Rattle.engine.specs.Compile.{Program, Positions, of_right, of_rights, of_rule, of_instances, of_tree, of_trees, offsets, flat, below}
use Rattle.engine.specs.Machine as M
use Rattle.engine.specs.Machine.{jump, arity_of, st, Stop, demand, becomes, parts, broken, on, ends, at, need, own, on_branch, run}
use Rattle.agreement.proofs.Fine.{Takes, FineTree, FineTrees, FineRights, Some}
use Rattle.agreement.proofs.Simulate.{Halts, halts-more, halts-next, halts-last, code-append, Grown}
use Rattle.agreement.proofs.Rights.{Sees, right-runs, rights-run, instances-run, grown-instances, get-some}
use Rattle.agreement.proofs.Decoding.{emit-append, load-length}
use Rattle.agreement.proofs.Arms.{cases, arm-place}
use Rattle.agreement.proofs.Places.{At, at_front, at_back, gos-at, gos-length, offsets-length, offsets-bound, Placed, placed, arity-at, arities-at}

-- how the code of a function ends where its tree's walk ends
unfoldable pub rule_stop : Graph → ℕ → List ℕ → List Right → List ℕ → Stop Graph
rule_stop g t₀ N₀ [] slots = broken
rule_stop g t₀ N₀ (r ∷ []) slots = let p = build_right r slots g in becomes (follow p.0 t₀) p.1 (t₀ ∷ N₀) p.0
rule_stop g t₀ N₀ (r ∷ r' ∷ rs) slots = let p = build_rights (r ∷ r' ∷ rs) slots g in parts (follow p.0 t₀) p.1 p.0

unfoldable pub stop_of : Program → Graph → ℕ → List ℕ → Reached → Stop Graph
stop_of m g t₀ N₀ (demands k) = demand (k ∷ t₀ ∷ N₀) g
stop_of m g t₀ N₀ (narrows v t) = let p = instances (first_con m.types t) (cons_of m.types t) g in parts v p.1 p.0
stop_of m g t₀ N₀ (rewrites rs slots) = rule_stop g t₀ N₀ rs slots
stop_of m g t₀ N₀ fails = M.fails g
stop_of m g t₀ N₀ misfits = M.misfits g
stop_of m g t₀ N₀ stuck = broken

-- what BRANCH does, and the walk at a SPLIT, by what is read
module _ (m : Program) (t : ℕ) (I N : List ℕ) (R : ℕ) (T F : List ℕ) (g : Graph) where
  branch-fun : (f : ℕ) (hs : List ℕ) → look g R ≡ cell (fun f) hs → run (λ x. x) own m (branch t) (st I N (some R) T F g) ≡ ends (demand (follow g R ∷ N) g)
  unfolding run need on_branch
  branch-fun f hs e = rw e

  branch-none : (c : ℕ) (hs : List ℕ) → look g R ≡ cell (con c) hs → place m.types t c ≡ none → run (λ x. x) own m (branch t) (st I N (some R) T F g) ≡ ends (M.misfits g)
  unfolding run need on_branch
  branch-none c hs e o = rw (e, arm-place m t c ∙ o, on_branch)

  branch-some : (c : ℕ) (hs : List ℕ) (j : ℕ) → look g R ≡ cell (con c) hs → place m.types t c ≡ some j → run (λ x. x) own m (branch t) (st I N (some R) T F g) ≡ on (st (jump m I (suc j)) N (some R) T F g)
  unfolding run need on_branch
  branch-some c hs j e o = rw (e, arm-place m t c ∙ o, on_branch)

  branch-var : look g R ≡ var → run (λ x. x) own m (branch t) (st I N (some R) T F g) ≡ on (st (jump m I 0) N (some R) T F g)
  unfolding run need on_branch
  branch-var e = rw e

  branch-fwd : (k : ℕ) → look g R ≡ fwd k → run (λ x. x) own m (branch t) (st I N (some R) T F g) ≡ ends broken
  unfolding run need on_branch
  branch-fwd k e = rw e

module _ (types : List (List ℕ)) (s t : ℕ) (ts : Trees) (g : Graph) (slots : List ℕ) where
  pub walk-fun : (f : ℕ) (hs : List ℕ) → look g (get_or slots s 0) ≡ cell (fun f) hs → walk (split s t ts) types g slots ≡ demands (follow g (get_or slots s 0))
  unfolding walk at_split
  walk-fun f hs e = rw (e, at_split)

  pub walk_none : (c : ℕ) (hs : List ℕ) → look g (get_or slots s 0) ≡ cell (con c) hs → place types t c ≡ none → walk (split s t ts) types g slots ≡ misfits
  unfolding walk at_split
  walk_none c hs e o = rw (e, o, at_split)

  pub walk-some : (c : ℕ) (hs : List ℕ) (j : ℕ) → look g (get_or slots s 0) ≡ cell (con c) hs → place types t c ≡ some j → walk (split s t ts) types g slots ≡ walk_child ts types g (slots ++ hs) j
  unfolding walk at_split
  walk-some c hs j e o = rw (e, o, at_split)

  pub walk-var : look g (get_or slots s 0) ≡ var → walk (split s t ts) types g slots ≡ narrows (follow g (get_or slots s 0)) t
  unfolding walk at_split
  walk-var e = rw (e, at_split)

  pub walk-fwd : (k : ℕ) → look g (get_or slots s 0) ≡ fwd k → walk (split s t ts) types g slots ≡ stuck
  unfolding walk at_split
  walk-fwd k e = rw (e, at_split)

module _ {K : Symbol → ℕ → Type 0} {g : Graph} (G : Good K g) {g' : Graph} (w : Grown g g') where
  pub follow-grown : (h : ℕ) → h < length g → follow g' h ≡ follow g h
  follow-grown h i = rw w.1 (follow-more G w.0 h i)

  pub look-grown : (h : ℕ) → h < length g → look g' h ≡ look g h
  look-grown h i = rw w.1 (look-more G w.0 h i)

at_snoc : (g : Graph) (p : List ℕ) (h x k : ℕ) → at g h p ≡ some x → at g h (p ++ k ∷ []) ≡ at g x (k ∷ [])
unfolding at
at_snoc g [] h x k e = let u : h ≡ x = cc in rw u
at_snoc g (q ∷ p) h x k e = go (λ y. at_snoc g p y x k) (get_elem? (args (look g h)) (q - 1)) refl
  where
    go : ((y : ℕ) → at g y p ≡ some x → at g y (p ++ k ∷ []) ≡ at g x (k ∷ [])) → (o : Option ℕ) → get_elem? (args (look g h)) (q - 1) ≡ o → at g h (q ∷ p ++ k ∷ []) ≡ at g x (k ∷ [])
    go ih none u = let v : ◌≡◌ {A = Option ℕ} none (some x) = rw (u, at) at e in let z : ◌≡◌ {A = ℕ} 0 1 = cc in absurd (omega arith)
    go ih (some y) u = rw (u, at) (ih y (rw (u, at) at e))

pub one-step : (g : Graph) (h k x : ℕ) → get_elem? (args (look g h)) (suc k - 1) ≡ some x → at g h (suc k ∷ []) ≡ some x
unfolding at
one-step g h k x e = rw (e, at)

front : (p : List ℕ) (t : ℕ) (more : List Instr) → length (emit (load p ∷ branch t ∷ more)) ≡ 12 + length (emit more)
unfolding emit
front p t more =
    rw (length-append (encode (load p)) (encode (branch t) ++ emit more), load-length p, length-append (encode (branch t)) (emit more), two) (omega arith)
  where
    two : length (encode (branch t)) ≡ 2
    two = unfold encode in refl

-- an index of two lists joined
pub get_d-map-in : {A B : Type 0} (f : A → B) (l : List A) (n : ℕ) (d : A) (d' : B) → n < length l → get_or (map f l) n d' ≡ f (get_or l n d)
get_d-map-in f [] n d d' p = absurd (not-suc-le-zero p)
get_d-map-in f (x ∷ l) zero d d' p = refl
get_d-map-in f (x ∷ l) (suc n) d d' p = get_d-map-in f l n d d' (le_of_suc-le-suc p)

pub get_d-mem : (l : List ℕ) (i d : ℕ) → i < length l → Memᴰ (get_or l i d) l
get_d-mem [] i d p = absurd (not-suc-le-zero p)
get_d-mem (x ∷ l) zero d p = Memᴰ.head refl
get_d-mem (x ∷ l) (suc i) d p = Memᴰ.tail (get_d-mem l i d (le_of_suc-le-suc p))

pub below_length : (pos : Positions) (s a : ℕ) → length (below pos s a) ≡ length pos + a
unfolding below
below_length pos s a = rw (length-append, length-map (up_from 1 a) (λ i. get_or pos s [] ++ i ∷ []), up_from-length a 1)

pub below-low : (pos : Positions) (s a i : ℕ) → i < length pos → get_or (below pos s a) i [] ≡ get_or pos i []
unfolding below
below-low pos s a i p = get_or-append pos (map (λ k. get_or pos s [] ++ k ∷ []) (up_from 1 a)) [] i p

pub below-high : (pos : Positions) (s a q : ℕ) → q < a → get_or (below pos s a) (length pos + q) [] ≡ get_or pos s [] ++ suc q ∷ []
unfolding below
below-high pos s a q p =
    get_or-append-add pos (map (λ k. get_or pos s [] ++ k ∷ []) (up_from 1 a)) q []
    ∙ get_d-map-in (λ k. get_or pos s [] ++ k ∷ []) (up_from 1 a) q 0 [] (rw (up_from-length a 1) p)
    ∙ ap (λ (k : ℕ). get_or pos s [] ++ k ∷ []) (up_from-at a 1 q p ∙ one-add q)

module _ {K : Symbol → ℕ → Type 0} (m : Program) (g : Graph) (G : Good K g) (t₀ : ℕ) (N₀ : List ℕ) where
  -- what a node that is read points to lies in the graph
  pub look-inside : (h : ℕ) (y : Symbol) (hs : List ℕ) (q : ℕ) → h < length g → look g h ≡ cell y hs → q < length hs → get_or hs q 0 < length g
  unfolding look
  look-inside h y hs q i e p = (G.kid (follow g h) (get_or hs q 0) (follow-ends G h i).inside (rw e (get_d-mem hs q 0 p))).0

  sees_below : (pos : Positions) (slots : List ℕ) (s a : ℕ) (y : Symbol) (hs : List ℕ) → Sees pos slots t₀ g → s < length pos → length (get_or pos s []) < 8
      → look g (get_or slots s 0) ≡ cell y hs → length hs ≡ a → Sees (below pos s a) (slots ++ hs) t₀ g
  unfolding args
  sees_below pos slots s a y hs S p q e l = record {
    same = rw (length-append slots hs, below_length pos s a, S.same, l);
    see = λ g' w i h. see' g' w i (rw (below_length pos s a) at h) (cases (length pos) i);
    short = λ i h. short' i (rw (below_length pos s a) at h) (cases (length pos) i);
    inside = λ i h. inside' i (rw (below_length pos s a) at h) (cases (length pos) i);
  }
    where
      low : (i : ℕ) → i < length pos → get_or (slots ++ hs) i 0 ≡ get_or slots i 0
      low i h = get_or-append slots hs 0 i (rw S.same h)

      high : (k : ℕ) → get_or (slots ++ hs) (length pos + k) 0 ≡ get_or hs k 0
      high k = rw (← S.same) (get_or-append-add slots hs k 0)

      see' : (g' : Graph) → Grown g g' → (i : ℕ) → i < length pos + a → (i < length pos) ⊎ ((k : ℕ) × (i ≡ length pos + k)) → at g' t₀ (get_or (below pos s a) i []) ≡ some (get_or (slots ++ hs) i 0)
      see' g' w i h (inl b) = rw (below-low pos s a i b, low i b) (S.see g' w i b)
      see' g' w i h (inr (k, r)) =
          let u : suc k - 1 ≡ k = omega arith in
          rw (r, below-high pos s a k (omega arith), high k, at_snoc g' (get_or pos s []) t₀ (get_or slots s 0) (suc k) (S.see g' w s p)) (one-step g' (get_or slots s 0) k (get_or hs k 0) (rw (look-grown G w (get_or slots s 0) (S.inside s p), e, u) (get-some hs k (omega arith))))

      short' : (i : ℕ) → i < length pos + a → (i < length pos) ⊎ ((k : ℕ) × (i ≡ length pos + k)) → length (get_or (below pos s a) i []) ≤ 8
      short' i h (inl b) = rw (below-low pos s a i b) (S.short i b)
      short' i h (inr (k, r)) = rw (r, below-high pos s a k (omega arith), length-append (get_or pos s []) (suc k ∷ [])) (omega arith)

      inside' : (i : ℕ) → i < length pos + a → (i < length pos) ⊎ ((k : ℕ) × (i ≡ length pos + k)) → get_or (slots ++ hs) i 0 < length g
      inside' i h (inl b) = rw (low i b) (S.inside i b)
      inside' i h (inr (k, r)) = rw (r, high k) (look-inside (get_or slots s 0) y hs k (S.inside s p) e (omega arith))

module _ (m : Program) (g : Graph) (t₀ : ℕ) (N₀ : List ℕ) where
  rule-runs : (pos : Positions) (slots : List ℕ) → Sees pos slots t₀ g → (rs : List Right) → Some rs → FineRights m (length pos) rs
      → (I : List ℕ) (R : Option ℕ) (F : List ℕ) → Halts m (length (of_rule pos rs)) (st (emit (of_rule pos rs) ++ I) (t₀ ∷ N₀) R [] F g) (rule_stop g t₀ N₀ rs slots)
  unfolding of_rule rule_stop run emit need
  rule-runs pos slots S [] o f I R F = absurd o
  rule-runs pos slots S (r ∷ []) o (f, fs) I R F =
      let p = build_right r slots g in
      halts-more m (length (of_right pos r) + 2) (length (of_right pos r ++ pop ∷ replace ∷ [])) _ _ (rw length-append (omega arith))
      (rw (code-append (of_right pos r) (pop ∷ replace ∷ []) I)
      (right-runs m pos slots t₀ N₀ g S r f (emit (pop ∷ replace ∷ []) ++ I) R [] F g ([], sym (append-nil g)) 2 _ λ R' F'.
      halts-next m pop (replace ∷ []) I (t₀ ∷ N₀) R' (p.1 ∷ []) F' p.0 1 (st (emit (replace ∷ []) ++ I) (t₀ ∷ N₀) (some p.1) [] F' p.0) _ tt refl
      (halts-last m replace [] I (t₀ ∷ N₀) (some p.1) [] F' p.0 _ tt refl)))
  rule-runs pos slots S (r ∷ r' ∷ rs) o f I R F =
      let p = build_rights (r ∷ r' ∷ rs) slots g in
      halts-more m (length (of_rights pos (r ∷ r' ∷ rs)) + 1) (length (of_rights pos (r ∷ r' ∷ rs) ++ choice ∷ [])) _ _ (rw length-append (omega arith))
      (rw (code-append (of_rights pos (r ∷ r' ∷ rs)) (choice ∷ []) I)
      (rights-run m pos slots t₀ N₀ g S (r ∷ r' ∷ rs) f (emit (choice ∷ []) ++ I) R [] F g ([], sym (append-nil g)) 1 _ λ R' F'.
      halts-last m choice [] I (t₀ ∷ N₀) R' (reverse_aux p.1 []) F' p.0 _ tt (rw (reverse_aux-reverse_aux-nil p.1 []))))

module _ {K : Symbol → ℕ → Type 0} (m : Program) (g : Graph) (G : Good K g) (t₀ : ℕ) (N₀ : List ℕ) where
  arm_runs : (t : ℕ) (R : ℕ) → R < length g → (I F : List ℕ)
      → Halts m (length (of_instances (first_con m.types t) (cons_of m.types t)) + 1)
      (st (emit (of_instances (first_con m.types t) (cons_of m.types t)) ++ I) (t₀ ∷ N₀) (some R) [] F g) (stop_of m g t₀ N₀ (narrows (follow g R) t))
  unfolding stop_of run need
  arm_runs t R i I F =
      let p = instances (first_con m.types t) (cons_of m.types t) g in
      let w : Grown g p.0 = grown-instances (cons_of m.types t) (first_con m.types t) g g ([], sym (append-nil g)) in
      instances-run m (cons_of m.types t) (first_con m.types t) I (t₀ ∷ N₀) (some R) [] F g 1 _ (arities-at m t)
      (halts-last m narrow [] I (t₀ ∷ N₀) (some R) (reverse_aux p.1 []) F p.0 _ tt (rw (reverse_aux-reverse_aux-nil p.1 []) (ap (λ (v : ℕ). ends (parts v p.1 p.0)) (follow-grown G w R i))))

  trees-length : (ts : Trees) (pos : Positions) (s : ℕ) (arities : List ℕ) (at₀ : ℕ) → FineTrees m pos s ts arities → length (of_trees m.types ts arities pos s at₀) ≡ length arities
  unfolding of_trees
  trees-length stop pos s [] at₀ f = refl
  trees-length stop pos s (a ∷ more) at₀ f = absurd f
  trees-length (child t ts) pos s [] at₀ f = absurd f
  trees-length (child t ts) pos s (a ∷ more) at₀ (f, fs) = ap suc (trees-length ts pos s more (at₀ + length (emit (of_tree m.types t (below pos s a) at₀))) fs)

module _ (m : Program) (g : Graph) (G : Good (Takes m) g) (t₀ : ℕ) (N₀ : List ℕ) (small : length m.code < 2 ^ 32) where
  -- what the trees of the children are known to do
  abbrev TreesRun : Trees → Type 0
  TreesRun ts = (arities : List ℕ) (pos : Positions) (s at₀ : ℕ) → At m.code at₀ (emit (flat (of_trees m.types ts arities pos s at₀))) → FineTrees m pos s ts arities
      → (j : ℕ) → j < length arities → (slots : List ℕ) → Sees (below pos s (get_or arities j 0)) slots t₀ g → (R : Option ℕ) (F : List ℕ)
      → Halts m (length (flat (of_trees m.types ts arities pos s at₀))) (st (drop (get_or (offsets at₀ (of_trees m.types ts arities pos s at₀)) j 0) m.code) (t₀ ∷ N₀) R [] F g)
      (stop_of m g t₀ N₀ (walk_child ts m.types g slots j))

  -- a SPLIT
  module _ (s t : ℕ) (ts : Trees) (run-ts : TreesRun ts) (pos : Positions) (at₀ : ℕ) (A : At m.code at₀ (emit (of_tree m.types (split s t ts) pos at₀)))
      (f : FineTree m pos (split s t ts)) (slots : List ℕ) (S : Sees pos slots t₀ g) where
    abbrev arm : List Instr
    arm = of_instances (first_con m.types t) (cons_of m.types t)

    abbrev arm_at : ℕ
    arm_at = at₀ + 12 + 5 * suc (length (cons_of m.types t))

    abbrev rest-blocks : List (List Instr)
    rest-blocks = of_trees m.types ts (cons_of m.types t) pos s (arm_at + length (emit arm))

    abbrev offs : List ℕ
    offs = offsets arm_at (arm ∷ rest-blocks)

    abbrev more : List Instr
    more = map go offs ++ flat (arm ∷ rest-blocks)

    offs-length : length offs ≡ suc (length (cons_of m.types t))
    offs-length = offsets-length (arm ∷ rest-blocks) arm_at ∙ ap suc (trees-length m g G t₀ N₀ ts pos s (cons_of m.types t) (arm_at + length (emit arm)) f.2)

    front_length : at₀ + length (emit (load (get_or pos s []) ∷ branch t ∷ map go offs)) ≡ arm_at
    front_length = rw (front (get_or pos s []) t (map go offs), gos-length offs, offs-length) (omega arith)

    blocks_at : At m.code arm_at (emit (flat (arm ∷ rest-blocks)))
    unfolding of_tree
    blocks_at =
        let e = emit-append (load (get_or pos s []) ∷ branch t ∷ map go offs) (flat (arm ∷ rest-blocks)) in
        let A' : At m.code at₀ (emit (load (get_or pos s []) ∷ branch t ∷ map go offs) ++ emit (flat (arm ∷ rest-blocks))) = rw e at A in
        rw front_length at (at_back m.code at₀ (emit (load (get_or pos s []) ∷ branch t ∷ map go offs)) (emit (flat (arm ∷ rest-blocks))) A')

    -- the code that the j-th GO leads to
    jumps : (j : ℕ) → j < length offs → jump m (emit more ++ A.rest) j ≡ drop (get_or offs j 0) m.code
    unfolding jump
    jumps j p =
        let e : from_four (drop (5 * j + 1) (emit more ++ A.rest)) ≡ get_or offs j 0 =
        rw (code-append (map go offs) (flat (arm ∷ rest-blocks)) A.rest)
        (gos-at offs j (emit (flat (arm ∷ rest-blocks)) ++ A.rest) p (bound (offsets-bound (arm ∷ rest-blocks) arm_at j (rw (offsets-length (arm ∷ rest-blocks) arm_at) at p)))) in
        ap (λ (o : ℕ). drop o m.code) e
      where
        bound : get_or offs j 0 ≤ arm_at + length (emit (flat (arm ∷ rest-blocks))) → get_or offs j 0 < 2 ^ 32
        bound h = let k = blocks_at.fits in omega arith

    abbrev R₁ : ℕ
    R₁ = get_or slots s 0

    abbrev Goal : ℕ → List ℕ → Type 0
    Goal R F = Halts m (suc (length more)) (st (emit (branch t ∷ more) ++ A.rest) (t₀ ∷ N₀) (some R) [] F g) (stop_of m g t₀ N₀ (walk (split s t ts) m.types g slots))

    abbrev I₁ : List ℕ
    I₁ = emit more ++ A.rest

    -- the end of the code is the end of the walk
    ended : (F : List ℕ) (r : Reached) → walk (split s t ts) m.types g slots ≡ r → run (λ x. x) own m (branch t) (st I₁ (t₀ ∷ N₀) (some R₁) [] F g) ≡ ends (stop_of m g t₀ N₀ r) → Goal R₁ F
    ended F r e d = rw e (halts-more m 1 (suc (length more)) _ _ (omega arith) (halts-last m (branch t) more A.rest (t₀ ∷ N₀) (some R₁) [] F g _ tt d))

    arm-at : At m.code arm_at (emit arm)
    unfolding flat
    arm-at = at_front m.code arm_at (emit arm) (emit (flat rest-blocks)) (rw (emit-append arm (flat rest-blocks)) at blocks_at)

    rest_at : At m.code (arm_at + length (emit arm)) (emit (flat rest-blocks))
    unfolding flat
    rest_at = at_back m.code arm_at (emit arm) (emit (flat rest-blocks)) (rw (emit-append arm (flat rest-blocks)) at blocks_at)

    more-length : length more ≡ suc (length (cons_of m.types t)) + (length arm + length (flat rest-blocks))
    unfolding flat
    more-length = rw (length-append (map go offs) (arm ++ flat rest-blocks), length-append arm (flat rest-blocks), length-map offs go, offs-length)

    con-arity : (c : ℕ) (hs : List ℕ) (j : ℕ) → look g R₁ ≡ cell (con c) hs → Placed m.types t c j → length hs ≡ get_or (cons_of m.types t) j 0
    unfolding look arity_of
    con-arity c hs j e P = (G.fine (follow g R₁) (con c) hs e).exact ∙ rw P.number (arity-at m.types t j P.small)

    to-child : (F : List ℕ) (c : ℕ) (hs : List ℕ) → look g R₁ ≡ cell (con c) hs → (o : Option ℕ) → place m.types t c ≡ o → Goal R₁ F
    unfolding stop_of offsets
    to-child F c hs e none eo = ended F misfits (walk_none m.types s t ts g slots c hs e eo) (branch-none m t I₁ (t₀ ∷ N₀) R₁ [] F g c hs e eo)
    to-child F c hs e (some j) eo =
        let P = placed m.types t c j eo in
        let q : j < length (cons_of m.types t) = P.small in
        let a : length hs ≡ get_or (cons_of m.types t) j 0 = con-arity c hs j e P in
        rw (walk-some m.types s t ts g slots c hs j e eo)
        (halts-next m (branch t) more A.rest (t₀ ∷ N₀) (some R₁) [] F g (length more) (st (jump m I₁ (suc j)) (t₀ ∷ N₀) (some R₁) [] F g) _ tt (branch-some m t I₁ (t₀ ∷ N₀) R₁ [] F g c hs j e eo)
        (rw (jumps (suc j) (rw offs-length (omega arith)))
        (halts-more m (length (flat rest-blocks)) (length more) _ _ (rw more-length (omega arith))
        (run-ts (cons_of m.types t) pos s (arm_at + length (emit arm)) rest_at f.2 j q (slots ++ hs)
        (sees_below m g G t₀ N₀ pos slots s (get_or (cons_of m.types t) j 0) (con c) hs S f.0 f.1 e a) (some R₁) F))))

    branched : (F : List ℕ) (x : Node) → look g R₁ ≡ x → Goal R₁ F
    unfolding stop_of offsets
    branched F (cell (fun h) hs) e = ended F (demands (follow g R₁)) (walk-fun m.types s t ts g slots h hs e) (branch-fun m t I₁ (t₀ ∷ N₀) R₁ [] F g h hs e)
    branched F (cell (con c) hs) e = to-child F c hs e (place m.types t c) refl
    branched F var e =
        rw (walk-var m.types s t ts g slots e)
        (halts-next m (branch t) more A.rest (t₀ ∷ N₀) (some R₁) [] F g (length more) (st (jump m I₁ 0) (t₀ ∷ N₀) (some R₁) [] F g) _ tt (branch-var m t I₁ (t₀ ∷ N₀) R₁ [] F g e)
        (rw (jumps 0 (rw offs-length (omega arith)))
        (rw arm-at.here (halts-more m (length arm + 1) (length more) _ _ (rw more-length (omega arith)) (arm_runs m g G t₀ N₀ t R₁ (S.inside s f.0) arm-at.rest F)))))
    branched F (fwd k) e = ended F stuck (walk-fwd m.types s t ts g slots k e) (branch-fwd m t I₁ (t₀ ∷ N₀) R₁ [] F g k e)

    split_runs : (R : Option ℕ) (F : List ℕ) → Halts m (length (of_tree m.types (split s t ts) pos at₀)) (st (drop at₀ m.code) (t₀ ∷ N₀) R [] F g) (stop_of m g t₀ N₀ (walk (split s t ts) m.types g slots))
    unfolding of_tree run need
    split_runs R F =
        rw A.here
        (halts-next m (load (get_or pos s [])) (branch t ∷ more) A.rest (t₀ ∷ N₀) R [] F g (suc (length more)) (st (emit (branch t ∷ more) ++ A.rest) (t₀ ∷ N₀) (some R₁) [] F g) _ (omega (arith, f.1))
        (rw (S.see g ([], sym (append-nil g)) s f.0)) (branched F (look g R₁) refl))

  mutual
    unfolding of_tree of_trees walk walk_child stop_of offsets flat run

    pub tree-runs : (t : Tree) (pos : Positions) (at₀ : ℕ) → At m.code at₀ (emit (of_tree m.types t pos at₀)) → FineTree m pos t
        → (slots : List ℕ) → Sees pos slots t₀ g → (R : Option ℕ) (F : List ℕ)
        → Halts m (length (of_tree m.types t pos at₀)) (st (drop at₀ m.code) (t₀ ∷ N₀) R [] F g) (stop_of m g t₀ N₀ (walk t m.types g slots))
    tree-runs (split s t ts) pos at₀ A f slots S R F = split_runs s t ts (λ arities pos s at₀ A f j p slots S R F. trees-run ts arities pos s at₀ A f j p slots S R F) pos at₀ A f slots S R F
    tree-runs (rule rs) pos at₀ A (o, f) slots S R F = rw A.here (rule-runs m g t₀ N₀ pos slots S rs o f A.rest R F)
    tree-runs norule pos at₀ A f slots S R F = rw A.here (halts-last m fail [] A.rest (t₀ ∷ N₀) R [] F g _ tt refl)

    pub trees-run : (ts : Trees) (arities : List ℕ) (pos : Positions) (s at₀ : ℕ) → At m.code at₀ (emit (flat (of_trees m.types ts arities pos s at₀))) → FineTrees m pos s ts arities
        → (j : ℕ) → j < length arities → (slots : List ℕ) → Sees (below pos s (get_or arities j 0)) slots t₀ g → (R : Option ℕ) (F : List ℕ)
        → Halts m (length (flat (of_trees m.types ts arities pos s at₀))) (st (drop (get_or (offsets at₀ (of_trees m.types ts arities pos s at₀)) j 0) m.code) (t₀ ∷ N₀) R [] F g)
        (stop_of m g t₀ N₀ (walk_child ts m.types g slots j))
    trees-run stop [] pos s at₀ A f j p slots S R F = absurd (not-suc-le-zero p)
    trees-run stop (a ∷ more) pos s at₀ A f j p slots S R F = absurd f
    trees-run (child t ts) [] pos s at₀ A f j p slots S R F = absurd f
    trees-run (child t ts) (a ∷ more) pos s at₀ A (f, fs) zero p slots S R F =
        let b = of_tree m.types t (below pos s a) at₀ in
        let bs = of_trees m.types ts more pos s (at₀ + length (emit b)) in
        halts-more m (length b) (length (b ++ flat bs)) _ _ (rw (length-append b (flat bs)) (omega arith))
        (tree-runs t (below pos s a) at₀ (at_front m.code at₀ (emit b) (emit (flat bs)) (rw (emit-append b (flat bs)) at A)) f slots S R F)
    trees-run (child t ts) (a ∷ more) pos s at₀ A (f, fs) (suc j) p slots S R F =
        let b = of_tree m.types t (below pos s a) at₀ in
        let bs = of_trees m.types ts more pos s (at₀ + length (emit b)) in
        halts-more m (length (flat bs)) (length (b ++ flat bs)) _ _ (rw (length-append b (flat bs)) (omega arith))
        (trees-run ts more pos s (at₀ + length (emit b)) (at_back m.code at₀ (emit b) (emit (flat bs)) (rw (emit-append b (flat bs)) at A)) fs j (le_of_suc-le-suc p) slots S R F)
