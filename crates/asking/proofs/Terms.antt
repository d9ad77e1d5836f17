-- Laws of single writes: what stays beside them, the pending handles, variables, one record walked over.
-- Here, in order: what stays; pending handles; a graph at the first numbers; variables; a record by its kind; a record walked over.
-- Assumes nothing.
use Prim.Native.Nat.{ℕ, zero, suc, ◌+◌, ◌-◌, ◌*◌, ◌≤◌, ◌<◌}
use native.Mathlib.Omega.{arith}
use native.Mathlib.Numerals.{add-one}
use mathlib.Core.Path.{◌≡◌, refl, ap, sym, ◌∙◌}
use mathlib.Core.List.{List, [], ◌∷◌, ◌++◌, append_assoc}
use lib.ListN.{length, get_or, take, drop, set, replicate, length-drop, length-append, length-replicate, replicate-append-replicate}
use lib.Seq.{drop-set-add, get_or-set_same, get_or-set_other, get_or-drop, get_or-take, drop-drop, drop-cons, set_at, drop-append-add}
use borrow.Author.Tests.{eq-eqb, ne_eqb}
use Rattle.book.specs.Syntax.{Symbol, con, fun}
use Rattle.mem.proofs.Laws.{wrote, only_wrote, only_then}
use Rattle.heap.specs.Graph.{Graph, Node, cell, var}
use Rattle.store.specs.Regions.{graph_of, rest_of, Memory, Did, set_node, set_rest}
use Rattle.store.proofs.Laws.{length-graph}
use Rattle.store.proofs.Writes.{length_rest}
use Rattle.store.specs.Rows.{symbol_of}
use Rattle.store.specs.declared.Head.TheVariants.{Makes, Calls}
use Rattle.pool.proofs.Laws.{roots-step}
use Rattle.asking.specs.Question.{Space, terms_at, Beside, terms_of, pre_terms, over, VarsPut, cell_at, cells, symbol_at, arity_by, arity_at, nodes_after, terms_after, CanStep, Stepped}

-- nothing was written
pub beside_none : (L a b : ℕ) (s : List ℕ) → Beside L a b s s
beside_none L a b s = record { marks = refl; links = refl; list = refl; places = refl; frames = refl; rest = record { before = refl; behind = refl; long = refl }; long = refl }

pub beside-then : {L a b : ℕ} {s s' s'' : List ℕ} → Beside L a b s s' → Beside L a b s' s'' → Beside L a b s s''
beside-then o p =
    record {
      marks = p.marks ∙ o.marks;
      links = p.links ∙ o.links;
      list = p.list ∙ o.list;
      places = p.places ∙ o.places;
      frames = p.frames ∙ o.frames;
      rest = only_then o.rest p.rest;
      long = p.long ∙ o.long;
    }

-- a node was written
pub beside-node : {L n : ℕ} {x : Node} {s s' : List ℕ} (a b : ℕ) → Did L s s' (set_node n x) → Beside L a b s s'
beside-node a b d =
    let r = ap (λ (m : Memory). m.rest) d.is in
    record {
      marks = ap (λ (m : Memory). m.marks) d.is;
      links = ap (λ (m : Memory). m.links) d.is;
      list = ap (λ (m : Memory). m.list) d.is;
      places = ap (λ (m : Memory). m.places) d.is;
      frames = ap (λ (m : Memory). m.frames) d.is;
      rest = record { before = ap (take a) r; behind = ap (drop b) r; long = ap length r };
      long = d.long;
    }

-- a word of the rest was written
pub beside-word : {L k v a b : ℕ} {s s' : List ℕ} → Did L s s' (set_rest k v) → a ≤ k → k < b → Beside L a b s s'
beside-word d h h' =
    record {
      marks = ap (λ (m : Memory). m.marks) d.is;
      links = ap (λ (m : Memory). m.links) d.is;
      list = ap (λ (m : Memory). m.list) d.is;
      places = ap (λ (m : Memory). m.places) d.is;
      frames = ap (λ (m : Memory). m.frames) d.is;
      rest = only_wrote h h' (wrote (ap (λ (m : Memory). m.rest) d.is));
      long = d.long;
    }

-- a word before what was written
pub word-beside : {L a b : ℕ} {s s' : List ℕ} → Beside L a b s s' → (k : ℕ) → k < a → get_or (rest_of L s') k 0 ≡ get_or (rest_of L s) k 0
word-beside {L} {a} {b} {s} {s'} o k h = sym (get_or-take {A = ℕ} a (rest_of L s') k 0 h) ∙ ap (λ (l : List ℕ). get_or l k 0) o.rest.before ∙ get_or-take {A = ℕ} a (rest_of L s) k 0 h

-- pending handles: how many, which, those under some, and one more
terms-long : (d : ℕ) (w : List ℕ) → length (terms_of d w) ≡ d
unfolding terms_of
terms-long zero w = refl
terms-long (suc d) w = ap suc (terms-long d w)

pub depth_is : (L base : ℕ) (s : List ℕ) (d : ℕ) → length (pre_terms L base s d) ≡ d
unfolding pre_terms
depth_is L base s d = terms-long d (drop (base + terms_at) (rest_of L s))

terms-at : (d j : ℕ) (w : List ℕ) → j < d → get_or (terms_of d w) j 0 ≡ get_or w (d - 1 - j) 0
unfolding terms_of
terms-at zero j w h = absurd (omega arith)
terms-at (suc d) zero w h = let e : suc d - 1 - zero ≡ d = omega arith in rw e
terms-at (suc d) (suc j) w h = let e : suc d - 1 - suc j ≡ d - 1 - j = omega arith in rw e (terms-at d j w (omega arith))

terms-under : (d a : ℕ) (w : List ℕ) → a ≤ d → terms_of (d - a) w ≡ drop a (terms_of d w)
unfolding terms_of
terms-under d zero w h = let e : d - zero ≡ d = omega arith in rw e
terms-under zero (suc a) w h = absurd (omega arith)
terms-under (suc d) (suc a) w h = let e : suc d - suc a ≡ d - a = omega arith in rw e (terms-under d a w (omega arith))

pre-under : (L base a d : ℕ) (s s' : List ℕ) → rest_of L s' ≡ rest_of L s → a ≤ d → pre_terms L base s' (d - a) ≡ drop a (pre_terms L base s d)
unfolding pre_terms
pre-under L base a d s s' r h = rw r (terms-under d a (drop (base + terms_at) (rest_of L s)) h)

terms-far : (d j v : ℕ) (w : List ℕ) → d ≤ j → terms_of d (set w j v) ≡ terms_of d w
unfolding terms_of
terms-far zero j v w h = refl
terms-far (suc d) j v w h = λ i. get_or-set_other w j d v 0 (omega arith) i ∷ terms-far d j v w (omega arith) i

pub terms-push : (L base d v : ℕ) (s s' : List ℕ) → Space L base s → d < 320 → Did L s s' (set_rest (base + terms_at + d) v) → pre_terms L base s' (d + 1) ≡ v ∷ pre_terms L base s d
unfolding pre_terms terms_of
terms-push L base d v s s' z h did =
    let k : ℕ = base + terms_at in
    let w : List ℕ = drop k (rest_of L s) in
    let e : drop k (rest_of L s') ≡ set w d v = ap (λ (m : Memory). drop k m.rest) did.is ∙ drop-set-add k (rest_of L s) d v in
    let n : d < length w = simp (length-drop, length_rest) (omega arith) in
    rw (e, add-one d, get_or-set_same w d v 0 n, terms-far d d v w (omega arith))

-- one more of the first pending handles
pub taken_step : (L base d j v : ℕ) (s l l' : List ℕ) → length l ≡ 8 → j < 8 → j < d → take j l ≡ take j (pre_terms L base s d) → l' ≡ set l j v → v ≡ get_or (rest_of L s) (base + terms_at + (d - 1 - j)) 0 → take (j + 1) l' ≡ take (j + 1) (pre_terms L base s d)
unfolding pre_terms
taken_step L base d j v s l l' h h' g e f u =
    let k : ℕ = base + terms_at in
    let w : List ℕ = drop k (rest_of L s) in
    roots-step l l' (terms_of d w) j v (omega arith) (omega (arith, terms-long d w)) e f (u ∙ sym (get_or-drop {A = ℕ} k (rest_of L s) (d - 1 - j) 0) ∙ sym (terms-at d j w g))

-- a graph at the first numbers: none, and one node more
pub over-long : (g nodes : Graph) → length g ≤ length nodes → length (over g nodes) ≡ length nodes
unfolding over
over-long g nodes h = simp (length-append, length-drop) (omega arith)

pub over-set : (g nodes : Graph) (x : Node) → length g < length nodes → set (over g nodes) (length g) x ≡ over (g ++ x ∷ []) nodes
unfolding over
over-set g nodes x h =
    let n : length (g ++ x ∷ []) ≡ suc (length g) = length-append g (x ∷ []) ∙ omega arith in
    rw (drop-cons nodes (length g) var h, set_at g (get_or nodes (length g) var) (drop (suc (length g)) nodes) x (length g) refl, n, append_assoc g (x ∷ []) (drop (suc (length g)) nodes))

-- a larger graph over a smaller one
pub over-over : (g h nodes : Graph) → length h ≤ length g → over g (over h nodes) ≡ over g nodes
unfolding over
over-over g h nodes l =
    let e : length g ≡ length h + (length g - length h) = omega arith in
    ap (λ (t : Graph). g ++ t) (ap (λ (i : ℕ). drop i (h ++ drop (length h) nodes)) e ∙ drop-append-add h (drop (length h) nodes) (length g - length h) ∙ drop-drop (length g - length h) (length h) nodes ∙ ap (λ (i : ℕ). drop i nodes) (sym e))

-- variables, one by one
pub vars-none : (L : ℕ) (s : List ℕ) → VarsPut L 0 s s
unfolding over
vars-none L s = record { graph = refl; rest = refl; beside = λ a b. beside_none L a b s }

pub vars-step : (L i : ℕ) (s s' s'' : List ℕ) → i < L → VarsPut L i s s' → Did L s' s'' (set_node i var) → VarsPut L (i + 1) s s''
vars-step L i s s' s'' h v d =
    let n : length (replicate i var) ≡ i = length-replicate i var in
    let e : set (over (replicate i var) (graph_of L s)) i var ≡ over (replicate i var ++ var ∷ []) (graph_of L s) = rw n at (over-set (replicate i var) (graph_of L s) var (omega (arith, length-graph L s, n))) in
    record {
      graph = ap (λ (m : Memory). m.graph) d.is ∙ ap (λ (g : Graph). set g i var) v.graph ∙ e ∙ ap (λ (g : Graph). over g (graph_of L s)) (replicate-append-replicate i 1 var);
      rest = ap (λ (m : Memory). m.rest) d.is ∙ v.rest;
      beside = λ a b. beside-then (v.beside a b) (beside-node a b d);
    }

-- a record by its kind
pub cell-fresh : (kind : ℕ) → kind ≡ 10 → cell_at kind ≡ 0
unfolding cell_at
cell-fresh kind h = rw (eq-eqb kind 10 h, cell_at)

pub cell_other : (kind : ℕ) → (kind ≡ 10 → ⊥) → cell_at kind ≡ 1
unfolding cell_at
cell_other kind h = rw (ne_eqb kind 10 h, cell_at)

-- the nodes of the records from the k-th on, with those of the first k
cells-step : (q : List ℕ) (n k : ℕ) → k < n → cells q (2 + 2 * k) (n - k) ≡ cell_at (get_or q (2 + 2 * k) 0) + cells q (2 + 2 * (k + 1)) (n - (k + 1))
unfolding cells
cells-step q n k h =
    let e : n - k ≡ suc (n - (k + 1)) = omega arith in
    let f : 2 + 2 * k + 2 ≡ 2 + 2 * (k + 1) = omega arith in
    rw (e, cells, f)

module _ (q : List ℕ) (n k count : ℕ) where
  pub count-more : k < n → (get_or q (2 + 2 * k) 0 ≡ 10 → ⊥) → count + cells q (2 + 2 * k) (n - k) ≡ cells q 2 n → count + 1 + cells q (2 + 2 * (k + 1)) (n - (k + 1)) ≡ cells q 2 n
  count-more h t e = let a = cells-step q n k h in let b = cell_other _ t in omega arith

  pub count_same : k < n → get_or q (2 + 2 * k) 0 ≡ 10 → count + cells q (2 + 2 * k) (n - k) ≡ cells q 2 n → count + cells q (2 + 2 * (k + 1)) (n - (k + 1)) ≡ cells q 2 n
  count_same h t e = let a = cells-step q n k h in let b = cell-fresh _ t in omega arith

  pub count-end : n ≤ k → count + cells q (2 + 2 * k) (n - k) ≡ cells q 2 n → count ≡ cells q 2 n
  unfolding cells
  count-end h e = let a : n - k ≡ 0 = omega arith in let b : count + 0 ≡ cells q 2 n = rw a at e in omega arith

-- heads of cells
pub makes-con : (n : ℕ) → symbol_of (Makes (record { 0 = n })) ≡ con n
unfolding symbol_of
makes-con n = refl

pub calls-fun : (n : ℕ) → symbol_of (Calls (record { 0 = n })) ≡ fun n
unfolding symbol_of
calls-fun n = refl

module _ (kind n : ℕ) where
  pub symbol-con : kind ≡ 7 → symbol_at kind n ≡ con n
  unfolding symbol_at
  symbol-con h = rw (eq-eqb kind 7 h, symbol_at)

  pub symbol-fun : (kind ≡ 7 → ⊥) → symbol_at kind n ≡ fun n
  unfolding symbol_at
  symbol-fun h = rw (ne_eqb kind 7 h, symbol_at)

  module _ (base : ℕ) (rest : List ℕ) where
    pub arity-con : kind ≡ 7 → arity_at base rest kind n ≡ get_or rest (base + 768 + n) 0
    unfolding arity_at arity_by
    arity-con h = rw (symbol-con h)

    pub arity-fun : (kind ≡ 7 → ⊥) → arity_at base rest kind n ≡ get_or rest (base + 512 + n) 0
    unfolding arity_at arity_by
    arity-fun h = rw (symbol-fun h)

    -- by the head that was made for it
    pub arity-is : (y : Symbol) (r : ℕ) → r ≡ arity_by base rest y → y ≡ symbol_at kind n → r ≡ arity_at base rest kind n
    unfolding arity_at
    arity-is y r e f = e ∙ (rw f)

  module _ (a made : ℕ) (g : Graph) (T : List ℕ) where
    pub nodes-fresh : kind ≡ 10 → nodes_after kind n a made g T ≡ g
    unfolding nodes_after
    nodes-fresh h = rw (eq-eqb kind 10 h, nodes_after)

    pub nodes-cell : (kind ≡ 10 → ⊥) → nodes_after kind n a made g T ≡ set g made (cell (symbol_at kind n) (take a T))
    unfolding nodes_after
    nodes-cell h = rw (ne_eqb kind 10 h, nodes_after)

    pub terms-fresh : kind ≡ 10 → terms_after kind n a made T ≡ n ∷ T
    unfolding terms_after
    terms-fresh h = rw (eq-eqb kind 10 h, terms_after)

    pub terms-cell : (kind ≡ 10 → ⊥) → terms_after kind n a made T ≡ made ∷ drop a T
    unfolding terms_after
    terms-cell h = rw (ne_eqb kind 10 h, terms_after)

-- a FRESH walked over
pub fresh-stepped : (L base made depth kind n : ℕ) (s s' : List ℕ) → kind ≡ 10 → CanStep L base made depth kind n s → Did L s s' (set_rest (base + terms_at + depth) n) → Stepped L base made depth kind n s s' (record { made = made; depth = depth + 1 })
fresh-stepped L base made depth kind n s s' h c d =
    record {
      graph = ap (λ (m : Memory). m.graph) d.is ∙ sym (nodes-fresh kind n _ made (graph_of L s) (pre_terms L base s depth) h);
      terms = terms-push L base depth n s s' c.space c.deep d ∙ sym (terms-fresh kind n _ made (graph_of L s) (pre_terms L base s depth) h);
      count = rw (cell-fresh kind h) (omega arith);
      beside = beside-word d (omega arith) (let z = c.deep in omega arith);
    }

-- a symbol walked over
pub cell-stepped : (L base made depth kind n a : ℕ) (y : Symbol) (xs s s' s'' : List ℕ) → (kind ≡ 10 → ⊥) → CanStep L base made depth kind n s → a ≡ arity_at base (rest_of L s) kind n → y ≡ symbol_at kind n → take a xs ≡ take a (pre_terms L base s depth)
    → Did L s s' (set_node made (cell y (take a xs))) → Did L s' s'' (set_rest (base + terms_at + (depth - a)) made) → Stepped L base made depth kind n s s'' (record { made = made + 1; depth = depth - a + 1 })
cell-stepped L base made depth kind n a y xs s s' s'' h c e f g d d' =
    let T : List ℕ = pre_terms L base s depth in
    let small = (c.cell h).2 in
    let le : a ≤ depth = omega arith in
    let less : depth - a < 320 = let z = c.deep in omega arith in
    let rest : rest_of L s' ≡ rest_of L s = ap (λ (m : Memory). m.rest) d.is in
    let z : Space L base s' = (c.space.0, c.space.1, omega (arith, d.long, c.space.2)) in
    record {
      graph = ap (λ (m : Memory). m.graph) d'.is ∙ ap (λ (m : Memory). m.graph) d.is ∙ sym (rw (nodes-cell kind n (arity_at base (rest_of L s) kind n) made (graph_of L s) T h, ← e, ← f, g));
      terms = terms-push L base (depth - a) made s' s'' z less d' ∙ ap (λ (l : List ℕ). made ∷ l) (pre-under L base a depth s s' rest le) ∙ sym (rw (terms-cell kind n (arity_at base (rest_of L s) kind n) made (graph_of L s) T h, ← e));
      count = rw (cell_other kind h);
      beside = beside-then (beside-node _ _ d) (beside-word d' (omega arith) (omega arith));
    }
