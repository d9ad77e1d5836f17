-- Laws of the walk over the records, from the last to the first: what is built of a suffix, and one record more.
-- Here, in order: building of joined terms; how many; what the walk has reached; a record that can be walked over; the walk goes on; its start and its end.
-- Assumes nothing.
use Prim.Native.Nat.{ℕ, zero, suc, ◌+◌, ◌-◌, ◌*◌, ◌≤◌, ◌<◌}
use native.Mathlib.Omega.{arith}
use mathlib.Core.Path.{◌≡◌, refl, ap, sym, ◌∙◌, subst}
use mathlib.Core.Logic.{◌⊎◌, inl, inr}
use mathlib.Core.List.{List, [], ◌∷◌, ◌++◌}
use lib.ListN.{length, get_or, take, drop, set, length-append, take-append-drop}
use lib.Seq.{length-take-le}
use Rattle.book.specs.Syntax.{Symbol, con, fun, Terms, fresh, done, arg}
use Rattle.book.specs.Reading.{applied, alone, first_terms, others_of, joined}
use Rattle.book.specs.Accepted.{count}
use Rattle.heap.specs.Graph.{Graph, cell}
use Rattle.heap.specs.Build.{up_from, build, build_all}
use Rattle.heap.proofs.Laws.Numbers.{up_from-at}
use Rattle.store.specs.Regions.{graph_of, rest_of}
use Rattle.store.proofs.Laws.{length-graph}
use Rattle.asking.specs.declared.Walk.{Walk}
use Rattle.asking.specs.Question.{Space, terms_at, terms_end, AskedOf, Beside, pre_terms, over, cell_at, cells, symbol_at, arity_at, CanStep, Stepped, WalkDone}
use Rattle.asking.proofs.Records.{head_of, head-con, head-fun, head-fresh, terms_from, Fits, Deep, deep-at, RightTold, cons_in, funcs_in, question-told}
use Rattle.asking.proofs.Terms.{beside_none, beside-then, word-beside, depth_is, over-set, cell-fresh, cell_other, symbol-con, symbol-fun, arity-con, arity-fun, nodes-fresh, nodes-cell, terms-fresh, terms-cell}

module _ (slots vars : List ℕ) where
  -- the first of some terms are built behind the others
  built-split : (a : ℕ) (ts : Terms) (g : Graph) → a ≤ count ts
      → ((build_all (others_of a ts) slots vars g).1 ≡ drop a (build_all ts slots vars g).1) × (build_all (first_terms a ts) slots vars (build_all (others_of a ts) slots vars g).0 ≡ ((build_all ts slots vars g).0, take a (build_all ts slots vars g).1))
  unfolding build build_all first_terms others_of
  built-split zero ts g h = (refl, refl)
  built-split (suc a) done g h = absurd (omega arith)
  built-split (suc a) (arg t ts) g h = let i = built-split a ts g (omega arith) in (i.0, rw i.1)

  -- a symbol's node behind those of all the terms, the first of which are its arguments
  joined-cell : (y : Symbol) (a : ℕ) (ts : Terms) (g : Graph) → a ≤ count ts
      → build_all (joined (applied y a) ts) slots vars g ≡ ((build_all ts slots vars g).0 ++ cell y (take a (build_all ts slots vars g).1) ∷ [], length (build_all ts slots vars g).0 ∷ drop a (build_all ts slots vars g).1)
  unfolding build build_all joined
  joined-cell y a ts g h = let i = built-split a ts g h in rw (i.1, i.0)

  -- a handle for each term
  built-count : (ts : Terms) (g : Graph) → length (build_all ts slots vars g).1 ≡ count ts
  unfolding build build_all
  built-count done g = refl
  built-count (arg t ts) g = ap suc (built-count ts g)

joined-fresh : (n v : ℕ) (ts : Terms) (g : Graph) → v < n → build_all (joined (alone (fresh v)) ts) [] (up_from 0 n) g ≡ ((build_all ts [] (up_from 0 n) g).0, v ∷ (build_all ts [] (up_from 0 n) g).1)
unfolding build build_all joined others_of
joined-fresh n v ts g h = let e : 0 + v ≡ v = omega arith in rw (up_from-at n 0 v h, e)

-- at most as many terms as records
others-few : (a : ℕ) (ts : Terms) → count (others_of a ts) ≤ count ts
unfolding others_of
others-few zero ts = omega arith
others-few (suc a) done = omega arith
others-few (suc a) (arg t ts) = let h = others-few a ts in omega arith

terms-few : (cons funcs q : List ℕ) (k n : ℕ) → count (terms_from cons funcs q k n) ≤ n
unfolding terms_from joined
terms-few cons funcs q k zero = omega arith
terms-few cons funcs q k (suc n) =
    let h = terms-few cons funcs q (k + 2) n in
    let i = others-few (head_of cons funcs (get_or q k 0) (get_or q (k + 1) 0)).args (terms_from cons funcs q (k + 2) n) in
    omega arith

-- what is built of the m records from place k on, behind the graph g, which begins with the variables
abbrev pub reached : List ℕ → List ℕ → ℕ → List ℕ → Graph → ℕ → ℕ → Graph × List ℕ
reached cons funcs vars q g k m = build_all (terms_from cons funcs q k m) [] (up_from 0 vars) g

module _ (cons funcs : List ℕ) (vars : ℕ) (q : List ℕ) (g : Graph) (k m : ℕ) where
  abbrev before : Graph × List ℕ
  before = reached cons funcs vars q g (k + 2) m

  -- one record more, by its kind
  on-cell : (y : Symbol) (a : ℕ) → head_of cons funcs (get_or q k 0) (get_or q (k + 1) 0) ≡ applied y a → a ≤ count (terms_from cons funcs q (k + 2) m)
      → reached cons funcs vars q g k (suc m) ≡ (before.0 ++ cell y (take a before.1) ∷ [], length before.0 ∷ drop a before.1)
  unfolding terms_from
  on-cell y a e h = rw e (joined-cell [] (up_from 0 vars) y a (terms_from cons funcs q (k + 2) m) g h)

  on-fresh : (v : ℕ) → head_of cons funcs (get_or q k 0) (get_or q (k + 1) 0) ≡ alone (fresh v) → v < vars → reached cons funcs vars q g k (suc m) ≡ (before.0, v ∷ before.1)
  unfolding terms_from
  on-fresh v e h = rw e (joined-fresh vars v (terms_from cons funcs q (k + 2) m) g h)

  -- it makes a node, or none
  on-length : Fits cons funcs vars (terms_from cons funcs q (k + 2) m) (get_or q k 0) (get_or q (k + 1) 0) → length (reached cons funcs vars q g k (suc m)).0 ≡ cell_at (get_or q k 0) + length before.0
  on-length (inl (e, h)) = rw (on-cell _ _ (head-con cons funcs _ _ e) h, cell_other (get_or q k 0) (λ z. omega arith), length-append) (omega arith)
  on-length (inr (inl (e, h))) = rw (on-cell _ _ (head-fun cons funcs _ _ e) h, cell_other (get_or q k 0) (λ z. omega arith), length-append) (omega arith)
  on-length (inr (inr (e, h))) = rw (on-fresh _ (head-fresh cons funcs _ _ e) h, cell-fresh (get_or q k 0) e) (omega arith)

pub built-cells : (cons funcs : List ℕ) (vars : ℕ) (q : List ℕ) (g : Graph) (k m : ℕ) → Deep cons funcs vars q k m → length (reached cons funcs vars q g k m).0 ≡ length g + cells q k m
unfolding Deep cells terms_from build_all
built-cells cons funcs vars q g k zero d = omega arith
built-cells cons funcs vars q g k (suc m) d =
    let h = on-length cons funcs vars q g k m d.0 in
    let i = built-cells cons funcs vars q g (k + 2) m d.1 in
    omega arith

-- the first records are more
cells-suffix : (q : List ℕ) (j k n m : ℕ) → n ≡ j + m → cells q (k + 2 * j) m ≤ cells q k n
unfolding cells
cells-suffix q zero k n m e =
    let a : n ≡ m = omega arith in
    let b : k + 2 * zero ≡ k = omega arith in
    rw (a, b) (omega arith)
cells-suffix q (suc j) k zero m e = absurd (omega arith)
cells-suffix q (suc j) k (suc n) m e =
    let b : k + 2 * suc j ≡ k + 2 + 2 * j = omega arith in
    let h = cells-suffix q j (k + 2) n m (omega arith) in
    rw b (omega arith)

-- what the walk has reached: the memory has what is built of the m records from place k on
pub record WalkedTo (L base : ℕ) (cons funcs : List ℕ) (vars : ℕ) (q s₀ s : List ℕ) (k m made depth : ℕ) : Type 0 where
  pub graph : graph_of L s ≡ over (reached cons funcs vars q (take vars (graph_of L s₀)) k m).0 (graph_of L s₀)
  pub terms : pre_terms L base s depth ≡ (reached cons funcs vars q (take vars (graph_of L s₀)) k m).1
  pub count : made ≡ length (reached cons funcs vars q (take vars (graph_of L s₀)) k m).0
  pub beside : Beside L (base + terms_at) (base + terms_end) s₀ s

first-long : (L vars : ℕ) (s : List ℕ) → vars ≤ L → length (take vars (graph_of L s)) ≡ vars
first-long L vars s h = length-take-le vars (graph_of L s) (omega (arith, length-graph L s))

-- before the last record
pub walk_start : (L base : ℕ) (cons funcs : List ℕ) (vars : ℕ) (q s : List ℕ) (k : ℕ) → vars ≤ L → WalkedTo L base cons funcs vars q s s k 0 vars 0
unfolding terms_from build_all over pre_terms
walk_start L base cons funcs vars q s k h =
    let e = first-long L vars s h in
    record { graph = sym (rw e (take-append-drop vars (graph_of L s))); terms = empty L base s; count = sym e; beside = beside_none L _ _ s }
  where
    empty : (L base : ℕ) (s : List ℕ) → pre_terms L base s 0 ≡ []
    empty L base s = let h = depth_is L base s 0 in none (pre_terms L base s 0) h
      where
        none : (l : List ℕ) → length l ≡ 0 → l ≡ []
        none [] e = refl
        none (x ∷ l) e = absurd (omega arith)

module _ {L base : ℕ} {s₀ q : List ℕ} (x : AskedOf L base s₀ q) (s : List ℕ) (k m made depth : ℕ) (few : get_or q (k + 1) 0 < 256)
    (W : WalkedTo L base (cons_in x) (funcs_in x) x.right.vars q s₀ s (k + 2) m made depth) where
  abbrev kind : ℕ
  kind = get_or q k 0

  abbrev num : ℕ
  num = get_or q (k + 1) 0

  abbrev there : Graph × List ℕ
  there = reached (cons_in x) (funcs_in x) x.right.vars q (take x.right.vars (graph_of L s₀)) (k + 2) m

  -- the tables say the arities
  arity-cons : kind ≡ 7 → arity_at base (rest_of L s) kind num ≡ get_or (cons_in x) num 0
  arity-cons h = arity-con kind num base (rest_of L s) h ∙ word-beside W.beside (base + 768 + num) (omega arith) ∙ x.arities.cons num few

  arity-funs : kind ≡ 8 → arity_at base (rest_of L s) kind num ≡ get_or (funcs_in x) num 0
  arity-funs h = arity-fun kind num base (rest_of L s) (λ z. omega arith) ∙ word-beside W.beside (base + 512 + num) (omega arith) ∙ x.arities.funs num few

  -- as many handles are pending as there are terms
  depth-count : depth ≡ count (terms_from (cons_in x) (funcs_in x) q (k + 2) m)
  depth-count = sym (depth_is L base s depth) ∙ ap length W.terms ∙ built-count [] (up_from 0 x.right.vars) (terms_from (cons_in x) (funcs_in x) q (k + 2) m) (take x.right.vars (graph_of L s₀))

  pub can-step : Space L base s₀ → x.right.vars ≤ L → m ≤ 255 → Deep (cons_in x) (funcs_in x) x.right.vars q k (suc m) → x.right.vars + cells q k (suc m) ≤ L → CanStep L base made depth kind num s
  unfolding Deep cells
  can-step z v n d l =
      let e = built-cells (cons_in x) (funcs_in x) x.right.vars q (take x.right.vars (graph_of L s₀)) (k + 2) m d.1 in
      let f = first-long L x.right.vars s₀ v in
      let t = terms-few (cons_in x) (funcs_in x) q (k + 2) m in
      let c = depth-count in
      let u = W.count in
      let o = W.beside.long in
      record { space = (z.0, z.1, omega arith); low = omega arith; deep = omega arith; cell = λ h. go h d.0 (let w = cell_other kind h in omega arith) }
    where
      go : (kind ≡ 10 → ⊥) → Fits (cons_in x) (funcs_in x) x.right.vars (terms_from (cons_in x) (funcs_in x) q (k + 2) m) kind num → made < L → (made < L) × (arity_at base (rest_of L s) kind num ≤ 8) × (arity_at base (rest_of L s) kind num ≤ depth)
      go h (inl (e, f)) w = let a = arity-cons e in let b = x.arities.small (con num) in let c = depth-count in (w, omega arith, omega arith)
      go h (inr (inl (e, f))) w = let a = arity-funs e in let b = x.arities.small (fun num) in let c = depth-count in (w, omega arith, omega arith)
      go h (inr (inr (e, f))) w = absurd (h e)

  module _ (s' : List ℕ) (r : Walk) (S : Stepped L base made depth kind num s s' r) where
    abbrev Goal : Type 0
    Goal = WalkedTo L base (cons_in x) (funcs_in x) x.right.vars q s₀ s' k (suc m) r.made r.depth

    made-cell : (kind ≡ 10 → ⊥) → made < L → (y : Symbol) (a : ℕ) → symbol_at kind num ≡ y → arity_at base (rest_of L s) kind num ≡ a
        → reached (cons_in x) (funcs_in x) x.right.vars q (take x.right.vars (graph_of L s₀)) k (suc m) ≡ (there.0 ++ cell y (take a there.1) ∷ [], length there.0 ∷ drop a there.1) → Goal
    made-cell h l y a e f p =
        let g : graph_of L s' ≡ set (graph_of L s) made (cell y (take a (pre_terms L base s depth))) = S.graph ∙ nodes-cell kind num _ made (graph_of L s) (pre_terms L base s depth) h ∙ rw (e, f) in
        let t : pre_terms L base s' r.depth ≡ made ∷ drop a (pre_terms L base s depth) = S.terms ∙ terms-cell kind num _ made (graph_of L s) (pre_terms L base s depth) h ∙ rw f in
        let u : length there.0 < length (graph_of L s₀) = omega (arith, W.count, length-graph L s₀) in
        record {
          graph = g ∙ rw (W.graph, W.terms, W.count, p) (over-set there.0 (graph_of L s₀) (cell y (take a there.1)) u);
          terms = t ∙ rw (W.terms, W.count, p);
          count = S.count ∙ rw (cell_other kind h, p, length-append) (omega (arith, W.count));
          beside = beside-then W.beside S.beside;
        }

    -- the walk goes on by a record
    pub walk-on : made < L ⊎ (kind ≡ 10) → Fits (cons_in x) (funcs_in x) x.right.vars (terms_from (cons_in x) (funcs_in x) q (k + 2) m) kind num → Goal
    walk-on o (inl (e, h)) = made-cell (λ z. omega arith) (room o) (con num) (get_or (cons_in x) num 0) (symbol-con kind num e) (arity-cons e) (on-cell _ _ _ _ _ _ _ _ _ (head-con _ _ _ _ e) h)
      where
        room : made < L ⊎ (kind ≡ 10) → made < L
        room (inl l) = l
        room (inr z) = absurd (omega arith)
    walk-on o (inr (inl (e, h))) = made-cell (λ z. omega arith) (room o) (fun num) (get_or (funcs_in x) num 0) (symbol-fun kind num (λ z. omega arith)) (arity-funs e) (on-cell _ _ _ _ _ _ _ _ _ (head-fun _ _ _ _ e) h)
      where
        room : made < L ⊎ (kind ≡ 10) → made < L
        room (inl l) = l
        room (inr z) = absurd (omega arith)
    walk-on o (inr (inr (e, h))) =
        let p = on-fresh (cons_in x) (funcs_in x) x.right.vars q (take x.right.vars (graph_of L s₀)) k m num (head-fresh (cons_in x) (funcs_in x) kind num e) h in
        record {
          graph = S.graph ∙ nodes-fresh kind num _ made (graph_of L s) (pre_terms L base s depth) e ∙ rw p W.graph;
          terms = S.terms ∙ terms-fresh kind num _ made (graph_of L s) (pre_terms L base s depth) e ∙ rw (W.terms, p);
          count = S.count ∙ rw (cell-fresh kind e, p) (omega (arith, W.count));
          beside = beside-then W.beside S.beside;
        }

-- the walk as the code counts it: `left` records are not walked over yet
module _ {L base : ℕ} {s₀ q : List ℕ} (x : AskedOf L base s₀ q) (n : ℕ) (size : length q ≡ 2 + 2 * n) where
  abbrev pub At : ℕ → List ℕ → ℕ → ℕ → Type 0
  At left s made depth = WalkedTo L base (cons_in x) (funcs_in x) x.right.vars q s₀ s (2 + 2 * left) (n - left) made depth

  told : RightTold q (cons_in x) (funcs_in x) x.right (length q)
  told = question-told x

  module _ (left : ℕ) (some : 0 < left) (low : left ≤ n) (s : List ℕ) (made depth : ℕ) (few : get_or q (2 + 2 * (left - 1) + 1) 0 < 256) (W : At left s made depth) where
    abbrev k : ℕ
    k = 2 + 2 * (left - 1)

    here : WalkedTo L base (cons_in x) (funcs_in x) x.right.vars q s₀ s (k + 2) (n - left) made depth
    here = let e : 2 + 2 * left ≡ k + 2 = omega arith in subst (λ (i : ℕ). WalkedTo L base (cons_in x) (funcs_in x) x.right.vars q s₀ s i (n - left) made depth) e W

    deep : Deep (cons_in x) (funcs_in x) x.right.vars q k (suc (n - left))
    deep = deep-at (cons_in x) (funcs_in x) x.right.vars q (left - 1) told.n 2 (suc (n - left)) (omega (arith, told.at)) told.deep

    module _ (z : Space L base s₀) (room : get_or q 1 0 + cells q 2 n ≤ L) where
      least : x.right.vars + cells q k (suc (n - left)) ≤ L
      least = let h = cells-suffix q (left - 1) 2 n (suc (n - left)) (omega arith) in omega (arith, told.vars)

      pub can-walk : CanStep L base made depth (get_or q k 0) (get_or q (k + 1) 0) s
      can-walk = can-step x s k (n - left) made depth few here z (omega (arith, told.vars)) (omega (arith, told.at, told.few)) deep least

      pub walk-goes : (s' : List ℕ) (r : Walk) → Stepped L base made depth (get_or q k 0) (get_or q (k + 1) 0) s s' r → At (left - 1) s' r.made r.depth
      unfolding Deep
      walk-goes s' r S =
          let e : suc (n - left) ≡ n - (left - 1) = omega arith in
          subst (λ (i : ℕ). WalkedTo L base (cons_in x) (funcs_in x) x.right.vars q s₀ s' k i r.made r.depth) e (walk-on x s k (n - left) made depth few here s' r S (fit deep.0) deep.0)
        where
          fit : Fits (cons_in x) (funcs_in x) x.right.vars (terms_from (cons_in x) (funcs_in x) q (k + 2) (n - left)) (get_or q k 0) (get_or q (k + 1) 0) → made < L ⊎ (get_or q k 0 ≡ 10)
          fit (inl (e, h)) = inl (can-walk.cell (λ z. omega arith)).0
          fit (inr (inl (e, h))) = inl (can-walk.cell (λ z. omega arith)).0
          fit (inr (inr (e, h))) = inr e

  -- before the last record, and after the first
  pub walk_begins : get_or q 1 0 + cells q 2 n ≤ L → (vars : ℕ) → vars ≡ get_or q 1 0 → At n s₀ vars 0
  walk_begins room vars e =
      let f : vars ≡ x.right.vars = e ∙ sym told.vars in
      let g : n - n ≡ 0 = omega arith in
      rw (f, g) (walk_start L base (cons_in x) (funcs_in x) x.right.vars q s₀ (2 + 2 * n) (omega (arith, told.vars)))

  pub walk_ends : (s : List ℕ) (left made depth : ℕ) → left ≤ 0 → At left s made depth → WalkDone L base x.right s₀ s (record { made = made; depth = depth })
  unfolding build_all
  walk_ends s left made depth h W =
      let a : 2 + 2 * left ≡ 2 = omega arith in
      let b : n - left ≡ told.n = omega (arith, told.at) in
      let U : WalkedTo L base (cons_in x) (funcs_in x) x.right.vars q s₀ s 2 told.n made depth = rw (a, b) at W in
      let p : reached (cons_in x) (funcs_in x) x.right.vars q (take x.right.vars (graph_of L s₀)) 2 told.n ≡ build_all (arg x.right.term done) [] (up_from 0 x.right.vars) (take x.right.vars (graph_of L s₀)) = rw told.is in
      record {
        graph = U.graph ∙ rw p;
        terms = U.terms ∙ rw p;
        made = U.count ∙ rw p;
        beside = U.beside;
      }
