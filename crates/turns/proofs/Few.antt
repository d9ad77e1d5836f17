-- A node has at most 32 alternatives, in an accepted book.
-- Here, in order: where a walk ends; the terms that are built; the turn read plainly; the machine's turn on a computation's own graph; on the store.
-- Assumes nothing.
use Prim.Native.Nat.{ℕ, zero, suc, ◌≤◌, ◌<◌}
use native.Mathlib.Omega.{arith}
use native.Mathlib.Decide.{dec_lt}
use mathlib.Core.Path.{◌≡◌, refl, sym, ap, ◌∙◌, subst}
use mathlib.Core.Option.{Option, none, some}
use mathlib.Core.List.{List, [], ◌∷◌, ◌++◌, map}
use lib.ListN.{length, get_or, length-map, get_or-eq_default}
use Rattle.book.specs.Syntax.{con, fun, Right, Tree, Trees, split, rule, norule, stop, child, Book, arity, first_con, cons_of}
use Rattle.book.specs.Reading.{Slots, under}
use Rattle.book.specs.Accepted as A
use Rattle.heap.specs.Graph.{Graph, Node, cell, var, fwd, look, first_call, Comp}
use Rattle.heap.specs.Store.{Store}
use Rattle.heap.proofs.Laws.Shape.{each-length}
use Rattle.engine.specs.Turn.{Turned, goes, splits, value, ended, lost, alternatives}
use Rattle.engine.specs.Plain as Plain
use Rattle.engine.specs.Plain.{Reached, demands, narrows, rewrites, fails, misfits, stuck, place, at_split, walk, walk_child, walk_call, no_func, instances, build_rights, parted, replaced, applied, step_at}
use Rattle.engine.specs.Compile.{compile}
use Rattle.engine.specs.Machine as m
use Rattle.agreement.proofs.Calls.{FineBook}
use Rattle.agreement.proofs.Agree.{Sound, Pools, Same, same-goes, same-splits, same-value, same_ended, turns, turn_on-bound}
use Rattle.standing.specs.Stands.{Reps}
use Rattle.standing.proofs.Grows.{Stops, stops-parts}
use Rattle.standing.proofs.Step.{Tolds, same_stop, turn-alike}
use Rattle.store.specs.Regions.{store_of}
use Rattle.pool.specs.declared.Held.{Held}
use Rattle.pool.specs.Ring.{held_in}
use Rattle.turns.specs.Front.{Standing, told_by}

-- a walk ends with at most 32 alternatives
abbrev Within : List (List ℕ) → Reached → Type 0
Within types (demands k) = Unit
Within types (narrows v t) = length (cons_of types t) ≤ 32
Within types (rewrites rs slots) = length rs ≤ 32
Within types fails = Unit
Within types misfits = Unit
Within types stuck = Unit

-- at a SPLIT
split-within : (types : List (List ℕ)) (g : Graph) (t k : ℕ) (hs : List ℕ) (kids : List ℕ → ℕ → Reached) → length (cons_of types t) ≤ 32 → ((sub : List ℕ) (j : ℕ) → Within types (kids sub j)) → Within types (at_split types g t k hs kids)
unfolding at_split
split-within types g t k hs kids few each = go (look g k) refl
  where
    placed : (ks : List ℕ) (o : Option ℕ) → Within types (elim o [ some j ↦ kids (hs ++ ks) j | none ↦ misfits ])
    placed ks none = tt
    placed ks (some j) = each (hs ++ ks) j

    go : (x : Node) → look g k ≡ x → Within types (at_split types g t k hs kids)
    go (cell (fun f) ks) e = rw (e, at_split) tt
    go (cell (con c) ks) e = rw (e, at_split) (placed ks (place types t c))
    go var e = rw (e, at_split) few
    go (fwd j) e = rw (e, at_split) tt

module _ (types : List (List ℕ)) (Y : A.FineTypes types) (funcs : List ℕ) (g : Graph) where
  mutual
    unfolding walk walk_child

    walk-within : (t : Tree) (slots : Slots) → A.FineTree types funcs slots t → (hs : List ℕ) → Within types (walk t types g hs)
    walk-within (split s t ts) slots f hs = split-within types g t (get_or hs s 0) hs (λ sub j. walk_child ts types g sub j) (Y.each t f.2).1 (λ sub j. child-within ts slots s (cons_of types t) f.3 sub j)
    walk-within (rule rs) slots f hs = let l = f.1 in omega arith
    walk-within norule slots f hs = tt

    child-within : (ts : Trees) (slots : Slots) (s : ℕ) (arities : List ℕ) → A.FineTrees types funcs slots s ts arities → (hs : List ℕ) (j : ℕ) → Within types (walk_child ts types g hs j)
    child-within stop slots s arities f hs j = tt
    child-within (child t ts) slots s [] f hs j = absurd f
    child-within (child t ts) slots s (a ∷ more) f hs zero = walk-within t (under slots s a) f.0 hs
    child-within (child t ts) slots s (a ∷ more) f hs (suc j) = child-within ts slots s more f.1 hs j

-- as many terms as there are constructors
count-instances : (c : ℕ) (cons : List ℕ) (g : Graph) → length (instances c cons g).1 ≡ length cons
unfolding instances
count-instances c [] g = refl
count-instances c (a ∷ more) g = ap suc (count-instances (suc c) more _)

-- and as there are RIGHTs
count-rights : (rs : List Right) (slots : List ℕ) (g : Graph) → length (build_rights rs slots g).1 ≡ length rs
unfolding build_rights
count-rights [] slots g = refl
count-rights (r ∷ rs) slots g = ap suc (count-rights rs slots _)

count-alternatives : (c : Comp) (h : ℕ) (ks : List ℕ) → length (alternatives c h ks) ≡ length ks
unfolding alternatives
count-alternatives c h [] = refl
count-alternatives c h (k ∷ ks) = ap suc (count-alternatives c h ks)

-- a turn gives at most 32 alternatives
abbrev pub AtMost : {C : Type 0} → Turned C → Type 0
AtMost (goes c n) = Unit
AtMost (splits cs n) = length cs ≤ 32
AtMost (value b) = Unit
AtMost (ended e) = Unit
AtMost lost = Unit

parted-few : (c : Comp) (h : ℕ) (p : Graph × List ℕ) → length p.1 ≤ 32 → AtMost (parted c h p)
unfolding parted
parted-few c h p l = let e = count-alternatives (record { graph = p.0; value = c.value; askers = c.askers }) h p.1 in omega arith

applied-few : (c : Comp) (h : ℕ) (rs : List Right) (slots : List ℕ) → length rs ≤ 32 → AtMost (applied c h rs slots)
unfolding applied replaced
applied-few c h [] slots l = tt
applied-few c h (r ∷ []) slots l = tt
applied-few c h (r ∷ r' ∷ rs) slots l = parted-few c h (build_rights (r ∷ r' ∷ rs) slots c.graph) (rw (count-rights (r ∷ r' ∷ rs) slots c.graph) l)

module _ (book : Book) (B : A.FineBook book) where
  -- the tree of a function, or of none
  tree-within : (g : Graph) (f : ℕ) (hs : List ℕ) → Within book.types (walk (get_or book.funcs f no_func).tree book.types g hs)
  unfolding walk
  tree-within g f hs = go (dec_lt f (length book.funcs))
    where
      go : Dec (f < length book.funcs) → Within book.types (walk (get_or book.funcs f no_func).tree book.types g hs)
      go (yes p) = walk-within book.types B.types (map arity book.funcs) g (get_or book.funcs f no_func).tree _ (B.funcs f no_func p).1 hs
      go (no n) = rw (get_or-eq_default book.funcs no_func {n = f} (omega arith)) tt

  call-within : (g : Graph) (h : ℕ) → Within book.types (walk_call book g h)
  unfolding walk_call
  call-within g h = go (look g h) refl
    where
      go : (x : Node) → look g h ≡ x → Within book.types (walk_call book g h)
      go (cell (fun f) hs) e = rw (e, walk_call) (tree-within g f hs)
      go (cell (con c) hs) e = rw (e, walk_call) tt
      go var e = rw (e, walk_call) tt
      go (fwd k) e = rw (e, walk_call) tt

  step-few : (n : ℕ) (c : Comp) (h : ℕ) → AtMost (step_at n book c h)
  unfolding step_at
  step-few zero c h = tt
  step-few (suc n) c h = go (step-few n c) (walk_call book c.graph h) refl (call-within c.graph h)
    where
      go : ((k : ℕ) → AtMost (step_at n book c k)) → (x : Reached) → walk_call book c.graph h ≡ x → Within book.types x → AtMost (step_at (suc n) book c h)
      go ih (demands k) e w = rw (e, step_at) (ih k)
      go ih (narrows v t) e w = rw (e, step_at) (parted-few c v (instances (first_con book.types t) (cons_of book.types t) c.graph) (rw (count-instances (first_con book.types t) (cons_of book.types t) c.graph) w))
      go ih (rewrites rs slots) e w = rw (e, step_at) (applied-few c h rs slots w)
      go ih fails e w = rw (e, step_at) tt
      go ih misfits e w = rw (e, step_at) tt
      go ih stuck e w = rw (e, step_at) tt

  -- the turn read plainly
  pub turn-few : (c : Comp) → AtMost (Plain.turn book c)
  unfolding Plain.turn Plain.turn_within
  turn-few c = go (first_call (length c.graph) c.graph c.value) refl
    where
      go : (o : Option ℕ) → first_call (length c.graph) c.graph c.value ≡ o → AtMost (Plain.turn book c)
      go none e = rw (e, Plain.turn_within) tt
      go (some h) e = rw (e, Plain.turn_within) (step-few (length c.graph) c h)

-- pools side by side are equally long
pools-length : (book : Book) (B : FineBook book) (cs : List Comp) (ks : List m.Kept) → Pools book B cs ks → length cs ≡ length ks
pools-length book B [] [] p = refl
pools-length book B [] (k ∷ ks) p = absurd p
pools-length book B (c ∷ cs) [] p = absurd p
pools-length book B (c ∷ cs) (k ∷ ks) p = ap suc (pools-length book B cs ks p.2)

same-few : (book : Book) (B : FineBook book) (x : Turned Comp) (y : Turned m.Kept) → Same book B x y → AtMost x → AtMost y
same-few book B _ _ (same-goes q s) l = tt
same-few book B (splits cs n) _ (same-splits {ks} q) l = let e = pools-length book B cs ks q in omega arith
same-few book B _ _ same-value l = tt
same-few book B _ _ same_ended l = tt

-- the machine's turn
pub machine-few : (book : Book) → A.FineBook book → (B : FineBook book) (k : m.Kept) → Sound book B k.comp k.stack → AtMost (m.turn (compile book) k)
machine-few book Q B k s = same-few book B (Plain.turn book k.comp) (m.turn (compile book) k) (turns book B k.comp.graph k.comp.value k.comp.askers s.whole k.stack s.chain).0 (turn-few book Q k.comp)

-- what the machine's alternatives say of the terms
parts-few : (c : Comp) (h : ℕ) (ks : List ℕ) (g : Graph) → AtMost (m.finish c (m.parts h ks g)) → length ks ≤ 32
unfolding m.finish m.parted
parts-few c h ks g l =
    let alts = alternatives (m.with_graph c g) h ks in
    let e : length (map m.from_start alts) ≡ length alts = length-map alts m.from_start in
    let i : length alts ≡ length ks = count-alternatives (m.with_graph c g) h ks in
    omega arith

-- the machine's turn on a computation's own graph, with any bound that suffices
pub own-few : (book : Book) → A.FineBook book → (B : FineBook book) (k : m.Kept) → Sound book B k.comp k.stack → (n : ℕ) → length k.comp.graph ≤ n
    → (h : ℕ) (ks : List ℕ) (g : Graph) → m.turn_on (λ x. x) m.own n (compile book) k.comp.graph (m.held_of k) ≡ m.stopped (m.parts h ks g) → length ks ≤ 32
unfolding m.turn m.turn_within
own-few book Q B k s n l h ks g e = parts-few k.comp h ks g (rw (told, m.turn_within) at (machine-few book Q B k s))
  where
    told : m.turn_on (λ x. x) m.own (length k.comp.graph) (compile book) k.comp.graph (m.held_of k) ≡ m.stopped (m.parts h ks g)
    told = sym (turn_on-bound book B k.comp.graph k.comp.value k.comp.askers s.whole n l k.stack s.chain) ∙ e

-- A node has at most 32 alternatives.
pub few-alternatives : {L made : ℕ} {held : Held} {s : List ℕ} (S : Standing L made held s) → (h : ℕ) (ks : List ℕ) (μ : Store) → told_by S ≡ m.stopped (m.parts h ks μ) → length ks ≤ 32
few-alternatives {L} {made} {held} {s} S h ks μ e =
    go (m.turn_on (λ x. x) m.own L (compile S.book) g (m.held_of S.kept)) refl
    (subst (Tolds S.stands.world g μ₀ (m.turn_on (λ x. x) m.own L (compile S.book) g (m.held_of S.kept))) e (turn-alike (compile S.book) S.stands.world g μ₀ S.stands.holds L (m.held_of S.kept) (held_in L s held) S.stands.helds))
  where
    g : Graph
    g = S.kept.comp.graph

    μ₀ : Store
    μ₀ = store_of L made s

    at-stop : (x : m.Stop Graph) → m.turn_on (λ x. x) m.own L (compile S.book) g (m.held_of S.kept) ≡ m.stopped x → Stops S.stands.world g μ₀ x (m.parts h ks μ) → length ks ≤ 32
    at-stop x q (stops-parts {h = h₁} {ks = ks₁} {g' = g₁} o r es) =
        let i = own-few S.book S.accepted S.fine S.kept S.sound L S.small h₁ ks₁ g₁ q in
        let j : length ks₁ ≡ length ks = each-length (Reps o.world g₁ μ.nodes) ks₁ ks es in
        omega arith

    go : (x : m.Told Graph) → m.turn_on (λ x. x) m.own L (compile S.book) g (m.held_of S.kept) ≡ x → Tolds S.stands.world g μ₀ x (m.stopped (m.parts h ks μ)) → length ks ≤ 32
    go x q (same_stop {x = y} z) = at-stop y q z
