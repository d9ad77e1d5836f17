-- A SPLIT as it stands in the book: its LOAD, BRANCH and GOs, its variable's arm and its children.
use Prim.Native.Nat.{ℕ, zero, suc, ◌+◌, ◌*◌, ◌≤◌, ◌<◌}
use native.Mathlib.Nat.{add_assoc, zero-add}
use native.Mathlib.Omega.{arith}
use mathlib.Core.Path.{◌≡◌, refl, ap, sym, ◌∙◌, subst}
use mathlib.Core.List.{List, [], ◌∷◌, ◌++◌, append_assoc, map}
use mathlib.Core.Bool.{Bool, true, false}
use lib.Dec.{ltb}
use borrow.Author.Tests.{ltb-true, ltb-false}
use lib.ListN.{get_or-eq_default, length, get_or, take, drop, replicate, length-append, length-drop, get_or-append}
use lib.Seq.{sets, length-sets, ext_get_or, get_or-take, get_or-drop, get_or-append-add, length-take-le}
use Rattle.book.specs.Syntax.{con, Tree, Trees, split, rule, norule, stop, child, join, con_arities, cons_of, first_con}
use Rattle.book.specs.Accepted.{FineTree, FineTrees}
use Rattle.engine.specs.Code.{Instr, four, encode, emit, go, make_anon, make_term}
use Rattle.engine.specs.Compile.{Positions, of_instances, of_tree, of_trees, offsets, flat}
use Rattle.compiler.specs.declared.Lore.{Lore}
use Rattle.compiler.specs.Records.{bytes, tree_recs, trees_recs}
use Rattle.compiler.specs.Rows.{LoreIs, row, load_body, Fronts, Emits, arm_code}
use Rattle.compiler.specs.Here.{TreeHere, TreeDone, TreesHere, TreesDone}
use Rattle.compiler.specs.declared.Ends.{Ends}
use Rattle.compiler.proofs.Writing.{sets-append, sets-comm}
use Rattle.compiler.proofs.Terms.{head-is, two-are, emit-append}

arity-at : (types : List (List ℕ)) (t j : ℕ) → j < length (cons_of types t) → get_or (con_arities types) (first_con types t + j) 0 ≡ get_or (cons_of types t) j 0
arity-at [] t j p = absurd (omega arith)
arity-at (l ∷ ls) zero j p = rw (zero-add j) (get_or-append l (join ls) 0 j p)
arity-at (l ∷ ls) (suc t) j p = rw (length-append l (join (take t ls)), add_assoc (length l) (length (join (take t ls))) j) (get_or-append-add l (join ls) (first_con ls t + j) 0 ∙ arity-at ls t j p)

pub first_fits : (types : List (List ℕ)) (t : ℕ) → t < length types → first_con types t + length (cons_of types t) ≤ length (con_arities types)
first_fits [] t h = absurd (omega arith)
first_fits (l ∷ ls) zero h = omega (arith, length-append l (join ls))
first_fits (l ∷ ls) (suc t) h = let e = first_fits ls t (omega arith) in omega (arith, length-append l (join ls), length-append l (join (take t ls)))

anons : (a : ℕ) → emit (replicate a make_anon) ≡ replicate a 0x35
unfolding emit encode
anons zero = refl
anons (suc a) = ap (λ (l : List ℕ). 0x35 ∷ l) (anons a)

pub arm-emit : (c : ℕ) (l : List ℕ) → arm_code c l ≡ emit (of_instances c l)
unfolding arm_code of_instances emit encode
arm-emit c [] = refl
arm-emit c (a ∷ l) = rw (emit-append (replicate a make_anon) (make_term (con c) ∷ of_instances (suc c) l), anons a, arm-emit (suc c) l)

-- the part of the lore that holds a type's arities
module _ (types : List (List ℕ)) (funcs : List ℕ) (lore : Lore) (told : LoreIs types funcs lore) (t : ℕ) (h : t < length types) where
  pub lore-at : (j : ℕ) → j < length (cons_of types t) → get_or lore.cons (first_con types t + j) 0 ≡ get_or (cons_of types t) j 0
  lore-at j q = told.con_ars (first_con types t + j) (let f = first_fits types t h in omega arith) ∙ arity-at types t j q

  pub lore-part : take (length (cons_of types t)) (drop (first_con types t) lore.cons) ≡ cons_of types t
  lore-part =
      let f = first_fits types t h in
      let n : length (take (length (cons_of types t)) (drop (first_con types t) lore.cons)) ≡ length (cons_of types t) =
      length-take-le (length (cons_of types t)) (drop (first_con types t) lore.cons) (omega (arith, length-drop (first_con types t) lore.cons, told.long, told.fine.cons)) in
      ext_get_or 0 (take (length (cons_of types t)) (drop (first_con types t) lore.cons)) (cons_of types t) n (λ i q.
      get_or-take (length (cons_of types t)) (drop (first_con types t) lore.cons) i 0 (omega arith) ∙ get_or-drop (first_con types t) lore.cons i 0 ∙ lore-at i (omega arith))

pub gos-long : (l : List ℕ) → length (emit (map go l)) ≡ 5 * length l
unfolding emit encode four
gos-long [] = refl
gos-long (o ∷ l) = let e = gos-long l in omega arith

pub offsets-long : (blocks : List (List Instr)) (at : ℕ) → length (offsets at blocks) ≡ length blocks
unfolding offsets
offsets-long [] at = refl
offsets-long (b ∷ bs) at = ap suc (offsets-long bs (at + length (emit b)))

pub load-long : (p : List ℕ) → length (load_body p) ≡ 9
load-long p = ap suc (length-take-le 8 (p ++ replicate 8 0) (omega (arith, length-append p (replicate 8 0))))

regroup : (H X G A B : List ℕ) → H ++ (X ++ (G ++ (A ++ B))) ≡ (((H ++ X) ++ G) ++ A) ++ B
regroup H X G A B = simp append_assoc

module _ (types : List (List ℕ)) (i t : ℕ) (ts : Trees) (pos : Positions) (o : ℕ) where
  abbrev cs : List ℕ
  cs = cons_of types t

  abbrev arm_at : ℕ
  arm_at = o + 12 + 5 * suc (length cs)

  abbrev arm : List ℕ
  arm = emit (of_instances (first_con types t) cs)

  abbrev blocks : List (List Instr)
  blocks = of_trees types ts cs pos i (arm_at + length arm)

  abbrev gos : List ℕ
  gos = emit (map go (offsets (arm_at + length arm) blocks))

  split-emit : emit (of_tree types (split i t ts) pos o) ≡ ((((0x30 ∷ load_body (get_or pos i [])) ++ 0x31 ∷ t ∷ 0x32 ∷ four arm_at) ++ gos) ++ arm) ++ emit (flat blocks)
  unfolding of_tree offsets flat emit encode
  split-emit =
      let a : emit (map go (offsets (arm_at + length arm) blocks) ++ (of_instances (first_con types t) cs ++ flat blocks)) ≡ gos ++ (arm ++ emit (flat blocks)) =
      emit-append (map go (offsets (arm_at + length arm) blocks)) (of_instances (first_con types t) cs ++ flat blocks) ∙ ap (λ (l : List ℕ). gos ++ l) (emit-append (of_instances (first_con types t) cs) (flat blocks)) in
      ap (λ (l : List ℕ). (0x30 ∷ load_body (get_or pos i [])) ++ 0x31 ∷ t ∷ 0x32 ∷ (four arm_at ++ l)) a
      ∙ regroup (0x30 ∷ load_body (get_or pos i [])) (0x31 ∷ t ∷ 0x32 ∷ four arm_at) gos arm (emit (flat blocks))

  -- the code as it is written: the front and the arm, then the children's GOs and blocks
  split-written : (l l₁ l₂ : List ℕ) (body : ℕ) → length (four arm_at) ≡ 4
      → l₁ ≡ sets (sets l o ((0x30 ∷ load_body (get_or pos i [])) ++ 0x31 ∷ t ∷ 0x32 ∷ four arm_at)) arm_at arm → body ≡ arm_at + length arm → length blocks ≡ length cs
      → l₂ ≡ sets (sets l₁ (o + 17) gos) body (emit (flat blocks)) → l₂ ≡ sets l o (emit (of_tree types (split i t ts) pos o))
  split-written l l₁ l₂ body n e f m g =
      let F : List ℕ = (0x30 ∷ load_body (get_or pos i [])) ++ 0x31 ∷ t ∷ 0x32 ∷ four arm_at in
      let a : length F ≡ 17 = omega (arith, length-append (0x30 ∷ load_body (get_or pos i [])) (0x31 ∷ t ∷ 0x32 ∷ four arm_at), load-long (get_or pos i [])) in
      let b : length gos ≡ 5 * length cs = gos-long (offsets (arm_at + length arm) blocks) ∙ ap (λ (k : ℕ). 5 * k) (offsets-long blocks (arm_at + length arm) ∙ m) in
      let c : o + length F ≡ o + 17 = omega arith in
      let d : o + length (F ++ gos) ≡ arm_at = omega (arith, length-append F gos) in
      let h : o + length ((F ++ gos) ++ arm) ≡ body = omega (arith, length-append F gos, length-append (F ++ gos) arm) in
      let k : sets (sets (sets l o F) arm_at arm) (o + 17) gos ≡ sets (sets (sets l o F) (o + 17) gos) arm_at arm = sets-comm (sets l o F) (o + 17) gos arm_at arm (omega arith) in
      g ∙ rw (e, k, split-emit, sets-append l o ((F ++ gos) ++ arm) (emit (flat blocks)), sets-append l o (F ++ gos) arm, sets-append l o F gos, c, d, h)

  pub split-long : length (four arm_at) ≡ 4 → length blocks ≡ length cs → length (emit (of_tree types (split i t ts) pos o)) ≡ 17 + 5 * length cs + length arm + length (emit (flat blocks))
  split-long n m =
      let F : List ℕ = (0x30 ∷ load_body (get_or pos i [])) ++ 0x31 ∷ t ∷ 0x32 ∷ four arm_at in
      let a : length F ≡ 17 = omega (arith, length-append (0x30 ∷ load_body (get_or pos i [])) (0x31 ∷ t ∷ 0x32 ∷ four arm_at), load-long (get_or pos i [])) in
      let b : length gos ≡ 5 * length cs = gos-long (offsets (arm_at + length arm) blocks) ∙ ap (λ (k : ℕ). 5 * k) (offsets-long blocks (arm_at + length arm) ∙ m) in
      ap length split-emit ∙ omega (arith, length-append ((F ++ gos) ++ arm) (emit (flat blocks)), length-append (F ++ gos) arm, length-append F gos)

pub four-long : (n : ℕ) → length (four n) ≡ 4
unfolding four
four-long n = refl

pub trees-long : (types : List (List ℕ)) (funcs slots : List ℕ) (s : ℕ) (ts : Trees) (l : List ℕ) (pos : Positions) (i at : ℕ) (arities : List ℕ) → FineTrees types funcs slots s ts l → length (of_trees types ts arities pos i at) ≡ length l
unfolding of_trees
trees-long types funcs slots s stop [] pos i at arities f = refl
trees-long types funcs slots s stop (a ∷ l) pos i at arities f = absurd f
trees-long types funcs slots s (child t ts) [] pos i at arities f = absurd f
trees-long types funcs slots s (child t ts) (a ∷ l) pos i at arities f = ap suc (trees-long types funcs slots s ts l pos i _ (drop 1 arities) f.1)

module _ {s : List ℕ} {lore : Lore} {rows : List ℕ} {n at o : ℕ} {code : List ℕ} (x : TreeHere s lore rows n at o code) where
  abbrev stands : Tree → List ℕ
  stands t = bytes (tree_recs t) ++ x.rest

  -- there is a record
  pub tree-inside : at + 1 ≤ length s
  tree-inside = go x.tree refl
    where
      go : (t : Tree) → x.tree ≡ t → at + 1 ≤ length s
      go (split i u ts) q = (head-is s at 4 _ (x.is ∙ ap stands q)).1
      go (rule rs) q = (head-is s at 5 _ (x.is ∙ ap stands q)).1
      go norule q = (head-is s at 11 _ (x.is ∙ ap stands q)).1

  -- NONE
  pub record NoneIs : Type 0 where
    pub room : o + 1 ≤ length code
    pub finish : (code' : List ℕ) (r : Ends) → r.at ≡ at + 1 → Emits code code' o r.out (0x3C ∷ []) → TreeDone x code' r

  pub none_is : (get_or s at 0 ≡ 4 → ⊥) → (get_or s at 0 ≡ 5 → ⊥) → NoneIs
  unfolding of_tree emit encode
  none_is f g = go x.tree refl
    where
      go : (t : Tree) → x.tree ≡ t → NoneIs
      go (split i u ts) q = absurd (f (head-is s at 4 _ (x.is ∙ ap stands q)).0)
      go (rule rs) q = absurd (g (head-is s at 5 _ (x.is ∙ ap stands q)).0)
      go norule q =
          let e : emit (of_tree x.types x.tree x.pos o) ≡ 0x3C ∷ [] = ap (λ (t : Tree). emit (of_tree x.types t x.pos o)) q in
          let w : bytes (tree_recs x.tree) ≡ 11 ∷ [] = ap (λ (t : Tree). bytes (tree_recs t)) q in
          record {
            room = omega (arith, x.fits, ap length e);
            finish = λ code' r a b. record { at = a ∙ omega (arith, ap length w); out = b.next ∙ rw e; is = b.is ∙ rw e };
          }

  -- SPLIT
  pub record FirstIs : Type 0 where
    pub inside : at + 3 ≤ length s
    pub slot : get_or s (at + 1) 0 < 64
    pub type : get_or s (at + 2) 0 < 64

  pub record SplitIs (slot ty c m : ℕ) : Type 0 where
    pub cons : c + m ≤ 256
    pub room : o + 17 + 5 * m + length (arm_code c (take m (drop c lore.cons))) ≤ length code
    pub here : (code' : List ℕ) (r : ℕ) → Fronts lore rows code code' slot ty c m o r → TreesHere s lore rows n slot c m (at + 3) (o + 17) r code'
    pub finish : (code' code'' : List ℕ) (r : ℕ) (e : Ends) (f : Fronts lore rows code code' slot ty c m o r) → TreesDone (here code' r f) code'' e → TreeDone x code'' e

  three-are : (i u : ℕ) (l : List ℕ) → drop at s ≡ 4 ∷ i ∷ u ∷ l → (get_or s (at + 1) 0 ≡ i) × (get_or s (at + 2) 0 ≡ u) × (at + 3 ≤ length s) × (drop (at + 3) s ≡ l)
  three-are i u l h =
      let two = two-are s at 4 i (u ∷ l) h in
      let p = head-is s (at + 2) u l two.rest in
      let e : at + 3 ≡ at + 2 + 1 = omega arith in
      (two.second, p.0, omega (arith, p.1), rw e p.2)

  pub first-is : get_or s at 0 ≡ 4 → FirstIs
  first-is k = go x.tree refl
    where
      go : (t : Tree) → x.tree ≡ t → FirstIs
      go (rule rs) q = absurd (omega (arith, (head-is s at 5 _ (x.is ∙ ap stands q)).0))
      go norule q = absurd (omega (arith, (head-is s at 11 _ (x.is ∙ ap stands q)).0))
      go (split i u ts) q =
          let w = three-are i u (bytes (trees_recs ts) ++ x.rest) (x.is ∙ ap stands q) in
          let f : FineTree x.types x.funcs x.slots (split i u ts) = subst (FineTree x.types x.funcs x.slots) q x.fine in
          record { inside = w.2; slot = omega (arith, w.0, f.0, x.match.long, x.are.few); type = omega (arith, w.1, f.2, x.told.fine.few) }

  module _ (slot ty c m i u : ℕ) (ts : Trees) (inside : drop (at + 3) s ≡ bytes (trees_recs ts) ++ x.rest) (f : FineTree x.types x.funcs x.slots (split i u ts)) (q : x.tree ≡ split i u ts)
      (a : slot ≡ i) (b : ty ≡ u) (d : c ≡ first_con x.types u) (e : m ≡ length (cons_of x.types u)) (A : arm_code c (take m (drop c lore.cons)) ≡ emit (of_instances (first_con x.types u) (cons_of x.types u))) where
    abbrev arm_long : ℕ
    arm_long = length (emit (of_instances (first_con x.types u) (cons_of x.types u)))

    abbrev children : List (List Instr)
    children = blocks x.types i u ts x.pos o

    children-long : length children ≡ length (cons_of x.types u)
    children-long = trees-long x.types x.funcs x.slots i ts (cons_of x.types u) x.pos i _ (cons_of x.types u) f.3

    abbrev arm_at' : ℕ
    arm_at' = arm_at x.types i u ts x.pos o

    tree-long : length (emit (of_tree x.types x.tree x.pos o)) ≡ 17 + 5 * m + arm_long + length (emit (flat children))
    tree-long =
        let E = split-long x.types i u ts x.pos o (four-long arm_at') children-long in
        ap (λ (t : Tree). length (emit (of_tree x.types t x.pos o))) q ∙ E ∙ rw (← e) refl

    low : (j : ℕ) → get_or (cons_of x.types u) j 0 ≤ 8
    low j = go (ltb j (length (cons_of x.types u))) refl
      where
        go : (b : Bool) → ltb j (length (cons_of x.types u)) ≡ b → get_or (cons_of x.types u) j 0 ≤ 8
        go true t = rw (← arity-at x.types u j (ltb-true j (length (cons_of x.types u)) t)) (x.told.fine.arities (first_con x.types u + j))
        go false t = rw (get_or-eq_default (cons_of x.types u) 0 {n = j} (ltb-false j (length (cons_of x.types u)) t)) (omega arith)

    cons-fit : c + m ≤ 256
    cons-fit = let h = first_fits x.types u f.2 in omega (arith, x.told.fine.cons)

    module _ (code' : List ℕ) (r : ℕ) (F : Fronts lore rows code code' slot ty c m o r) where
      body_at : r ≡ arm_at' + arm_long
      body_at = F.next ∙ rw A (omega arith)

      code-long : length code' ≡ length code
      code-long = ap length F.is ∙ simp length-sets

      abbrev fronts-here : TreesHere s lore rows n slot c m (at + 3) (o + 17) r code'
      fronts-here = record {
        types = x.types;
        funcs = x.funcs;
        told = x.told;
        slots = x.slots;
        pos = x.pos;
        match = x.match;
        are = x.are;
        many = x.many;
        there = omega (arith, f.0, x.match.long, x.many);
        short = rw a f.1;
        arities = cons_of x.types u;
        count = sym e;
        same = λ j h. rw d (lore-at x.types x.funcs lore x.told u f.2 j (omega arith));
        low = low;
        cons = cons-fit;
        room = rw (← x.many, x.match.long) f.4;
        trees = ts;
        rest = x.rest;
        is = inside;
        fine = rw a f.3;
        before = omega (arith, F.next);
        fits = rw (a, body_at) (omega (arith, tree-long, code-long, x.fits));
      }

      fronts-is : code' ≡ sets (sets code o ((0x30 ∷ load_body (get_or x.pos i [])) ++ 0x31 ∷ u ∷ 0x32 ∷ four arm_at')) arm_at' (emit (of_instances (first_con x.types u) (cons_of x.types u)))
      fronts-is =
          let K : o + 17 + 5 * m ≡ arm_at' = omega arith in
          let R : row rows slot ≡ load_body (get_or x.pos i []) = rw a (x.are.are i (omega (arith, f.0, x.match.long))) in
          F.is ∙ rw (A, R, b, K)

      fronts-done : (code'' : List ℕ) (w : Ends) → TreesDone fronts-here code'' w → TreeDone x code'' w
      fronts-done code'' w D =
          let W : bytes (tree_recs x.tree) ≡ 4 ∷ i ∷ u ∷ bytes (trees_recs ts) = ap (λ (t : Tree). bytes (tree_recs t)) q in
          let G₀ : code'' ≡ sets (sets code' (o + 17) (emit (map go (offsets r (of_trees x.types ts (cons_of x.types u) x.pos slot r))))) r (emit (flat (of_trees x.types ts (cons_of x.types u) x.pos slot r))) = D.is in
          let G : code'' ≡ sets (sets code' (o + 17) (gos x.types i u ts x.pos o)) (arm_at' + arm_long) (emit (flat children)) = rw (a, body_at) at G₀ in
          let O₀ : w.out ≡ r + length (emit (flat (of_trees x.types ts (cons_of x.types u) x.pos slot r))) = D.out in
          let O : w.out ≡ arm_at' + arm_long + length (emit (flat children)) = rw (a, body_at) at O₀ in
          let S = split-written x.types i u ts x.pos o code code' code'' (arm_at' + arm_long) (four-long arm_at') fronts-is refl children-long G in
          record {
            at = D.at ∙ omega (arith, ap length W);
            out = O ∙ rw tree-long (omega arith);
            is = S ∙ ap (λ (t : Tree). sets code o (emit (of_tree x.types t x.pos o))) (sym q);
          }

    split-made : SplitIs slot ty c m
    split-made = record {
      cons = cons-fit;
      room = rw A (omega (arith, tree-long, x.fits));
      here = fronts-here;
      finish = λ code' code'' r w F D. fronts-done code' r F code'' w D;
    }

  pub split-is : get_or s at 0 ≡ 4 → SplitIs (get_or s (at + 1) 0) (get_or s (at + 2) 0) (get_or lore.firsts (get_or s (at + 2) 0) 0) (get_or lore.counts (get_or s (at + 2) 0) 0)
  split-is k = go x.tree refl
    where
      go : (t : Tree) → x.tree ≡ t → SplitIs (get_or s (at + 1) 0) (get_or s (at + 2) 0) (get_or lore.firsts (get_or s (at + 2) 0) 0) (get_or lore.counts (get_or s (at + 2) 0) 0)
      go (rule rs) q = absurd (omega (arith, (head-is s at 5 _ (x.is ∙ ap stands q)).0))
      go norule q = absurd (omega (arith, (head-is s at 11 _ (x.is ∙ ap stands q)).0))
      go (split i u ts) q =
          let w = three-are i u (bytes (trees_recs ts) ++ x.rest) (x.is ∙ ap stands q) in
          let f : FineTree x.types x.funcs x.slots (split i u ts) = subst (FineTree x.types x.funcs x.slots) q x.fine in
          let c : ℕ = get_or lore.firsts (get_or s (at + 2) 0) 0 in
          let m : ℕ = get_or lore.counts (get_or s (at + 2) 0) 0 in
          let d : c ≡ first_con x.types u = ap (λ (k : ℕ). get_or lore.firsts k 0) w.1 ∙ x.told.firsts u f.2 in
          let e : m ≡ length (cons_of x.types u) = ap (λ (k : ℕ). get_or lore.counts k 0) w.1 ∙ x.told.counts u f.2 in
          let A : arm_code c (take m (drop c lore.cons)) ≡ emit (of_instances (first_con x.types u) (cons_of x.types u)) =
          rw (d, e, lore-part x.types x.funcs lore x.told u f.2) (arm-emit (first_con x.types u) (cons_of x.types u)) in
          split-made (get_or s (at + 1) 0) (get_or s (at + 2) 0) c m i u ts w.3 f q w.0 w.1 d e A
