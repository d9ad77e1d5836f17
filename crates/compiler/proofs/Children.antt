-- The children of a SPLIT as they stand in the book, one after the other.
use Prim.Native.Nat.{ℕ, suc, ◌+◌, ◌-◌, ◌*◌, ◌≤◌, ◌<◌}
use native.Mathlib.Omega.{arith}
use mathlib.Core.Path.{◌≡◌, refl, ap, sym, ◌∙◌, subst}
use mathlib.Core.Bool.{true}
use mathlib.Core.Logic.{◌⊎◌, inl, inr}
use mathlib.Core.List.{List, [], ◌∷◌, ◌++◌, append_assoc, map}
use lib.ListN.{length, get_or, drop, length-append, length-drop}
use lib.Seq.{sets, length-sets}
use lib.Dec.{leb}
use borrow.Author.Tests.{leb-true}
use Rattle.book.specs.Syntax.{Tree, Trees, split, rule, norule, stop, child}
use Rattle.book.specs.Reading.{all_fit, under}
use Rattle.book.specs.Accepted.{FineTrees}
use Rattle.book.proofs.Fairness.{both_hold}
use Rattle.engine.specs.Code.{Instr, four, encode, emit, go}
use Rattle.engine.specs.Compile.{Positions, below, of_tree, of_trees, offsets, flat}
use Rattle.compiler.specs.declared.Lore.{Lore}
use Rattle.compiler.specs.Records.{bytes, tree_recs, trees_recs}
use Rattle.compiler.specs.Rows.{Rows, Emits, Grown, Keeps}
use Rattle.compiler.specs.Here.{TreeHere, TreeDone, TreesHere, TreesDone}
use Rattle.compiler.specs.declared.Ends.{Ends}
use Rattle.compiler.proofs.Bytes.{bytes-append}
use Rattle.compiler.proofs.Writing.{sets-append, sets-comm, emits-long}
use Rattle.compiler.proofs.Loops.{row_at}
use Rattle.compiler.proofs.Terms.{skipped, emit-append}
use Rattle.compiler.proofs.Rowing.{rows-below, below-long, match-under}
use Rattle.compiler.proofs.Splits.{gos-long, offsets-long, four-long, trees-long}

all-fit-first : (n a : ℕ) (more : List ℕ) → all_fit n (a ∷ more) ≡ true → (n + a ≤ 64) × (all_fit n more ≡ true)
unfolding all_fit
all-fit-first n a more h = let u = both_hold (leb (n + a) 64) (all_fit n more) h in (leb-true (n + a) 64 u.0, u.1)

-- one child and the others
module _ (types : List (List ℕ)) (t : Tree) (ts : Trees) (a : ℕ) (more : List ℕ) (pos : Positions) (i o : ℕ) where
  abbrev first : List ℕ
  first = emit (of_tree types t (below pos i a) o)

  abbrev others : List (List Instr)
  others = of_trees types ts more pos i (o + length first)

  flat-emit : emit (flat (of_trees types (child t ts) (a ∷ more) pos i o)) ≡ first ++ emit (flat others)
  unfolding of_trees flat
  flat-emit = emit-append (of_tree types t (below pos i a) o) (flat others)

  gos-emit : emit (map go (offsets o (of_trees types (child t ts) (a ∷ more) pos i o))) ≡ (0x32 ∷ four o) ++ emit (map go (offsets (o + length first) others))
  unfolding of_trees offsets emit encode
  gos-emit = refl

module _ {s : List ℕ} {lore : Lore} {rows : List ℕ} {n i c m k g o : ℕ} {code : List ℕ} (x : TreesHere s lore rows n i c m k g o code) where
  -- none is left
  pub trees-none : m ≤ 0 → (r : Ends) → r.at ≡ k → r.out ≡ o → TreesDone x code r
  unfolding of_trees flat offsets emit
  trees-none z r a b = at x.trees x.arities refl refl
    where
      at : (ts : Trees) (l : List ℕ) → x.trees ≡ ts → x.arities ≡ l → TreesDone x code r
      at stop l p q =
          let e : bytes (trees_recs x.trees) ≡ [] = ap (λ (t : Trees). bytes (trees_recs t)) p in
          let f : emit (flat (of_trees x.types x.trees x.arities x.pos i o)) ≡ [] = ap (λ (t : Trees). emit (flat (of_trees x.types t x.arities x.pos i o))) p in
          let h : emit (map go (offsets o (of_trees x.types x.trees x.arities x.pos i o))) ≡ [] = ap (λ (t : Trees). emit (map go (offsets o (of_trees x.types t x.arities x.pos i o)))) p in
          record { at = omega (arith, ap length e); out = omega (arith, ap length f); is = rw (h, f) }
      at (child t ts) [] p q = absurd (subst (λ (l : List ℕ). FineTrees x.types x.funcs x.slots i (child t ts) l) q (subst (λ (t : Trees). FineTrees x.types x.funcs x.slots i t x.arities) p x.fine))
      at (child t ts) (a ∷ l) p q = absurd (omega (arith, x.count, ap length q))

  -- the next one
  pub record NextIs (a : ℕ) : Type 0 where
    pub grows : ((i < 256) × (n + a ≤ 64)) × (((i < n) ⊎ (i ≡ 255)) × (get_or rows (9 * i) 0 < 8))
    pub inside : k + 1 ≤ length s
    pub tree : (code₁ rows₁ : List ℕ) (q : ℕ) → Emits code code₁ g q (0x32 ∷ four o) → Grown rows rows₁ i n a → TreeHere s lore rows₁ (n + a) k o code₁
    pub rest : (code₁ rows₁ code₂ rows₂ : List ℕ) (q : ℕ) (e : Ends) (p₁ : Emits code code₁ g q (0x32 ∷ four o)) (p₂ : Grown rows rows₁ i n a) → TreeDone (tree code₁ rows₁ q p₁ p₂) code₂ e → Keeps (n + a) rows₁ rows₂
        → TreesHere s lore rows₂ n i (c + 1) (m - 1) e.at (g + 5) e.out code₂
    pub on : (code₁ rows₁ code₂ : List ℕ) (q : ℕ) (e : Ends) (p₁ : Emits code code₁ g q (0x32 ∷ four o)) (p₂ : Grown rows rows₁ i n a) → TreeDone (tree code₁ rows₁ q p₁ p₂) code₂ e → k < e.at
    pub finish : (code₁ rows₁ code₂ rows₂ code₃ : List ℕ) (q : ℕ) (e r : Ends) (p₁ : Emits code code₁ g q (0x32 ∷ four o)) (p₂ : Grown rows rows₁ i n a) (p₃ : TreeDone (tree code₁ rows₁ q p₁ p₂) code₂ e) (p₄ : Keeps (n + a) rows₁ rows₂)
        → TreesDone (rest code₁ rows₁ code₂ rows₂ q e p₁ p₂ p₃ p₄) code₃ r → TreesDone x code₃ r

  module _ (a : ℕ) (t : Tree) (ts : Trees) (more : List ℕ) (p : x.trees ≡ child t ts) (q : x.arities ≡ a ∷ more) where
    fine : FineTrees x.types x.funcs x.slots i (child t ts) (a ∷ more)
    fine = subst (λ (l : List ℕ). FineTrees x.types x.funcs x.slots i (child t ts) l) q (subst (λ (t : Trees). FineTrees x.types x.funcs x.slots i t x.arities) p x.fine)

    count : suc (length more) ≡ m
    count = sym (ap length q) ∙ x.count

    fit : (n + a ≤ 64) × (all_fit n more ≡ true)
    fit = all-fit-first n a more (rw q at x.room)

    long : length x.pos ≡ n
    long = x.many

    slot-short : length (get_or x.pos i []) < 8
    slot-short = rw (x.match.each i x.short) x.short

    abbrev block : List ℕ
    block = first x.types t ts a more x.pos i o

    abbrev rest-blocks : List (List Instr)
    rest-blocks = others x.types t ts a more x.pos i o

    abbrev rest-gos : List ℕ
    rest-gos = emit (map go (offsets (o + length block) rest-blocks))

    blocks-are : emit (flat (of_trees x.types x.trees x.arities x.pos i o)) ≡ block ++ emit (flat rest-blocks)
    blocks-are = rw (p, q) (flat-emit x.types t ts a more x.pos i o)

    gos-are : emit (map go (offsets o (of_trees x.types x.trees x.arities x.pos i o))) ≡ (0x32 ∷ four o) ++ rest-gos
    gos-are = rw (p, q) (gos-emit x.types t ts a more x.pos i o)

    bytes-are : bytes (trees_recs x.trees) ≡ bytes (tree_recs t) ++ bytes (trees_recs ts)
    bytes-are = ap (λ (t : Trees). bytes (trees_recs t)) p ∙ bytes-append (tree_recs t) (trees_recs ts)

    rest-long : length rest-gos ≡ 5 * length more
    rest-long =
        gos-long (offsets (o + length block) rest-blocks)
        ∙ ap (λ (j : ℕ). 5 * j) (offsets-long rest-blocks (o + length block) ∙ trees-long x.types x.funcs x.slots i ts more x.pos i (o + length block) more fine.1)

    stands : drop k s ≡ bytes (tree_recs t) ++ (bytes (trees_recs ts) ++ x.rest)
    stands = x.is ∙ rw (bytes-are, append_assoc (bytes (tree_recs t)) (bytes (trees_recs ts)) x.rest)

    a_byte : (t : Tree) → 1 ≤ length (bytes (tree_recs t))
    a_byte (split j u ts) = omega arith
    a_byte (rule rs) = omega arith
    a_byte norule = omega arith

    module _ (code₁ rows₁ : List ℕ) (q₁ : ℕ) (P : Emits code code₁ g q₁ (0x32 ∷ four o)) (G : Grown rows rows₁ i n a) where
      abbrev tree-here : TreeHere s lore rows₁ (n + a) k o code₁
      tree-here = record {
        types = x.types;
        funcs = x.funcs;
        told = x.told;
        slots = under x.slots i a;
        pos = below x.pos i a;
        match = match-under x.slots x.pos i a x.match (omega (arith, x.there, x.match.long, x.many)) x.short;
        are = rows-below rows rows₁ x.pos i a x.are (subst (λ (j : ℕ). Grown rows rows₁ i j a) (sym long) G) (omega (arith, x.there, long)) slot-short (omega (arith, fit.0, long));
        many = below-long x.pos i a ∙ rw long;
        tree = t;
        rest = bytes (trees_recs ts) ++ x.rest;
        is = stands;
        fine = fine.0;
        fits = omega (arith, x.fits, ap length blocks-are, length-append block (emit (flat rest-blocks)), emits-long P);
      }

      module _ (code₂ rows₂ : List ℕ) (e : Ends) (D : TreeDone tree-here code₂ e) (K : Keeps (n + a) rows₁ rows₂) where
        rest-rows : Rows rows₂ x.pos
        rest-rows = record {
          long = K.long ∙ G.long ∙ x.are.long;
          few = x.are.few;
          are = λ j w. K.same j (omega (arith, long)) ∙ G.same j (omega (arith, x.are.few)) (inl (omega (arith, long))) ∙ x.are.are j w;
          short = x.are.short;
        }

        code-long : length code₂ ≡ length code
        code-long = ap length D.is ∙ length-sets code₁ o block ∙ emits-long P

        low : (j : ℕ) → get_or more j 0 ≤ 8
        low j = rw q at (x.low (suc j))

        same : (j : ℕ) → j < m - 1 → get_or lore.cons (c + 1 + j) 0 ≡ get_or more j 0
        same j w = let z : c + 1 + j ≡ c + suc j = omega arith in rw z (rw q at (x.same (suc j) (omega arith)))

        abbrev rest-here : TreesHere s lore rows₂ n i (c + 1) (m - 1) e.at (g + 5) e.out code₂
        rest-here = record {
          types = x.types;
          funcs = x.funcs;
          told = x.told;
          slots = x.slots;
          pos = x.pos;
          match = x.match;
          are = rest-rows;
          many = x.many;
          there = x.there;
          short = x.short;
          arities = more;
          count = omega (arith, count);
          same = same;
          low = low;
          cons = omega (arith, x.cons, count);
          room = fit.1;
          trees = ts;
          rest = x.rest;
          is = rw D.at (skipped s k (bytes (tree_recs t)) (bytes (trees_recs ts) ++ x.rest) stands);
          fine = fine.1;
          before = omega (arith, x.before, D.out, count);
          fits = rw D.out (omega (arith, x.fits, ap length blocks-are, length-append block (emit (flat rest-blocks)), code-long));
        }

        done : (code₃ : List ℕ) (r : Ends) → TreesDone rest-here code₃ r → TreesDone x code₃ r
        done code₃ r Z =
            let E : e.out ≡ o + length block = D.out in
            let W₀ : code₃ ≡ sets (sets code₂ (g + 5) (emit (map go (offsets e.out (of_trees x.types ts more x.pos i e.out))))) e.out (emit (flat (of_trees x.types ts more x.pos i e.out))) = Z.is in
            let W : code₃ ≡ sets (sets code₂ (g + 5) rest-gos) (o + length block) (emit (flat rest-blocks)) = rw E at W₀ in
            let O₀ : r.out ≡ e.out + length (emit (flat (of_trees x.types ts more x.pos i e.out))) = Z.out in
            let O : r.out ≡ o + length block + length (emit (flat rest-blocks)) = rw E at O₀ in
            let B₀ : code₂ ≡ sets code₁ o block = D.is in
            let B : code₂ ≡ sets (sets code g (0x32 ∷ four o)) o block = B₀ ∙ ap (λ (l : List ℕ). sets l o block) P.is in
            let C : sets (sets (sets code g (0x32 ∷ four o)) o block) (g + 5) rest-gos ≡ sets (sets (sets code g (0x32 ∷ four o)) (g + 5) rest-gos) o block = sets-comm (sets code g (0x32 ∷ four o)) (g + 5) rest-gos o block (omega (arith, rest-long, x.before, count)) in
            let F : g + length (0x32 ∷ four o) ≡ g + 5 = omega (arith, four-long o) in
            record {
              at = omega (arith, Z.at, D.at, ap length bytes-are, length-append (bytes (tree_recs t)) (bytes (trees_recs ts)));
              out = O ∙ rw blocks-are (omega (arith, length-append block (emit (flat rest-blocks))));
              is = W ∙ rw (B, C, gos-are, blocks-are, sets-append code g (0x32 ∷ four o) rest-gos, F, sets-append (sets (sets code g (0x32 ∷ four o)) (g + 5) rest-gos) o block (emit (flat rest-blocks)));
            }

    next-made : NextIs a
    next-made = record {
      grows = ((omega (arith, x.there, long, x.are.few), fit.0), (inl x.there, slot-byte));
      inside = omega (arith, ap length stands, length-append (bytes (tree_recs t)) (bytes (trees_recs ts) ++ x.rest), a_byte t, length-drop k s);
      tree = λ code₁ rows₁ q₁ P G. tree-here code₁ rows₁ q₁ P G;
      rest = λ code₁ rows₁ code₂ rows₂ q₁ e P G D K. rest-here code₁ rows₁ q₁ P G code₂ rows₂ e D K;
      on = λ code₁ rows₁ code₂ q₁ e P G D. (let z = D.at in let w = a_byte t in omega arith);
      finish = λ code₁ rows₁ code₂ rows₂ code₃ q₁ e r P G D K Z. done code₁ rows₁ q₁ P G code₂ rows₂ e D K code₃ r Z;
    }
      where
        slot-byte : get_or rows (9 * i) 0 < 8
        slot-byte =
            let z : 9 * i + 0 ≡ 9 * i = omega arith in
            let y : get_or rows (9 * i + 0) 0 ≡ length (get_or x.pos i []) = sym (row_at rows i 0 (omega arith)) ∙ ap (λ (l : List ℕ). get_or l 0 0) (x.are.are i (omega (arith, x.there, long))) in
            let w : get_or rows (9 * i + 0) 0 < 8 = rw y slot-short in
            rw z at w

  pub next-is : (a : ℕ) → a ≡ get_or lore.cons c 0 → 0 < m → NextIs a
  next-is a same h = at x.trees x.arities refl refl
    where
      at : (ts : Trees) (l : List ℕ) → x.trees ≡ ts → x.arities ≡ l → NextIs a
      at ts [] p q = absurd (omega (arith, h, x.count, ap length q))
      at stop (b ∷ l) p q = absurd (subst (λ (l : List ℕ). FineTrees x.types x.funcs x.slots i stop l) q (subst (λ (t : Trees). FineTrees x.types x.funcs x.slots i t x.arities) p x.fine))
      at (child t ts) (b ∷ l) p q =
          let z : c + 0 ≡ c = omega arith in
          let e : a ≡ b = same ∙ ap (λ (j : ℕ). get_or lore.cons j 0) (sym z) ∙ (rw q at (x.same 0 (omega (arith, ap length q, x.count)))) in
          next-made a t ts l p (q ∙ ap (λ (j : ℕ). j ∷ l) (sym e))

pub keeps-refl : (n : ℕ) (rows : List ℕ) → Keeps n rows rows
keeps-refl n rows = record { long = refl; same = λ i h. refl; empty = refl }

pub tree-kept : {s : List ℕ} {lore : Lore} {rows : List ℕ} {n k o : ℕ} {code : List ℕ} (x : TreeHere s lore rows n k o code) {code' : List ℕ} {r : Ends} → TreeDone x code' r → length code' ≡ length code
tree-kept x d = ap length d.is ∙ simp length-sets

-- On the way over the children: the code keeps its length, the rows keep what they had, and what is done of those still due is done of all.
pub record Onward (s : List ℕ) (lore : Lore) (rows₀ : List ℕ) (n i c₀ m₀ k₀ g₀ o₀ : ℕ) (code₀ rows : List ℕ) (c m k g o : ℕ) (code : List ℕ) : Type 0 where
  pub past : k₀ ≤ k
  pub long : length code ≡ length code₀
  pub kept : Keeps n rows₀ rows
  pub due : (x : TreesHere s lore rows₀ n i c₀ m₀ k₀ g₀ o₀ code₀) → (y : TreesHere s lore rows n i c m k g o code) × ((code' : List ℕ) (r : Ends) → TreesDone y code' r → TreesDone x code' r)

pub onward-start : (s : List ℕ) (lore : Lore) (rows : List ℕ) (n i c m k g o : ℕ) (code : List ℕ) → Onward s lore rows n i c m k g o code rows c m k g o code
onward-start s lore rows n i c m k g o code = record { past = omega arith; long = refl; kept = keeps-refl n rows; due = λ x. (x, λ code' r d. d) }

pub onward-as : {s : List ℕ} {lore : Lore} {rows₀ : List ℕ} {n i c₀ m₀ k₀ g₀ o₀ : ℕ} {code₀ rows : List ℕ} {c m k g o : ℕ} {code : List ℕ} → Onward s lore rows₀ n i c₀ m₀ k₀ g₀ o₀ code₀ rows c m k g o code → (c' m' g' : ℕ) → c ≡ c' → m ≡ m' → g ≡ g'
    → Onward s lore rows₀ n i c₀ m₀ k₀ g₀ o₀ code₀ rows c' m' k g' o code
onward-as w c' m' g' p q r = rw (← p, ← q, ← r) w

module _ {s : List ℕ} {lore : Lore} {rows₀ : List ℕ} {n i c₀ m₀ k₀ g₀ o₀ : ℕ} {code₀ rows : List ℕ} {c m k g o : ℕ} {code : List ℕ} (w : Onward s lore rows₀ n i c₀ m₀ k₀ g₀ o₀ code₀ rows c m k g o code) (x : TreesHere s lore rows₀ n i c₀ m₀ k₀ g₀ o₀ code₀) where
  -- the children still due
  abbrev pub still : TreesHere s lore rows n i c m k g o code
  still = (w.due x).0

  pub onward-end : m ≤ 0 → TreesDone x code (record { at = k; out = o })
  onward-end h = (w.due x).1 code _ (trees-none still h _ refl refl)

  module _ {a : ℕ} (same : a ≡ get_or lore.cons c 0) (h : 0 < m) where
    -- the first of them
    pub child-is : NextIs still a
    child-is = next-is still a same h

    -- it is compiled
    pub onward-more : {code₁ rows₁ code₂ rows₂ : List ℕ} {q : ℕ} {e : Ends} → Emits code code₁ g q (0x32 ∷ four o) → Grown rows rows₁ i n a → ((y : TreeHere s lore rows₁ (n + a) k o code₁) → TreeDone y code₂ e) → Keeps (n + a) rows₁ rows₂
        → Onward s lore rows₀ n i c₀ m₀ k₀ g₀ o₀ code₀ rows₂ (c + 1) (m - 1) e.at (g + 5) e.out code₂
    onward-more {code₁} {rows₁} {code₂} {rows₂} {q} {e} p₁ p₂ d p₄ = record {
      past = omega (arith, w.past, child-is.on code₁ rows₁ code₂ q e p₁ p₂ (d _));
      long = tree-kept (child-is.tree code₁ rows₁ q p₁ p₂) (d _) ∙ emits-long p₁ ∙ w.long;
      kept = record {
        long = p₄.long ∙ p₂.long ∙ w.kept.long;
        same = λ j l. p₄.same j (omega arith) ∙ p₂.same j (omega (arith, child-is.grows.0.1)) (inl l) ∙ w.kept.same j l;
        empty = p₄.empty ∙ p₂.same 255 (omega arith) (inr (omega (arith, child-is.grows.0.1))) ∙ w.kept.empty;
      };
      due = λ y. (let f = next-is (w.due y).0 a same h in (f.rest code₁ rows₁ code₂ rows₂ q e p₁ p₂ (d _) p₄, λ code' r z. (w.due y).1 code' r (f.finish code₁ rows₁ code₂ rows₂ code' q e r p₁ p₂ (d _) p₄ z)));
    }
