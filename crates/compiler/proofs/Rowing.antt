-- The rows of positions: one written over, the others kept; the positions under a SPLIT.
use Prim.Native.Nat.{ℕ, zero, suc, ◌+◌, ◌-◌, ◌*◌, ◌≤◌, ◌<◌}
use native.Mathlib.Nat.{add-zero}
use native.Mathlib.Omega.{arith}
use mathlib.Core.Path.{◌≡◌, refl, ap, sym, ◌∙◌}
use mathlib.Core.Bool.{Bool, true, false}
use mathlib.Core.Logic.{inl}
use mathlib.Core.List.{List, [], ◌∷◌, ◌++◌, append_assoc, map}
use lib.ListN.{length, get_or, take, drop, set, replicate, length-append, length-set, length-replicate, length-map, get_or-replicate, get_or-append, get_or-eq_default}
use lib.Seq.{sets, length-sets, sets-eq, set-set, take-set-le, drop-set-lt, take-set-lt, set-append_seam, take-append-le, take_at, drop_at, length-take-le, get_or-append-add, get_or-set_same, get_or-set_other}
use lib.Dec.{eqb, ltb}
use borrow.Author.Tests.{eqb-true, eqb-false, ltb-true, ltb-false}
use Rattle.mem.proofs.Laws.{drop-take}
use Rattle.std.specs.List.{copy_within}
use Rattle.book.specs.Reading.{Slots, under}
use Rattle.heap.specs.Build.{up_from}
use Rattle.engine.specs.Compile.{Positions, below}
use Rattle.compiler.specs.Rows.{row, load_body, Rows, Stepped, Grown}
use Rattle.compiler.specs.Here.{Match}
use Rattle.compiler.proofs.Writing.{set-sets}
use Rattle.compiler.proofs.Loops.{row-long, row_at}

pub apart : (a b : ℕ) → a ≤ b → (a ≡ b → ⊥) → a < b
apart a b p q = side (ltb a b) refl
  where
    side : (t : Bool) → ltb a b ≡ t → a < b
    side true t = ltb-true a b t
    side false t = absurd (q (omega (arith, ltb-false a b t)))

-- a store within a run of bytes
set-in : (l : List ℕ) (o : ℕ) (x : List ℕ) (i a : ℕ) → i < length x → set (sets l o x) (o + i) a ≡ sets l o (set x i a)
set-in l o [] i a h = absurd (omega arith)
set-in l o (b ∷ x) zero a h = rw (add-zero o) (set-sets (set l o b) o a (suc o) x (omega arith) ∙ rw (set-set l o b a))
set-in l o (b ∷ x) (suc i) a h =
    let e : o + suc i ≡ suc o + i = omega arith in
    rw e (set-in (set l o b) (suc o) x i a (omega arith))

pub take-sets : (k : ℕ) (l : List ℕ) (o : ℕ) (x : List ℕ) → k ≤ o → take k (sets l o x) ≡ take k l
take-sets k l o [] h = refl
take-sets k l o (a ∷ x) h = take-sets k (set l o a) (suc o) x (omega arith) ∙ take-set-le k l o a h

pub drop-sets : (k : ℕ) (l : List ℕ) (o : ℕ) (x : List ℕ) → o + length x ≤ k → drop k (sets l o x) ≡ drop k l
drop-sets k l o [] h = refl
drop-sets k l o (a ∷ x) h = drop-sets k (set l o a) (suc o) x (omega arith) ∙ drop-set-lt k l o a (omega arith)

module _ (l : List ℕ) (to : ℕ) (x : List ℕ) (long : length l ≡ 2304) (small : to < 256) (nine : length x ≡ 9) where
  row_same : row (sets l (9 * to) x) to ≡ x
  unfolding row
  row_same =
      let e = sets-eq x l (9 * to) (omega arith) in
      let n : length (take (9 * to) l) ≡ 9 * to = length-take-le (9 * to) l (omega arith) in
      rw (e, append_assoc (take (9 * to) l) x (drop (9 * to + length x) l), drop_at (take (9 * to) l) (x ++ drop (9 * to + length x) l) (9 * to) n, take_at x (drop (9 * to + length x) l) 9 nine)

  row_other : (i : ℕ) → (i ≡ to → ⊥) → row (sets l (9 * to) x) i ≡ row l i
  unfolding row
  row_other i h = go (ltb i to) refl
    where
      go : (b : Bool) → ltb i to ≡ b → take 9 (drop (9 * i) (sets l (9 * to) x)) ≡ take 9 (drop (9 * i) l)
      go true t = let q = ltb-true i to t in sym (drop-take (9 * i) 9 (sets l (9 * to) x)) ∙ rw (take-sets (9 * i + 9) l (9 * to) x (omega arith)) (drop-take (9 * i) 9 l)
      go false t = let q = ltb-false i to t in let r : to < i = apart to i q (λ z. h (sym z)) in rw (drop-sets (9 * i) l (9 * to) x (omega arith))

-- a position with one step more, in a LOAD
step-body : (p : List ℕ) (step : ℕ) → length p < 8 → (length p + 1) ∷ set (take 8 (p ++ replicate 8 0)) (length p) step ≡ load_body (p ++ step ∷ [])
step-body p step h =
    let a : set (take 8 (p ++ replicate 8 0)) (length p) step ≡ take 8 (p ++ step ∷ replicate 7 0) = sym (take-set-lt 8 (p ++ replicate 8 0) (length p) step h) ∙ rw (set-append_seam p 0 (replicate 7 0) step) in
    let b : (p ++ step ∷ []) ++ replicate 8 0 ≡ (p ++ step ∷ replicate 7 0) ++ 0 ∷ [] = append_assoc p (step ∷ []) (replicate 8 0) ∙ sym (append_assoc p (step ∷ replicate 7 0) (0 ∷ [])) in
    let c : take 8 ((p ++ step ∷ replicate 7 0) ++ 0 ∷ []) ≡ take 8 (p ++ step ∷ replicate 7 0) = take-append-le 8 (p ++ step ∷ replicate 7 0) (0 ∷ []) (omega (arith, length-append p (step ∷ replicate 7 0))) in
    let d : length (p ++ step ∷ []) ≡ length p + 1 = length-append p (step ∷ []) in
    rw (a, d, b, c)

-- a row copied, its length one more, and the new step behind
copied-body : (r p : List ℕ) (step len : ℕ) → r ≡ load_body p → get_or r 0 0 ≡ len → len < 8 → set (set r 0 (len + 1)) (1 + len) step ≡ load_body (p ++ step ∷ [])
copied-body r p step len q h u =
    let x : length p ≡ len = sym (ap (λ (l : List ℕ). get_or l 0 0) q) ∙ h in
    let w : 1 + len ≡ suc (length p) = omega arith in
    let v : len + 1 ≡ length p + 1 = omega arith in
    ap (λ (l : List ℕ). set (set l 0 (len + 1)) (1 + len) step) q ∙ rw (w, v) (step-body p step (omega arith))

-- a row written over another, its length one more, and the new step behind
module _ (rows : List ℕ) (slot to : ℕ) (long : length rows ≡ 2304) (s : slot < 256) (t : to < 256) where
  copied : copy_within rows (9 * slot) (9 * slot + 9) (9 * to) ≡ sets rows (9 * to) (row rows slot)
  unfolding row
  copied =
      let n : length (take 9 (drop (9 * slot) rows)) ≡ 9 = row-long rows slot long s in
      let e : 9 * slot + 9 - 9 * slot ≡ 9 = omega arith in
      rw (e, sets-eq (take 9 (drop (9 * slot) rows)) rows (9 * to) (omega arith), n)

  pub stepped : (step : ℕ) (rows' : List ℕ) → rows' ≡ copy_within rows (9 * slot) (9 * slot + 9) (9 * to) → get_or rows (9 * slot) 0 < 8
      → Stepped rows (set (set rows' (9 * to) (get_or rows (9 * slot) 0 + 1)) (9 * to + 1 + get_or rows (9 * slot) 0) step) slot to step
  stepped step rows' e h =
      let C : List ℕ = row rows slot in
      let len : ℕ = get_or rows (9 * slot) 0 in
      let n : length C ≡ 9 = row-long rows slot long s in
      let u : 9 * to ≡ 9 * to + 0 = omega arith in
      let v : 9 * to + 1 + len ≡ 9 * to + (1 + len) = omega arith in
      let X : List ℕ = set (set C 0 (len + 1)) (1 + len) step in
      let f₀ : set rows' (9 * to) (len + 1) ≡ sets rows (9 * to) (set C 0 (len + 1)) = rw (e, copied) (ap (λ (k : ℕ). set (sets rows (9 * to) C) k (len + 1)) u ∙ set-in rows (9 * to) C 0 (len + 1) (omega arith)) in
      let f : set (set rows' (9 * to) (len + 1)) (9 * to + 1 + len) step ≡ sets rows (9 * to) X = rw (f₀, v) (set-in rows (9 * to) (set C 0 (len + 1)) (1 + len) step (omega (arith, length-set C 0 (len + 1)))) in
      let z : 9 * slot + 0 ≡ 9 * slot = omega arith in
      let g : length X ≡ 9 = length-set (set C 0 (len + 1)) (1 + len) step ∙ length-set C 0 (len + 1) ∙ n in
      record {
        long = rw f (length-sets rows (9 * to) X);
        is = λ p r. rw (f, row_same rows to X long t g) (copied-body (row rows slot) p step len r (row_at rows slot 0 (omega arith) ∙ rw z) h);
        same = λ i l u. rw f (row_other rows to X long t g i u);
      }

up-long : (a n : ℕ) → length (up_from a n) ≡ n
unfolding up_from
up-long a zero = refl
up-long a (suc n) = ap suc (up-long (suc a) n)

pub steps-at : (p : List ℕ) (b n j : ℕ) → j < n → get_or (map (λ i. p ++ i ∷ []) (up_from b n)) j [] ≡ p ++ (b + j) ∷ []
unfolding up_from
steps-at p b zero j h = absurd (omega arith)
steps-at p b (suc n) zero h = rw (add-zero b)
steps-at p b (suc n) (suc j) h = steps-at p (suc b) n j (omega arith) ∙ ap (λ (i : ℕ). p ++ i ∷ []) (omega arith)

pub steps-long : (p : List ℕ) (b n : ℕ) → length (map (λ i. p ++ i ∷ []) (up_from b n)) ≡ n
steps-long p b n = length-map (up_from b n) (λ i. p ++ i ∷ []) ∙ up-long b n

pub below-long : (pos : Positions) (i a : ℕ) → length (below pos i a) ≡ length pos + a
unfolding below
below-long pos i a = length-append pos (map (λ j. get_or pos i [] ++ j ∷ []) (up_from 1 a)) ∙ rw (steps-long (get_or pos i []) 1 a)

-- positions and those under them
pub rows_grown : (rows rows' : List ℕ) (pos : Positions) (slot a : ℕ) (p : List ℕ) → Rows rows pos → Grown rows rows' slot (length pos) a → row rows slot ≡ load_body p → length p < 8 → length pos + a ≤ 64
    → Rows rows' (pos ++ map (λ i. p ++ i ∷ []) (up_from 1 a))
rows_grown rows rows' pos slot a p r g q h u = record {
  long = g.long ∙ r.long;
  few = omega (arith, long);
  are = λ i w. at i (ltb i (length pos)) refl (omega (arith, long));
  short = λ i. low i (ltb i (length pos)) refl (ltb i (length pos + a)) refl;
}
  where
    new : Positions
    new = map (λ i. p ++ i ∷ []) (up_from 1 a)

    long : length (pos ++ new) ≡ length pos + a
    long = length-append pos new ∙ rw (steps-long p 1 a)

    behind : (i : ℕ) → length pos ≤ i → i < length pos + a → get_or (pos ++ new) i [] ≡ p ++ (i - length pos + 1) ∷ []
    behind i v w =
        let e : i ≡ length pos + (i - length pos) = omega arith in
        ap (λ (k : ℕ). get_or (pos ++ new) k []) e ∙ get_or-append-add pos new (i - length pos) [] ∙ steps-at p 1 a (i - length pos) (omega arith) ∙ ap (λ (k : ℕ). p ++ k ∷ []) (omega arith)

    at : (i : ℕ) (b : Bool) → ltb i (length pos) ≡ b → i < length pos + a → row rows' i ≡ load_body (get_or (pos ++ new) i [])
    at i true t w =
        let v = ltb-true i (length pos) t in
        g.same i (omega arith) (inl v) ∙ r.are i v ∙ ap load_body (sym (get_or-append pos new [] i v))
    at i false t w =
        let v = ltb-false i (length pos) t in
        let e : i ≡ length pos + (i - length pos) = omega arith in
        ap (row rows') e ∙ g.are p q (i - length pos) (omega arith) ∙ ap load_body (sym (behind i v w))

    low : (i : ℕ) (b : Bool) → ltb i (length pos) ≡ b → (d : Bool) → ltb i (length pos + a) ≡ d → length (get_or (pos ++ new) i []) ≤ 8
    low i true t d w = let v = ltb-true i (length pos) t in rw (get_or-append pos new [] i v) (r.short i)
    low i false t true w = rw (behind i (ltb-false i (length pos) t) (ltb-true i (length pos + a) w)) (omega (arith, length-append p ((i - length pos + 1) ∷ [])))
    low i false t false w = rw (get_or-eq_default (pos ++ new) [] {n = i} (omega (arith, long, ltb-false i (length pos + a) w))) (omega arith)

pub rows-below : (rows rows' : List ℕ) (pos : Positions) (slot a : ℕ) → Rows rows pos → Grown rows rows' slot (length pos) a → slot < length pos → length (get_or pos slot []) < 8 → length pos + a ≤ 64 → Rows rows' (below pos slot a)
unfolding below
rows-below rows rows' pos slot a r g h q u = rows_grown rows rows' pos slot a (get_or pos slot []) r g (r.are slot h) q u

pub match-under : (slots : Slots) (pos : Positions) (i a : ℕ) → Match slots pos → i < length slots → get_or slots i 8 < 8 → Match (under slots i a) (below pos i a)
unfolding under below
match-under slots pos i a m h d = record { long = omega (arith, left, right, m.long); each = λ k u. at k (ltb k (length slots)) refl (ltb k (length slots + a)) refl u }
  where
    new : Positions
    new = map (λ j. get_or pos i [] ++ j ∷ []) (up_from 1 a)

    old : Slots
    old = set slots i 8

    left : length (pos ++ new) ≡ length pos + a
    left = length-append pos new ∙ rw (steps-long (get_or pos i []) 1 a)

    right : length (old ++ replicate a (get_or slots i 8 + 1)) ≡ length slots + a
    right = length-append old (replicate a (get_or slots i 8 + 1)) ∙ rw (length-set slots i 8, length-replicate a (get_or slots i 8 + 1))

    at : (k : ℕ) (b : Bool) → ltb k (length slots) ≡ b → (e : Bool) → ltb k (length slots + a) ≡ e → get_or (old ++ replicate a (get_or slots i 8 + 1)) k 8 < 8 → length (get_or (pos ++ new) k []) ≡ get_or (old ++ replicate a (get_or slots i 8 + 1)) k 8
    at k true t e w u =
        let v = ltb-true k (length slots) t in
        let p : get_or (old ++ replicate a (get_or slots i 8 + 1)) k 8 ≡ get_or old k 8 = get_or-append old (replicate a (get_or slots i 8 + 1)) 8 k (omega (arith, length-set slots i 8)) in
        let q : get_or (pos ++ new) k [] ≡ get_or pos k [] = get_or-append pos new [] k (omega (arith, m.long)) in
        rw (p, q) (same k v (eqb k i) refl (rw p at u))
      where
        same : (k : ℕ) → k < length slots → (b : Bool) → eqb k i ≡ b → get_or old k 8 < 8 → length (get_or pos k []) ≡ get_or old k 8
        same k v true z u = absurd (omega (arith, rw (eqb-true k i z, get_or-set_same slots i 8 8 h) at u))
        same k v false z u = let y = get_or-set_other slots i k 8 8 (eqb-false k i z) in rw y (m.each k (rw y at u))
    at k false t true w u =
        let v = ltb-false k (length slots) t in
        let x = ltb-true k (length slots + a) w in
        let e : k ≡ length pos + (k - length slots) = omega (arith, m.long) in
        let f : k ≡ length old + (k - length slots) = omega (arith, length-set slots i 8) in
        let p : get_or (old ++ replicate a (get_or slots i 8 + 1)) k 8 ≡ get_or slots i 8 + 1 =
        ap (λ (j : ℕ). get_or (old ++ replicate a (get_or slots i 8 + 1)) j 8) f ∙ get_or-append-add old (replicate a (get_or slots i 8 + 1)) (k - length slots) 8 ∙ get_or-replicate a (k - length slots) (get_or slots i 8 + 1) 8 (omega arith) in
        let q : get_or (pos ++ new) k [] ≡ get_or pos i [] ++ (1 + (k - length slots)) ∷ [] =
        ap (λ (j : ℕ). get_or (pos ++ new) j []) e ∙ get_or-append-add pos new (k - length slots) [] ∙ steps-at (get_or pos i []) 1 a (k - length slots) (omega arith) in
        rw (p, q) (length-append (get_or pos i []) ((1 + (k - length slots)) ∷ []) ∙ rw (m.each i d))
    at k false t false w u = absurd (omega (arith, rw (get_or-eq_default (old ++ replicate a (get_or slots i 8 + 1)) 8 {n = k} (omega (arith, right, ltb-false k (length slots + a) w))) at u))
