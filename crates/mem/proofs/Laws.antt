-- The laws of words and rows: what a read and a write of bytes, and of words, are.
-- Here, in order: words; rows; parts; a stretch written.
-- Assumes nothing.
use Prim.Native.Nat.{ℕ, zero, suc, ◌+◌, ◌-◌, ◌*◌, ◌/◌, ◌%◌, ◌≤◌, ◌<◌}
use mathlib.Core.Path.{◌≡◌, refl, ap, sym, ◌∙◌}
use mathlib.Core.List.{List, [], ◌∷◌}
use lib.ListN.{length, get_or, take, drop, set, length-set, length-drop}
use lib.Seq.{take-set-lt, drop-set-lt, take-set-le, drop-set-add, drop-drop, take-take, take-nil}
use native.Mathlib.Omega.{arith}
use native.Mathlib.Nat.{mul-zero, zero-add, mul-suc, suc-add}
use Rattle.mem.specs.Words.{words, rows, Wrote, Only}

two-suc : (k : ℕ) → 2 * suc k ≡ suc (suc (2 * k))
two-suc k = omega arith

two-suc-one : (k : ℕ) → 2 * suc k + 1 ≡ suc (suc (2 * k + 1))
two-suc-one k = omega arith

pub length-words : (s : List ℕ) → length (words s) ≡ length s / 2
unfolding words
length-words [] = refl
length-words (a ∷ []) = refl
length-words (a ∷ b ∷ s) = let h = length-words s in omega arith

-- a word read is two bytes read
pub word-get : (s : List ℕ) (k : ℕ) → k < length (words s) → get_or (words s) k 0 ≡ get_or s (2 * k) 0 + 256 * get_or s (2 * k + 1) 0
unfolding words
word-get [] k h = omega arith
word-get (a ∷ []) k h = omega arith
word-get (a ∷ b ∷ s) zero h = refl
word-get (a ∷ b ∷ s) (suc k) h = rw (two-suc-one k, two-suc k) (word-get s k (omega arith))

-- a word written is two bytes written
pub word_set : (s : List ℕ) (k v : ℕ) → k < length (words s) → words (set (set s (2 * k) (v % 256)) (2 * k + 1) (v / 256)) ≡ set (words s) k v
unfolding words
word_set [] k v h = absurd (omega arith)
word_set (a ∷ []) k v h = absurd (omega arith)
word_set (a ∷ b ∷ s) zero v h = ap (λ (n : ℕ). n ∷ words s) (omega arith)
word_set (a ∷ b ∷ s) (suc k) v h = rw (two-suc-one k, two-suc k) (ap (λ (l : List ℕ). (a + 256 * b) ∷ l) (word_set s k v (omega arith)))

k_suc : (k i : ℕ) → k * suc i ≡ k + k * i
k_suc k i = rw mul-suc (omega arith)

k-suc-f : (k i f : ℕ) → k * suc i + f ≡ k + (k * i + f)
k-suc-f k i f = rw mul-suc (omega arith)

-- row i of a list
pub row_get : (k n i : ℕ) (s : List ℕ) → i < n → get_or (rows k n s) i [] ≡ take k (drop (k * i) s)
unfolding rows
row_get k zero i s h = absurd (omega arith)
row_get k (suc n) zero s h = rw mul-zero
row_get k (suc n) (suc i) s h = rw (k_suc k i, ← drop-drop (k * i) k s) (row_get k n i (drop k s) (omega arith))

-- a write at place f of row i changes that row alone
pub row-set : (k n i f v : ℕ) (s : List ℕ) → f < k → rows k n (set s (k * i + f) v) ≡ set (rows k n s) i (set (take k (drop (k * i) s)) f v)
unfolding rows
row-set k zero i f v s h = refl
row-set k (suc n) zero f v s h = rw (mul-zero, zero-add, take-set-lt, drop-set-lt)
row-set k (suc n) (suc i) f v s h = rw (k-suc-f k i f, k_suc k i, take-set-le k s (k + (k * i + f)) v (omega arith), drop-set-add, ← drop-drop (k * i) k s)
    (ap (λ (l : List (List ℕ)). take k s ∷ l) (row-set k n i f v (drop k s) h))

-- a word that is there has both its bytes
pub room : (s : List ℕ) (k : ℕ) → k < length (words s) → 2 * k + 1 < length s
room s k h = omega (arith, length-words s)

pub wrote : {l l' : List ℕ} {k v : ℕ} → l' ≡ set l k v → Wrote l l' k v
wrote e = record { is = e; long = ap length e ∙ simp length-set }

pub word-wrote : (s : List ℕ) (k v : ℕ) → k < length (words s) → Wrote (words s) (words (set (set s (2 * k) (v % 256)) (2 * k + 1) (v / 256))) k v
word-wrote s k v h = wrote (word_set s k v h)

-- a write past the rows changes none
pub rows-far : (k n j v : ℕ) (s : List ℕ) → k * n ≤ j → rows k n (set s j v) ≡ rows k n s
unfolding rows
rows-far k zero j v s h = refl
rows-far k (suc n) j v s h =
    let le : k ≤ j = omega (arith, mul-suc k n) in
    let at : j ≡ k + (j - k) = omega arith in
    rw (take-set-le k s j v le)
    (ap (λ (l : List (List ℕ)). take k s ∷ l)
    (ap (λ (i : ℕ). rows k n (drop k (set s i v))) at ∙ rw (drop-set-add k s (j - k) v) (rows-far k n (j - k) v (drop k s) (omega (arith, mul-suc k n)))))

-- a part of a list, and a write outside it or in it
pub part-below : (a n j v : ℕ) (l : List ℕ) → j < a → take n (drop a (set l j v)) ≡ take n (drop a l)
part-below a n j v l h = rw (drop-set-lt a l j v h)

pub part-above : (a n j v : ℕ) (l : List ℕ) → a + n ≤ j → take n (drop a (set l j v)) ≡ take n (drop a l)
part-above a n j v l h =
    let at : j ≡ a + (j - a) = omega arith in
    ap (λ (i : ℕ). take n (drop a (set l i v))) at ∙ rw (drop-set-add a l (j - a) v, take-set-le n (drop a l) (j - a) v (omega arith))

pub part_in : (a n j v : ℕ) (l : List ℕ) → j < n → take n (drop a (set l (a + j) v)) ≡ set (take n (drop a l)) j v
part_in a n j v l h = rw (drop-set-add a l j v, take-set-lt n (drop a l) j v h)

-- part of a beginning
pub drop-take : (k m : ℕ) (l : List ℕ) → drop k (take (k + m) l) ≡ take m (drop k l)
drop-take zero m l = rw zero-add
drop-take (suc k) m [] = rw (suc-add, take-nil {A = ℕ} m)
drop-take (suc k) m (x ∷ l) = rw suc-add (drop-take k m l)

pub length-rows : (k n : ℕ) (l : List ℕ) → length (rows k n l) ≡ n
unfolding rows
length-rows k zero l = refl
length-rows k (suc n) l = ap suc (length-rows k n (drop k l))

-- a word written is a stretch written
pub only_wrote : {a b k v : ℕ} {l l' : List ℕ} → a ≤ k → k < b → Wrote l l' k v → Only a b l l'
only_wrote {a} {b} {k} {v} {l} h h' w =
    record { before = rw w.is (take-set-le a l k v h); behind = rw w.is (drop-set-lt b l k v h'); long = w.long }

pub only_then : {a b : ℕ} {l l' l'' : List ℕ} → Only a b l l' → Only a b l' l'' → Only a b l l''
only_then o p =
    record { before = p.before ∙ o.before; behind = p.behind ∙ o.behind; long = p.long ∙ o.long }

module _ {a b : ℕ} {l l' : List ℕ} (o : Only a b l l') where
  -- what lies before the stretch stays
  pub take-kept : (n : ℕ) → n ≤ a → take n l' ≡ take n l
  take-kept n h = sym (take-take n a l' h) ∙ ap (take n) o.before ∙ take-take n a l h

  -- what lies behind it stays
  pub drop-kept : (n : ℕ) → b ≤ n → drop n l' ≡ drop n l
  drop-kept n h =
      let e : n ≡ b + (n - b) = omega arith in
      ap (λ (i : ℕ). drop i l') e
      ∙ sym (drop-drop (n - b) b l')
      ∙ ap (drop (n - b)) o.behind
      ∙ drop-drop (n - b) b l
      ∙ ap (λ (i : ℕ). drop i l) (sym e)

  pub part-before : (c n : ℕ) → c + n ≤ a → take n (drop c l') ≡ take n (drop c l)
  part-before c n h = sym (drop-take c n l') ∙ ap (drop c) (take-kept (c + n) h) ∙ drop-take c n l

  pub part-behind : (c n : ℕ) → b ≤ c → take n (drop c l') ≡ take n (drop c l)
  part-behind c n h = ap (take n) (drop-kept c h)

take-front : (k m : ℕ) (l : List ℕ) → take k (take (k + m) l) ≡ take k l
take-front k m l = take-take k (k + m) l (omega arith)

-- rows are of what they cover
rows-cong : (k n : ℕ) (l l' : List ℕ) → take (k * n) l' ≡ take (k * n) l → rows k n l' ≡ rows k n l
unfolding rows
rows-cong k zero l l' e = refl
rows-cong k (suc n) l l' e =
    let f : take (k + k * n) l' ≡ take (k + k * n) l = rw (k_suc k n) at e in
    let a : take k l' ≡ take k l = sym (take-front k (k * n) l') ∙ ap (take k) f ∙ take-front k (k * n) l in
    let b : take (k * n) (drop k l') ≡ take (k * n) (drop k l) = sym (drop-take k (k * n) l') ∙ ap (drop k) f ∙ drop-take k (k * n) l in
    λ i. a i ∷ rows-cong k n (drop k l) (drop k l') b i

-- rows that end before the stretch stay
pub rows-kept : (k n : ℕ) {a b : ℕ} {l l' : List ℕ} → Only a b l l' → k * n ≤ a → rows k n l' ≡ rows k n l
rows-kept k n {l = l} {l' = l'} o h = rows-cong k n l l' (take-kept o (k * n) h)

-- a stretch that is row i: that row alone changes
pub row-only : (k n i : ℕ) (l l' : List ℕ) → i < n → Only (k * i) (k * i + k) l l' → rows k n l' ≡ set (rows k n l) i (take k (drop (k * i) l'))
unfolding rows
row-only k zero i l l' h o = absurd (omega arith)
row-only k (suc n) zero l l' h o = rw mul-zero (ap (λ (t : List ℕ). take k l' ∷ rows k n t) (drop-kept o k (omega (arith, mul-zero k))))
row-only k (suc n) (suc i) l l' h o =
    let e : k * suc i ≡ k + k * i = k_suc k i in
    let p : Only (k * i) (k * i + k) (drop k l) (drop k l') = record {
      before = part-before o k (k * i) (omega (arith, e));
      behind = drop-drop (k * i + k) k l' ∙ drop-kept o (k + (k * i + k)) (omega (arith, e)) ∙ sym (drop-drop (k * i + k) k l);
      long = simp length-drop (ap (λ (t : ℕ). t - k) o.long);
    } in
    let f : take k (drop (k * suc i) l') ≡ take k (drop (k * i) (drop k l')) = rw (e, ← drop-drop (k * i) k l') in
    rw f (λ j. take-kept o k (omega (arith, e)) j ∷ row-only k n i (drop k l) (drop k l') (omega arith) p j)
