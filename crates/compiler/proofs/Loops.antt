-- One turn of each of the loops that write code, and the lengths of what they write.
use Prim.Native.Nat.{ℕ, zero, suc, ◌+◌, ◌-◌, ◌*◌, ◌≤◌, ◌<◌}
use native.Mathlib.Numerals.{add-one}
use native.Mathlib.Omega.{arith}
use mathlib.Core.Path.{◌≡◌, refl, ap, ◌∙◌}
use mathlib.Core.List.{List, [], ◌∷◌, ◌++◌, append_assoc, append-nil}
use lib.ListN.{length, get_or, take, drop, length-append, length-drop, length-replicate, replicate}
use lib.Seq.{length-sets, get_or-drop, get_or-take, drop-cons, length-take-le}
use borrow.Author.Tests.{ne_eqb}
use Rattle.compiler.specs.declared.Lore.{Lore}
use Rattle.compiler.specs.Rows.{Progress, row, num_code, back, vars_code, arm_code, args_at}
use Rattle.compiler.proofs.Writing.{progress-room}

pub row-long : (rows : List ℕ) (i : ℕ) → length rows ≡ 2304 → i < 256 → length (row rows i) ≡ 9
unfolding row
row-long rows i h q = length-take-le 9 (drop (9 * i) rows) (rw (length-drop (9 * i) rows) (omega arith))

pub row_at : (rows : List ℕ) (i j : ℕ) → j < 9 → get_or (row rows i) j 0 ≡ get_or rows (9 * i + j) 0
unfolding row
row_at rows i j r = get_or-take 9 (drop (9 * i) rows) j 0 r ∙ get_or-drop (9 * i) rows j 0

pub row-part : (rows : List ℕ) (i : ℕ) → take (9 * i + 9 - 9 * i) (drop (9 * i) rows) ≡ row rows i
unfolding row
row-part rows i = let e : 9 * i + 9 - 9 * i ≡ 9 = omega arith in rw e

pub instance-long : (n x : ℕ) (y : List ℕ) → length (replicate n x ++ y) ≡ n + length y
instance-long n x y = length-append (replicate n x) y ∙ rw (length-replicate n x)

pub vars-long : (n : ℕ) → length (vars_code n) ≡ 2 * n
unfolding vars_code
vars-long zero = refl
vars-long (suc n) = let h = vars-long n in length-append (vars_code n) (0x36 ∷ n ∷ []) ∙ omega arith

pub vars-more : (n : ℕ) → vars_code n ++ 0x36 ∷ n ∷ [] ≡ vars_code (n + 1)
unfolding vars_code
vars-more n = rw (add-one n, vars_code)

module _ (lore : Lore) (n : ℕ) where
  pub args-con : args_at lore 7 n ≡ get_or lore.cons n 0
  unfolding args_at
  args-con = refl

  pub args-fun : args_at lore 8 n ≡ get_or lore.funcs n 0
  unfolding args_at
  args-fun = refl

  pub args_none : (kind : ℕ) → (kind ≡ 7 → ⊥) → (kind ≡ 8 → ⊥) → args_at lore kind n ≡ 0
  unfolding args_at
  args_none kind g h = rw (ne_eqb kind 7 g, args_at, ne_eqb kind 8 h)

module _ (rows : List ℕ) (n : ℕ) where
  pub code-con : num_code rows 7 n ≡ 0x38 ∷ 0 ∷ n ∷ []
  unfolding num_code
  code-con = refl

  pub code-fun : num_code rows 8 n ≡ 0x38 ∷ 1 ∷ n ∷ []
  unfolding num_code
  code-fun = refl

  pub code-fresh : num_code rows 10 n ≡ 0x37 ∷ n ∷ []
  unfolding num_code
  code-fresh = refl

  pub code-slot : (kind : ℕ) → (kind ≡ 7 → ⊥) → (kind ≡ 8 → ⊥) → (kind ≡ 10 → ⊥) → num_code rows kind n ≡ (0x30 ∷ row rows n) ++ 0x33 ∷ []
  unfolding num_code
  code-slot kind f g h = rw (ne_eqb kind 7 f, num_code, ne_eqb kind 8 g, ne_eqb kind 10 h)

-- of n + 1 records the last one's code comes first
pub back_last : (rows s : List ℕ) (k n : ℕ) → back rows s k (suc n) ≡ num_code rows (get_or s (k + 2 * n) 0) (get_or s (k + 2 * n + 1) 0) ++ back rows s k n
unfolding back
back_last rows s k zero = let e : k + 2 * 0 ≡ k = omega arith in rw (e, append-nil)
back_last rows s k (suc n) =
    let e : k + 2 + 2 * n ≡ k + 2 * suc n = omega arith in
    let h = rw e at (back_last rows s (k + 2) n) in
    ap (λ (l : List ℕ). l ++ num_code rows (get_or s k 0) (get_or s (k + 1) 0)) h
    ∙ append_assoc (num_code rows (get_or s (k + 2 * suc n) 0) (get_or s (k + 2 * suc n + 1) 0)) (back rows s (k + 2) n) (num_code rows (get_or s k 0) (get_or s (k + 1) 0))

pub back_step : (rows s : List ℕ) (k n : ℕ) → 0 < n → back rows s k n ≡ num_code rows (get_or s (k + 2 * (n - 1)) 0) (get_or s (k + 2 * (n - 1) + 1) 0) ++ back rows s k (n - 1)
back_step rows s k n h = let e : n ≡ suc (n - 1) = omega arith in ap (back rows s k) e ∙ back_last rows s k (n - 1)

pub back_none : (rows s : List ℕ) (k n : ℕ) → n ≤ 0 → back rows s k n ≡ []
unfolding back
back_none rows s k n h = let e : n ≡ 0 = omega arith in ap (back rows s k) e

-- the arm's next instance, for the constructors from number c up to e
pub arm_step : (lore : List ℕ) (c e : ℕ) → c < e → e ≤ length lore → arm_code c (take (e - c) (drop c lore)) ≡ (replicate (get_or lore c 0) 0x35 ++ 0x38 ∷ 0 ∷ c ∷ []) ++ arm_code (c + 1) (take (e - (c + 1)) (drop (c + 1) lore))
unfolding arm_code
arm_step lore c e h q =
    let n : e - c ≡ suc (e - suc c) = omega arith in
    let d : drop c lore ≡ get_or lore c 0 ∷ drop (suc c) lore = drop-cons lore c 0 (omega arith) in
    rw (n, d, add-one c, append_assoc (replicate (get_or lore c 0) 0x35) (0x38 ∷ 0 ∷ c ∷ []) (arm_code (suc c) (take (e - suc c) (drop (suc c) lore))))

pub arm-none : (lore : List ℕ) (c e : ℕ) → e ≤ c → arm_code c (take (e - c) (drop c lore)) ≡ 0x3A ∷ []
unfolding arm_code
arm-none lore c e h = let n : e - c ≡ 0 = omega arith in rw n

module _ {l l' : List ℕ} {o r : ℕ} {whole : List ℕ} where
  -- there is room for the next record's code, and for the next instance's
  pub back-room : (rows s : List ℕ) (k n : ℕ) → Progress l l' o r (back rows s k n) whole → 0 < n → o + length whole ≤ length l
      → r + length (num_code rows (get_or s (k + 2 * (n - 1)) 0) (get_or s (k + 2 * (n - 1) + 1) 0)) ≤ length l'
  back-room rows s k n p h q =
      let a = progress-room p q in
      let b = ap length (back_step rows s k n h) in
      let c = length-append (num_code rows (get_or s (k + 2 * (n - 1)) 0) (get_or s (k + 2 * (n - 1) + 1) 0)) (back rows s k (n - 1)) in
      omega arith

  pub arm-room : (lore : List ℕ) (c e : ℕ) → Progress l l' o r (arm_code c (take (e - c) (drop c lore))) whole → c < e → e ≤ length lore → o + length whole ≤ length l
      → r + (get_or lore c 0 + 3) ≤ length l'
  arm-room lore c e p h i q =
      let a = progress-room p q in
      let b = ap length (arm_step lore c e h i) in
      let d = length-append (replicate (get_or lore c 0) 0x35 ++ 0x38 ∷ 0 ∷ c ∷ []) (arm_code (c + 1) (take (e - (c + 1)) (drop (c + 1) lore))) in
      let f = instance-long (get_or lore c 0) 0x35 (0x38 ∷ 0 ∷ c ∷ []) in
      omega arith

  pub progress-long : {ahead : List ℕ} → Progress l l' o r ahead whole → length l' ≡ length l
  progress-long p = rw p.is (length-sets l o p.written)
