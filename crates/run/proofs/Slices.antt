-- Words of a memory whose end was lent on.
-- Here, in order: words of two lists; a memory whose part from an even place on is another; the rest's words there.
-- Assumes nothing.
use Prim.Native.Nat.{ℕ, zero, suc, ◌+◌, ◌*◌, ◌-◌, ◌≤◌}
use native.Mathlib.Omega.{arith}
use mathlib.Core.Path.{◌≡◌, refl, ap, ◌∙◌}
use mathlib.Core.List.{List, [], ◌∷◌, ◌++◌, append-nil}
use lib.ListN.{length, get_or, take, drop, length-drop, drop_of_length-le}
use lib.Seq.{get_or-drop, get_or-append-add, length-take-le}
use Rattle.mem.specs.Words.{words}
use Rattle.store.specs.Regions.{rest_of}

pub words_append : (k : ℕ) (a b : List ℕ) → length a ≡ 2 * k → words (a ++ b) ≡ words a ++ words b
unfolding words
words_append zero [] b e = refl
words_append zero (x ∷ a) b e = absurd (omega arith)
words_append (suc k) [] b e = absurd (omega arith)
words_append (suc k) (x ∷ []) b e = absurd (omega arith)
words_append (suc k) (x ∷ y ∷ a) b e = ap (λ (l : List ℕ). (x + 256 * y) ∷ l) (words_append k a b (omega arith))

pub length-words-even : (k : ℕ) (a : List ℕ) → length a ≡ 2 * k → length (words a) ≡ k
unfolding words
length-words-even zero [] e = refl
length-words-even zero (x ∷ a) e = absurd (omega arith)
length-words-even (suc k) [] e = absurd (omega arith)
length-words-even (suc k) (x ∷ []) e = absurd (omega arith)
length-words-even (suc k) (x ∷ y ∷ a) e = ap suc (length-words-even k a (omega arith))

-- the memory after its end was lent on and became t
abbrev pub ending : List ℕ → ℕ → List ℕ → List ℕ
ending s k t = take k s ++ (t ++ drop (length s - k) (drop k s))

pub ending-is : (s : List ℕ) (k : ℕ) (t : List ℕ) → k ≤ length s → ending s k t ≡ take k s ++ t
ending-is s k t h =
    let z : drop (length s - k) (drop k s) ≡ [] = drop_of_length-le (drop k s) {i = length s - k} (simp length-drop (omega arith)) in
    rw (z, append-nil)

-- word i of what was lent on is word base + i of the rest
pub ending-word : (L base : ℕ) (s t : List ℕ) (i : ℕ) → 2 * (16 * L + base) ≤ length s → get_or (rest_of L (ending s (2 * (16 * L + base)) t)) (base + i) 0 ≡ get_or (words t) i 0
unfolding rest_of
ending-word L base s t i h =
    let k : ℕ = 16 * L + base in
    let a : length (take (2 * k) s) ≡ 2 * k = length-take-le (2 * k) s h in
    let w : words (ending s (2 * k) t) ≡ words (take (2 * k) s) ++ words t = ap words (ending-is s (2 * k) t h) ∙ words_append k (take (2 * k) s) t a in
    let n : length (words (take (2 * k) s)) ≡ k = length-words-even k (take (2 * k) s) a in
    let q : 16 * L + (base + i) ≡ length (words (take (2 * k) s)) + i = omega arith in
    get_or-drop {A = ℕ} (16 * L) (words (ending s (2 * k) t)) (base + i) 0 ∙ ap (λ (l : List ℕ). get_or l (16 * L + (base + i)) 0) w ∙ ap (λ (j : ℕ). get_or (words (take (2 * k) s) ++ words t) j 0) q ∙ get_or-append-add {A = ℕ} (words (take (2 * k) s)) (words t) i 0
