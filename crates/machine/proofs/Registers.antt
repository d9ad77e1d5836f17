-- Laws of the registers in the memory: the pre-term stack, the free variables, the stack of links.
-- Assumes nothing.
use Prim.Native.Nat.{ℕ, zero, suc, ◌+◌, ◌-◌, ◌≤◌, ◌<◌}
use mathlib.Core.Path.{◌≡◌, refl, ap, ◌∙◌}
use mathlib.Core.Option.{none, some}
use mathlib.Core.List.{List, ◌∷◌}
use lib.ListN.{length, get_or, get_elem?, take, drop, set, length-take, drop_of_length-le}
use lib.Seq.{get_or-set_same, get_or-set_other, take-take, take-suc-set, take-set-lt, set_split, length-take-le}
use native.Mathlib.Omega.{arith}
use native.Mathlib.Numerals.{add-one}
use Rattle.engine.specs.Machine.{put}
use Rattle.machine.specs.View.{chain, terms_of, stack_of}

pub length-terms : (k : ℕ) (w : List ℕ) → length (terms_of k w) ≡ k
unfolding terms_of
length-terms zero w = refl
length-terms (suc k) w = ap suc (length-terms k w)

pub terms-far : (k j v : ℕ) (w : List ℕ) → k ≤ j → terms_of k (set w j v) ≡ terms_of k w
unfolding terms_of
terms-far zero j v w h = refl
terms-far (suc k) j v w h = λ i. get_or-set_other w j k v 0 (omega arith) i ∷ terms-far k j v w (omega arith) i

pub terms-push : (k v : ℕ) (w : List ℕ) → k < length w → terms_of (k + 1) (set w k v) ≡ v ∷ terms_of k w
unfolding terms_of
terms-push k v w h = rw add-one (λ i. get_or-set_same w k v 0 h i ∷ terms-far k k v w (omega arith) i)

pub terms-drop : (a k : ℕ) (w : List ℕ) → a ≤ k → drop a (terms_of k w) ≡ terms_of (k - a) w
unfolding terms_of
terms-drop zero k w h = let e : k - 0 ≡ k = omega arith in rw e
terms-drop (suc a) zero w h = absurd (omega arith)
terms-drop (suc a) (suc k) w h = let e : suc k - suc a ≡ k - a = omega arith in terms-drop a k w (omega arith) ∙ rw e

pub terms-get : (j k : ℕ) (w : List ℕ) → j < k → get_or (terms_of k w) j 0 ≡ get_or w (k - 1 - j) 0
unfolding terms_of
terms-get j zero w h = absurd (omega arith)
terms-get zero (suc k) w h = let e : suc k - 1 - 0 ≡ k = omega arith in rw e
terms-get (suc j) (suc k) w h = let e : suc k - 1 - suc j ≡ k - 1 - j = omega arith in terms-get j k w (omega arith) ∙ rw e

pub terms-first : (k : ℕ) (w : List ℕ) → 0 < k → get_elem? (terms_of k w) 0 ≡ some (get_or w (k - 1) 0)
unfolding terms_of
terms-first zero w h = absurd (omega arith)
terms-first (suc k) w h = let e : suc k - 1 ≡ k = omega arith in rw e

-- register v set: the last one and one more, or one of those that are there
pub put_next : (v k : ℕ) (w : List ℕ) → v < length w → take (v + 1) (set w v k) ≡ put (take v w) v k
unfolding put
put_next v k w h =
    rw (add-one, take-suc-set w v k h, take-take v v w (omega arith), drop_of_length-le (take v w) {i = suc v} (rw length-take (omega arith)))

pub put-there : (v n k : ℕ) (w : List ℕ) → v < n → n ≤ length w → take n (set w v k) ≡ put (take n w) v k
unfolding put
put-there v n k w h l = rw (take-set-lt n w v k h) (set_split (take n w) v k (rw (length-take-le n w l) h))

-- the top of the stack
pub top-none : (L : ℕ) (s : List ℕ) (t : ℕ) → t ≡ 0 → get_elem? (stack_of L s t) 0 ≡ none
unfolding stack_of chain
top-none L s t e = rw e

pub top-some : (L : ℕ) (s : List ℕ) (t : ℕ) → 0 < t → get_elem? (stack_of L s t) 0 ≡ some (t - 1)
unfolding stack_of chain
top-some L s zero h = absurd (omega arith)
top-some L s (suc k) h = let e : suc k - 1 ≡ k = omega arith in rw e
