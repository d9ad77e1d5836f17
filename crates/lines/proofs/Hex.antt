-- Laws of bytes in hex: two parts one behind the other; how long; the digit at a place; digits that were written, all and one byte behind the other; a part and the rest.
-- Assumes nothing.
use Rattle.std.proofs.Common.{ℕ, zero, suc, ◌+◌, ◌*◌, ◌/◌, ◌%◌, ◌≤◌, ◌<◌, ◌≡◌, refl, ap, sym, ◌∙◌, List, [], ◌∷◌, ◌++◌, length, get_or, take, false, append_assoc, arith}
use Rattle.std.proofs.Math.ListN.{set, length-set}
use Rattle.std.proofs.lemmas.List.{same_lists, get_or-take, take_more}
use Rattle.std.proofs.lemmas.Grind.{take-set_at, get_or_default_zero}
use lib.Seq.{length-take-le}
use Rattle.std.specs.Prelude.{◌==◌, if◌then◌else◌}
use Rattle.std.specs.Fmt.{digit_glyph}
use Rattle.lines.specs.Written.{hex}

pub hex-append : (s t : List ℕ) → hex (s ++ t) ≡ hex s ++ hex t
unfolding hex
hex-append [] t = refl
hex-append (x ∷ s) t = rw (hex-append s t)

pub length-hex : (s : List ℕ) → length (hex s) ≡ 2 * length s
unfolding hex
length-hex [] = refl
length-hex (x ∷ s) = let h = length-hex s in omega arith

-- one byte more
hex-more : (s : List ℕ) (i : ℕ) → i < length s → hex (take (i + 1) s) ≡ hex (take i s) ++ (digit_glyph false (get_or s i 0 / 16) ∷ digit_glyph false (get_or s i 0 % 16) ∷ [])
unfolding hex
hex-more s i h = ap hex (take_more s i 0 h) ∙ hex-append (take i s) (get_or s i 0 ∷ [])

-- the digit at a place: the high one at an even place, the low one at an odd one
pub hex-at : (s : List ℕ) (k : ℕ) → k < 2 * length s → get_or (hex s) k 0 ≡ digit_glyph false (if k % 2 == 0 then get_or s (k / 2) 0 / 16 else get_or s (k / 2) 0 % 16)
unfolding hex
hex-at [] k h = absurd (omega arith)
hex-at (x ∷ s) zero h = refl
hex-at (x ∷ s) (suc zero) h = refl
hex-at (x ∷ s) (suc (suc k)) h =
    let a : suc (suc k) / 2 ≡ suc (k / 2) = omega arith in
    let b : suc (suc k) % 2 ≡ k % 2 = omega arith in
    hex-at s k (omega arith) ∙ rw (a, b)

pub spelled : (s out : List ℕ) (n : ℕ) → n ≤ length s → 2 * n ≤ length out → ((k : ℕ) → k < 2 * n → get_or out k 0 ≡ digit_glyph false (if k % 2 == 0 then get_or s (k / 2) 0 / 16 else get_or s (k / 2) 0 % 16)) → take (2 * n) out ≡ hex (take n s)
spelled s out n f g h =
    let a = length-take-le (2 * n) out g in
    let b = length-take-le n s f in
    let c = length-hex (take n s) in
    same_lists (take (2 * n) out) (hex (take n s)) (omega arith) (λ k d l.
    let m : k < 2 * n = omega arith in
    let here : k / 2 < n = omega arith in
    get_or_default_zero (take (2 * n) out) k d l
    ∙ get_or-take (2 * n) out k 0 m
    ∙ h k m
    ∙ ap (λ (x : ℕ). digit_glyph false (if k % 2 == 0 then x / 16 else x % 16)) (sym (get_or-take n s (k / 2) 0 here))
    ∙ sym (hex-at (take n s) k (omega arith))
    ∙ sym (get_or_default_zero (hex (take n s)) k d (omega arith)))

pub spelled-more : (s out : List ℕ) (i a b : ℕ) → i < length s → 2 * length s ≤ length out → take (2 * i) out ≡ hex (take i s)
    → a ≡ digit_glyph false (get_or s i 0 / 16) → b ≡ digit_glyph false (get_or s i 0 % 16) → take (2 * (i + 1)) (set (set out (2 * i) a) (2 * i + 1) b) ≡ hex (take (i + 1) s)
spelled-more s out i a b h f e p q =
    let long = length-set out (2 * i) a in
    let last = take-set_at (set out (2 * i) a) (2 * i + 1) (2 * (i + 1)) b (omega arith) (omega arith) in
    let first = take-set_at out (2 * i) (2 * i + 1) a refl (omega arith) in
    last ∙ rw (first, e, p, q, append_assoc, hex-more s i h)

-- a part that was written, and the rest behind it
pub hex-part : (done part rest all more : List ℕ) → all ≡ part ++ rest → done ++ hex all ≡ more → (done ++ hex part) ++ hex rest ≡ more
hex-part done part rest all more e h = append_assoc done (hex part) (hex rest) ∙ ap (λ (l : List ℕ). done ++ l) (sym (hex-append part rest) ∙ ap hex (sym e)) ∙ h
