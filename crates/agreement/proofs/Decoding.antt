-- An instruction is read back from its bytes.
-- Assumes nothing.
use Prim.Native.Nat.{ℕ, suc, ◌≤◌, ◌<◌, ◌^◌}
use native.Mathlib.Omega.{arith}
use mathlib.Core.Path.{◌≡◌, refl, sym, ap, ◌∙◌}
use mathlib.Core.List.{List, [], ◌∷◌, ◌++◌, append_assoc}
use lib.ListN.{length, take, drop, replicate, length-append}
use lib.Seq.{take_at, drop_at, take-append_seam, length-take-le, take-take}
use Rattle.book.specs.Syntax.{con, fun}
use Rattle.engine.specs.Code.{Instr, load, branch, go, push, pop, make_anon, store_var, make_var, make_term, replace, narrow, choice, fail, wrong, four, from_four, encode, emit, symbol, decode, width}

-- what can be written as bytes
abbrev pub Writable : Instr → Type 0
Writable (load p) = length p ≤ 8
Writable (branch t) = Unit
Writable (go o) = o < 2 ^ 32
Writable push = Unit
Writable pop = Unit
Writable make_anon = Unit
Writable (store_var v) = Unit
Writable (make_var v) = Unit
Writable (make_term s) = Unit
Writable replace = Unit
Writable narrow = Unit
Writable choice = Unit
Writable fail = Unit
Writable wrong = ⊥

pub from-four : (o : ℕ) (rest : List ℕ) → o < 2 ^ 32 → from_four (four o ++ rest) ≡ o
unfolding four from_four
from-four o rest p = omega arith

-- a position in its eight bytes
padded : List ℕ → List ℕ
padded p = take 8 (p ++ replicate 8 0)

padded-length : (p : List ℕ) → length (padded p) ≡ 8
unfolding padded
padded-length p = length-take-le 8 (p ++ replicate 8 0) (rw length-append (omega arith))

padded-take : (p rest : List ℕ) → length p ≤ 8 → take (length p) (take 8 (padded p ++ rest)) ≡ p
padded-take p rest h =
    rw (take_at (padded p) rest 8 (padded-length p)) (unfold padded in (take-take (length p) 8 (p ++ replicate 8 0) h ∙ take-append_seam p (replicate 8 0)))

pub decode-encode : (i : Instr) (rest : List ℕ) → Writable i → decode (encode i ++ rest) ≡ i
unfolding decode encode symbol padded
decode-encode (load p) rest h = ap load (padded-take p rest h)
decode-encode (branch t) rest h = refl
decode-encode (go o) rest h = ap go (from-four o rest h)
decode-encode push rest h = refl
decode-encode pop rest h = refl
decode-encode make_anon rest h = refl
decode-encode (store_var v) rest h = refl
decode-encode (make_var v) rest h = refl
decode-encode (make_term (con c)) rest h = refl
decode-encode (make_term (fun f)) rest h = refl
decode-encode replace rest h = refl
decode-encode narrow rest h = refl
decode-encode choice rest h = refl
decode-encode fail rest h = refl
decode-encode wrong rest h = absurd h

pub drop-encode : (i : Instr) (rest : List ℕ) → drop (width i) (encode i ++ rest) ≡ rest
unfolding encode width four padded
drop-encode (load p) rest = drop_at (padded p) rest 8 (padded-length p)
drop-encode (branch t) rest = refl
drop-encode (go o) rest = refl
drop-encode push rest = refl
drop-encode pop rest = refl
drop-encode make_anon rest = refl
drop-encode (store_var v) rest = refl
drop-encode (make_var v) rest = refl
drop-encode (make_term (con c)) rest = refl
drop-encode (make_term (fun f)) rest = refl
drop-encode replace rest = refl
drop-encode narrow rest = refl
drop-encode choice rest = refl
drop-encode fail rest = refl
drop-encode wrong rest = refl

pub load-length : (p : List ℕ) → length (encode (load p)) ≡ 10
unfolding encode padded
load-length p = ap (λ (n : ℕ). suc (suc n)) (padded-length p)

pub emit-append : (a b : List Instr) → emit (a ++ b) ≡ emit a ++ emit b
unfolding emit
emit-append [] b = refl
emit-append (i ∷ a) b = rw (emit-append a b) (sym (append_assoc (encode i) (emit a) (emit b)))
