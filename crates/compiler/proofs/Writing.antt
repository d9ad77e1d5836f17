-- Bytes written from a place on: a run copied over a part, one run of bytes after another, loops that write.
use Prim.Native.Nat.{ℕ, suc, ◌+◌, ◌/◌, ◌%◌, ◌≤◌, ◌<◌}
use native.Mathlib.Nat.{add-zero, add-suc, suc-add}
use native.Mathlib.Omega.{arith}
use mathlib.Core.Path.{◌≡◌, refl, ap, sym, ◌∙◌, subst}
use mathlib.Core.List.{List, [], ◌∷◌, ◌++◌, append_assoc, append-nil}
use mathlib.Core.Logic.{◌≢◌}
use borrow.Rule.Slice.PartMut.{put_mid}
use Rattle.std.proofs.lemmas.Slice.{put_mid-paste}
use lib.ListN.{length, get_or, set, length-append}
use lib.Seq.{sets, length-sets, set_comm, sets-eq, take-length}
use Rattle.std.specs.Int.{w64, to_le_bytes}
use Rattle.engine.specs.Code.{four}
use Rattle.compiler.specs.Rows.{Emits, Progress}

pub sets-append : (l : List ℕ) (o : ℕ) (x y : List ℕ) → sets l o (x ++ y) ≡ sets (sets l o x) (o + length x) y
sets-append l o [] y = rw (add-zero o)
sets-append l o (a ∷ x) y = sets-append (set l o a) (suc o) x y ∙ rw (suc-add o (length x), ← add-suc o (length x))

-- a store in front of a run of bytes
pub set-sets : (l : List ℕ) (i a o : ℕ) (x : List ℕ) → i < o → set (sets l o x) i a ≡ sets (set l i a) o x
set-sets l i a o [] h = refl
set-sets l i a o (b ∷ x) h =
    let d : o ≢ i = λ z. omega arith in
    set-sets (set l o b) i a (suc o) x (omega arith) ∙ rw (set_comm l o i b a d)

-- two runs of bytes that don't meet
pub sets-comm : (l : List ℕ) (i : ℕ) (x : List ℕ) (o : ℕ) (y : List ℕ) → i + length x ≤ o → sets (sets l o y) i x ≡ sets (sets l i x) o y
sets-comm l i [] o y h = refl
sets-comm l i (a ∷ x) o y h = rw (set-sets l i a o y (omega arith)) (sets-comm (set l i a) (suc i) x o y (omega arith))

module _ {l l' : List ℕ} {o r : ℕ} {x : List ℕ} (e : Emits l l' o r x) where
  pub emits-long : length l' ≡ length l
  emits-long = rw e.is (length-sets l o x)

  pub emits_then : {m : List ℕ} {r' : ℕ} {y : List ℕ} → Emits l' m r r' y → Emits l m o r' (x ++ y)
  emits_then {m} {r'} {y} f = record { is = f.is ∙ rw (e.is, e.next, sets-append l o x y); next = omega (arith, f.next, e.next, length-append x y) }

  pub emits-as : (z : List ℕ) → x ≡ z → Emits l l' o r z
  emits-as z q = subst (Emits l l' o r) q e

pub progress_start : (l : List ℕ) (o : ℕ) (x : List ℕ) → Progress l l o o x x
progress_start l o x = record { written = []; is = refl; next = sym (add-zero o); all = refl }

module _ {l l' : List ℕ} {o r : ℕ} {ahead whole : List ℕ} (p : Progress l l' o r ahead whole) where
  pub progress_step : {m : List ℕ} {r' : ℕ} {x : List ℕ} (y : List ℕ) → Emits l' m r r' x → ahead ≡ x ++ y → Progress l m o r' y whole
  progress_step {m} {r'} {x} y e q = record {
    written = p.written ++ x;
    is = e.is ∙ rw (p.is, p.next, sets-append l o p.written x);
    next = omega (arith, e.next, p.next, length-append p.written x);
    all = rw (append_assoc p.written x y, ← q) p.all;
  }

  pub progress-end : {m : List ℕ} {r' : ℕ} {x : List ℕ} → Emits l' m r r' x → ahead ≡ x → Emits l m o r' whole
  progress-end {m} {r'} {x} e q = record {
    is = e.is ∙ rw (p.is, p.next, ← sets-append l o p.written x, ← q, p.all);
    next = omega (arith, e.next, p.next, ap length (rw q at p.all), length-append p.written x);
  }

  pub progress-stop : ahead ≡ [] → Emits l l' o r whole
  progress-stop q =
      let h : p.written ≡ whole = sym (append-nil p.written) ∙ rw q at p.all in
      record { is = p.is ∙ rw h; next = p.next ∙ rw h }

  pub progress-room : o + length whole ≤ length l → r + length ahead ≤ length l'
  progress-room h =
      let a = ap length p.all in
      let b = length-append p.written ahead in
      let c = length-sets l o p.written in
      rw p.is (omega (arith, p.next))

-- a run of bytes copied over a part
pub pasted : (l : List ℕ) (o k : ℕ) (x y : List ℕ) → y ≡ x → k ≡ length x → o + length x ≤ length l → put_mid o k l y ≡ sets l o x
pasted l o k x y e q h = put_mid-paste o k l y x (length x) e (sym q) refl ∙ rw (take-length x) (sym (sets-eq x l o h))

-- the first four bytes of a number
pub four-bytes : (n : ℕ) (b : List ℕ) → b ≡ to_le_bytes w64 n → get_or b 0 0 ∷ get_or b 1 0 ∷ get_or b 2 0 ∷ get_or b 3 0 ∷ [] ≡ four n
unfolding four
four-bytes n b e =
    let p : get_or b 0 0 ≡ n % 256 = rw e (omega arith) in
    let q : get_or b 1 0 ≡ n / 256 % 256 = rw e (omega arith) in
    let r : get_or b 2 0 ≡ n / 256 / 256 % 256 = rw e (omega arith) in
    let s : get_or b 3 0 ≡ n / 256 / 256 / 256 % 256 = rw e (omega arith) in
    cc
