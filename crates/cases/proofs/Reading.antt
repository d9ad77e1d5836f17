-- Laws of reading a stream: how many bytes are read into a part of a slice; what is passed over; what is kept of a question; a case.
-- Assumes nothing.
use Prim.Native.Nat.{ℕ, zero, suc, ◌+◌, ◌-◌, ◌≤◌, ◌<◌, min}
use mathlib.Core.Logic.{inl, inr}
use mathlib.Core.Bool.{Bool, true, false}
use mathlib.Core.Path.{◌≡◌, refl, ap, sym, ◌∙◌, subst, subst⁻¹}
use mathlib.Core.List.{List, [], ◌∷◌, ◌++◌, append-nil, append_assoc}
use mathlib.Core.Option.{none, some}
use Rattle.std.specs.Prelude.{Option, Some, None}
use mathlib.Core.Option as math
use lib.ListN.{length, take, drop, length-take, length-append, length-drop, take-append-drop, replicate, length-replicate}
use lib.Seq.{length-take-le, length_front, take-length, take_at, take-append-le, take-take}
use lib.Dec.{ltb}
use native.Mathlib.Omega.{arith}
use borrow.Author.Tests.{ltb-true, ltb-false}
use Rattle.run.specs.declared.Outcome.{Outcome}
use Rattle.cases.specs.declared.Passed.{Passed}
use Rattle.cases.specs.declared.Passed.TheVariants.{Whole, Begun, Lost}
use Rattle.cases.specs.declared.Case.{Case}
use Rattle.cases.specs.declared.Question.{Question}
use Rattle.cases.specs.Parts.{begun, due, byte, passed, start, reach}
use Rattle.cases.specs.Whole.{AtEnd, BookKept, QuestionKept, whole_part, Over, PartOf, Shown, QuestionIs, CaseRan, CaseTaken}
use Rattle.cases.proofs.Passes.{parts, pass-none, reach-part}
use Rattle.cases.proofs.Long.{body-few}
use Rattle.book.specs.Record.{body_of}

-- bytes read into the first m of a slice
pub read-few : (m : ℕ) (chunk part : List ℕ) {r : ℕ} → r ≤ length part → length part ≡ length (take m chunk) → (r ≤ m) × (r ≤ length (part ++ drop m chunk))
read-few m chunk part h k =
    let a = length-take m chunk in
    let b = length-append part (drop m chunk) in
    (omega arith, omega arith)

-- bytes passed over so far: all but `left` of n
pub record Passing (p : Passed) (n left : ℕ) (r : Passed) : Type 0 where
  pub over : Over p (n - left) r
  pub few : left ≤ n

pub passing-start : (p : Passed) (n : ℕ) → Passing p n n p
passing-start p n = record { over = record { bytes = []; many = omega arith; pass = pass-none p }; few = omega arith }

module _ {p : Passed} {n left : ℕ} {r : Passed} (P : Passing p n left r) where
  pub passing-room : (chunk : List ℕ) (k : ℕ) → reach p + n < 18446744073709551616 → k ≤ left → k ≤ length chunk → reach r + length (take k chunk) < 18446744073709551616
  passing-room chunk k h l f =
      let o = P.over in
      let g = reach-part p o.bytes in
      let z : reach r ≤ reach p + length o.bytes = rw (← o.pass) g in
      let y = length-take-le k chunk f in
      omega (arith, o.many, P.few)

  pub passing-more : (chunk : List ℕ) (k : ℕ) {r' : Passed} → k ≤ left → k ≤ length chunk → r' ≡ passed r (take k chunk) → Passing p n (left - k) r'
  passing-more chunk k l f q =
      let o = P.over in
      let a = length-append o.bytes (take k chunk) in
      let b = length-take-le k chunk f in
      record {
        over = record {
          bytes = o.bytes ++ take k chunk;
          many = omega (arith, o.many, P.few);
          pass = parts p o.bytes (take k chunk) ∙ ap (λ (x : Passed). passed x (take k chunk)) o.pass ∙ sym q;
        };
        few = omega (arith, P.few);
      }

  pub passing-done : left ≤ 0 → Over p n r
  passing-done l = let o = P.over in record { bytes = o.bytes; many = omega (arith, o.many); pass = o.pass }

-- what a pass over bytes has seen of them
unfoldable Seen : List ℕ → Passed → Type 0
Seen s (Whole k) = k ≡ length s
Seen s (Begun k m e) = (e ≡ length s) × (k < e) × (e + m < k + 3) × (passed start (take k s) ≡ Whole k)
Seen s (Lost k) = Unit {0}

seen-begun : (s : List ℕ) (x k : ℕ) → passed start s ≡ Whole k → k ≡ length s → (o : math.Option ℕ) → body_of x ≡ o → Seen (s ++ x ∷ []) (begun k o)
unfolding Seen begun
seen-begun s x k h l none q = tt
seen-begun s x k h l (some zero) q = let a = length-append s (x ∷ []) in omega arith
seen-begun s x k h l (some (suc m)) q =
    let a = length-append s (x ∷ []) in
    let f = body-few x q in
    (omega arith, omega arith, omega arith, ap (passed start) (take_at s (x ∷ []) k (sym l)) ∙ h)

seen-byte : (s : List ℕ) (x : ℕ) (p : Passed) → passed start s ≡ p → Seen s p → Seen (s ++ x ∷ []) (byte p x)
unfolding Seen byte due
seen-byte s x (Whole k) h l = seen-begun s x k h l (body_of x) refl
seen-byte s x (Begun k zero e) h l = let a = length-append s (x ∷ []) in omega arith
seen-byte s x (Begun k (suc m) e) h l =
    let a = length-append s (x ∷ []) in
    (omega arith, omega arith, omega arith, ap (passed start) (take-append-le k s (x ∷ []) (omega arith)) ∙ l.3)
seen-byte s x (Lost k) h l = tt

seen_more : (s t : List ℕ) (p : Passed) → passed start s ≡ p → Seen s p → Seen (s ++ t) (passed p t)
unfolding passed
seen_more s [] p h l = subst⁻¹ (λ (u : List ℕ). Seen u p) (append-nil s) l
seen_more s (x ∷ t) p h l =
    subst (λ (u : List ℕ). Seen u (passed (byte p x) t)) (append_assoc s (x ∷ []) t)
    (seen_more (s ++ x ∷ []) t (byte p x) (parts start s (x ∷ []) ∙ ap (λ (y : Passed). byte y x) h) (seen-byte s x p h l))

seen : (s : List ℕ) → Seen s (passed start s)
unfolding Seen
seen s = seen_more [] s start (pass-none start) refl

-- a question all of which was read
pub look-all : (part : List ℕ) {q : ℕ} {p : Passed} → length part ≡ q → p ≡ passed start part → Shown part q (length part) p
look-all part h e =
    record {
      rest = [];
      fits = omega arith;
      all = omega arith;
      enough = inl refl;
      pass = ap (passed start) (append-nil (take (length part) part) ∙ take-length part) ∙ sym e;
    }

pub look-room : (part : List ℕ) (q : ℕ) {p : Passed} → PartOf part q → p ≡ passed start part → reach p + (q - length part) < 18446744073709551616
unfolding reach
look-room part q {p} P e = let g = reach-part start part in let z : reach p ≤ reach start + length part = rw e g in omega (arith, P.fits, P.short)

-- one of which a part was read
module _ (part : List ℕ) (q : ℕ) (P : PartOf part q) (d : length part ≡ q → ⊥) where
  long : 771 ≤ length part
  long = P.enough (omega (arith, P.fits))

  behind : (p : Passed) → passed start part ≡ p → {r : Passed} (o : Over p (q - length part) r) (k : ℕ) → k ≤ length part → passed start (take k part ++ (drop k part ++ o.bytes)) ≡ r
  behind p e o k h =
      ap (passed start) (sym (append_assoc (take k part) (drop k part) o.bytes) ∙ ap (λ (l : List ℕ). l ++ o.bytes) (take-append-drop k part))
      ∙ parts start part o.bytes ∙ ap (λ (x : Passed). passed x o.bytes) e ∙ o.pass

  counted : {p r : Passed} (o : Over p (q - length part) r) (k : ℕ) → k ≤ length part → k + length (drop k part ++ o.bytes) ≡ q
  counted o k h =
      let a = length-append (drop k part) o.bytes in
      let b = length-drop k part in
      omega (arith, o.many, P.fits)

  look-part : (p : Passed) → passed start part ≡ p → Seen part p → {r : Passed} → Over p (q - length part) r → Shown part q (whole_part p (length part)) r
  unfolding whole_part Seen AtEnd
  look-part (Whole k) e s o =
      let l = long in
      let t = take-length part in
      record {
        rest = drop (length part) part ++ o.bytes;
        fits = omega arith;
        all = counted o (length part) (omega arith);
        enough = inr (subst⁻¹ (λ (u : List ℕ). (768 < length u) × AtEnd (passed start u)) t (omega arith, subst⁻¹ AtEnd e tt));
        pass = behind (Whole k) e o (length part) (omega arith);
      }
  look-part (Begun k m n) e s o =
      let l = long in
      let t = length-take-le k part (omega arith) in
      record {
        rest = drop k part ++ o.bytes;
        fits = omega arith;
        all = counted o k (omega arith);
        enough = inr (omega arith, subst⁻¹ AtEnd s.3 tt);
        pass = behind (Begun k m n) e o k (omega arith);
      }
  look-part (Lost k) e s o =
      let l = long in
      let t = take-length part in
      record {
        rest = drop (length part) part ++ o.bytes;
        fits = omega arith;
        all = counted o (length part) (omega arith);
        enough = inr (subst⁻¹ (λ (u : List ℕ). (768 < length u) × AtEnd (passed start u)) t (omega arith, subst⁻¹ AtEnd e tt));
        pass = behind (Lost k) e o (length part) (omega arith);
      }

  pub look-some : {p r : Passed} {n : ℕ} → p ≡ passed start part → Over p (q - length part) r → n ≡ whole_part p (length part) → Shown part q n r
  look-some {p} {r} e o w = subst⁻¹ (λ (k : ℕ). Shown part q k r) w (look-part p (sym e) (subst⁻¹ (Seen part) e (seen part)) o)

-- what is shown of a part is shown of the slice
shown-in : (kept : List ℕ) (q m : ℕ) (x : Option Question) → m ≤ length kept → QuestionIs (take m kept) q x → QuestionIs kept q x
shown-in kept q m None f s = tt
shown-in kept q m (Some k) f s =
    let n = k.shown in
    let p = k.pass in
    let t = length-take-le m kept f in
    let g = s.fits in
    let y = take-take n m kept (omega arith) in
    record {
      rest = s.rest;
      fits = omega arith;
      all = s.all;
      enough = subst (λ (u : List ℕ). QuestionKept u s.rest) y s.enough;
      pass = subst (λ (u : List ℕ). passed start (u ++ s.rest) ≡ p) y s.pass;
    }

-- bytes read into the first m of a slice, which holds these afterwards
module _ (old part : List ℕ) (m : ℕ) (k : length part ≡ length (take m old)) (q : ℕ) (l : m ≡ min q (length old)) where
  as_long : length (part ++ drop m old) ≡ length old
  as_long = length_front old part m k

  pub part-long : m ≡ length (take m (part ++ drop m old))
  part-long = let a = as_long in sym (length-take-le m (part ++ drop m old) (omega arith))

  pub part_of : (771 ≤ length old) × (q < 4294967296) → PartOf (take m (part ++ drop m old)) q
  part_of h = let t = part-long in record { fits = omega arith; short = h.1; enough = λ d. omega arith }

  pub part-shown : (x : Option Question) → QuestionIs (take m (part ++ drop m old)) q x → QuestionIs (part ++ drop m old) q x
  part-shown x s = let a = as_long in shown-in (part ++ drop m old) q m x (omega arith) s

-- what is kept of a book of b bytes, and others for the rest
book-rest : (kept : List ℕ) (b m : ℕ) → 32769 ≤ length kept → m ≡ min b (length kept) → BookKept (take m kept) (replicate (b - m) 0)
book-rest kept b m h l = go (ltb m b) refl
  where
    go : (t : Bool) → ltb m b ≡ t → BookKept (take m kept) (replicate (b - m) 0)
    go true t = (let g = ltb-true m b t in let y = length-take-le m kept (omega arith) in inr (omega arith))
    go false t = (let g = ltb-false m b t in let z : b - m ≡ 0 = omega arith in inl (rw z))

-- a case that was read and run
pub case-taken : (c : Case) (book asked : List ℕ) (m n : ℕ) (p : Passed) (r : Outcome) {work work' code code' results results' : List ℕ} → 32769 ≤ length book
    → m ≡ min c.book (length book) → Shown asked c.question n p → CaseRan c.limits (take m book) (take n asked) p r work work' code code' results results'
    → CaseTaken c r work work' code code' results results'
case-taken c book asked m n p r h f s C =
    let b = c.book in
    let x = length-append (take m book) (replicate (b - m) 0) in
    let y = length-take-le m book (omega arith) in
    let z = length-replicate {A = ℕ} (b - m) 0 in
    let u = length-append (take n asked) s.rest in
    let v = length-take-le n asked s.fits in
    let w = s.all in
    record {
      book = take m book ++ replicate (b - m) 0;
      question = take n asked ++ s.rest;
      book_long = omega arith;
      question_long = omega arith;
      ran = C.ran (replicate (b - m) 0) s.rest (record { book = book-rest book b m h f; question = s.enough; pass = s.pass });
    }
