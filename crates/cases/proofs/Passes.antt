-- Laws of the first pass by parts: two parts one behind the other are passed as the whole, and the pass over all bytes finds what book's first pass finds.
-- Assumes nothing.
use Prim.Native.Nat.{ℕ, zero, suc, ◌+◌, ◌-◌, ◌≤◌, ◌<◌}
use mathlib.Core.Path.{◌≡◌, refl, ap, sym, ◌∙◌}
use mathlib.Core.Bool.{Bool, true, false}
use mathlib.Core.List.{List, [], ◌∷◌, ◌++◌}
use mathlib.Core.Option.{Option, none, some}
use lib.ListN.{length, get_or, take, drop, drop_of_length-le}
use lib.Seq.{drop-cons, length-take-le}
use Rattle.std.proofs.lemmas.List.{take_more}
use lib.Dec.{ltb, leb}
use native.Mathlib.Omega.{arith}
use native.Mathlib.Numerals.{add-one}
use borrow.Author.Tests.{ltb-true, ltb-false, leb-true, leb-false}
use Rattle.book.specs.declared.Sort.TheVariants.{Cut}
use Rattle.std.specs.Prelude.{Result}
use Rattle.book.specs.declared.Fault.{Fault}
use Rattle.book.specs.Record.{bad, body_of, scan, any_fits}
use Rattle.book.specs.Steps.{step}
use Rattle.book.proofs.Records.{rec-unknown, rec-cut, rec-of}
use Rattle.book.proofs.Scans.{AnyIs, scan-start, scan-end, scan-bad, scan-any}
use Rattle.cases.specs.declared.Passed.{Passed}
use Rattle.cases.specs.declared.Passed.TheVariants.{Whole, Begun, Lost}
use Rattle.cases.specs.Parts.{begun, due, byte, passed, start, found, reach}

-- two parts, one behind the other
pub parts : (p : Passed) (s t : List ℕ) → passed p (s ++ t) ≡ passed (passed p s) t
unfolding passed
parts p [] t = refl
parts p (x ∷ s) t = parts (byte p x) s t

-- no bytes, and one more byte of a list
pub pass-none : (p : Passed) → passed p [] ≡ p
unfolding passed
pass-none p = refl

pub pass-one : (p : Passed) (s : List ℕ) (k : ℕ) → k < length s → passed p (drop k s) ≡ passed (byte p (get_or s k 0)) (drop (k + 1) s)
unfolding passed
pass-one p s k h = rw (add-one, drop-cons s k 0)

pub pass-end : (p : Passed) (s : List ℕ) (k : ℕ) → length s ≤ k → passed p (drop k s) ≡ p
unfolding passed
pass-end p s k h = rw (drop_of_length-le s h)

-- a body's byte that is not the last
pub due-more : (k m e : ℕ) → (m ≡ 0 → ⊥) → Begun k (m - 1) (e + 1) ≡ due k m e
unfolding due
due-more k zero e n = absurd (n refl)
due-more k (suc m) e n = let z : suc m - 1 ≡ m = omega arith in rw z

-- a byte brings the pass at most one place on
reach-begun : (k : ℕ) (o : Option ℕ) → reach (begun k o) ≤ k + 1
unfolding reach begun
reach-begun k none = omega arith
reach-begun k (some zero) = omega arith
reach-begun k (some (suc m)) = omega arith

reach-due : (k m e : ℕ) → reach (due k m e) ≤ e + 1
unfolding reach due
reach-due k zero e = omega arith
reach-due k (suc m) e = omega arith

pub reach-byte : (p : Passed) (x : ℕ) → reach (byte p x) ≤ reach p + 1
unfolding reach byte
reach-byte (Whole k) x = reach-begun k (body_of x)
reach-byte (Begun k m e) x = reach-due k m e
reach-byte (Lost k) x = omega arith

pub reach-part : (p : Passed) (s : List ℕ) → reach (passed p s) ≤ reach p + length s
unfolding passed
reach-part p [] = omega arith
reach-part p (x ∷ s) = let h = reach-part (byte p x) s in let g = reach-byte p x in omega arith

-- one more byte of those that were passed, and how far they bring the pass
pub pass-more : (p : Passed) (s : List ℕ) (i : ℕ) {r r' : Passed} → i < length s → r ≡ passed p (take i s) → r' ≡ byte r (get_or s i 0) → r' ≡ passed p (take (i + 1) s)
unfolding passed
pass-more p s i h e q = q ∙ ap (λ (y : Passed). byte y (get_or s i 0)) e ∙ sym (ap (passed p) (take_more s i 0 h) ∙ parts p (take i s) (get_or s i 0 ∷ []))

pub reach-so-far : (p : Passed) (s : List ℕ) (i : ℕ) {r : Passed} → i < length s → r ≡ passed p (take i s) → reach r ≤ reach p + i
reach-so-far p s i h e = let g = reach-part p (take i s) in let l = length-take-le i s (omega arith) in rw e (omega arith)

-- an unknown kind is the end of it
pub pass-lost : (k : ℕ) (s : List ℕ) → passed (Lost k) s ≡ Lost k
unfolding passed byte
pass-lost k [] = refl
pass-lost k (x ∷ s) = pass-lost k s

module _ (s : List ℕ) where
  -- the rest of a body that is there
  pass-body : (k m e : ℕ) → e + m + 1 ≤ length s → passed (Begun k m e) (drop e s) ≡ passed (Whole (e + m + 1)) (drop (e + m + 1) s)
  unfolding byte due
  pass-body k zero e h = let z : e + 0 + 1 ≡ e + 1 = omega arith in pass-one (Begun k zero e) s e (omega arith) ∙ rw z
  pass-body k (suc m) e h =
      let z : e + 1 + m + 1 ≡ e + suc m + 1 = omega arith in
      pass-one (Begun k (suc m) e) s e (omega arith) ∙ pass-body k m (e + 1) (omega arith) ∙ rw z

  -- and of one that is cut
  cut-body : (k m e : ℕ) → e ≤ length s → length s < e + m + 1 → found (passed (Begun k m e) (drop e s)) ≡ bad Cut k
  unfolding found byte due
  cut-body k zero e l h = rw (pass-end (Begun k zero e) s e (omega arith))
  cut-body k (suc m) e l h = go (ltb e (length s)) refl (λ l h. cut-body k m (e + 1) l h)
    where
      go : (t : Bool) → ltb e (length s) ≡ t → (e + 1 ≤ length s → length s < e + 1 + m + 1 → found (passed (Begun k m (e + 1)) (drop (e + 1) s)) ≡ bad Cut k)
          → found (passed (Begun k (suc m) e) (drop e s)) ≡ bad Cut k
      go false t ih = rw (pass-end (Begun k (suc m) e) s e (ltb-false _ _ t))
      go true t ih = (let g = ltb-true _ _ t in rw (pass-one (Begun k (suc m) e) s e g) (ih (omega arith) (omega arith)))

  module _ (k : ℕ) (h : k < length s) where
    -- a record: of an unknown kind, whole, cut
    pub pass-unknown : body_of (get_or s k 0) ≡ none → passed (Whole k) (drop k s) ≡ Lost k
    unfolding byte begun
    pass-unknown q = pass-one (Whole k) s k h ∙ rw q (pass-lost k (drop (k + 1) s))

    pub pass-whole : (m : ℕ) → body_of (get_or s k 0) ≡ some m → k + 1 + m ≤ length s → passed (Whole k) (drop k s) ≡ passed (Whole (k + 1 + m)) (drop (k + 1 + m) s)
    unfolding byte begun
    pass-whole zero q l = let z : k + 1 + 0 ≡ k + 1 = omega arith in pass-one (Whole k) s k h ∙ rw (q, z)
    pass-whole (suc m) q l = let z : k + 1 + m + 1 ≡ k + 1 + suc m = omega arith in pass-one (Whole k) s k h ∙ rw q (pass-body k m (k + 1) (omega arith) ∙ rw z)

    pub pass-short : (m : ℕ) → body_of (get_or s k 0) ≡ some m → length s < k + 1 + m → found (passed (Whole k) (drop k s)) ≡ bad Cut k
    unfolding byte begun
    pass-short zero q l = absurd (omega arith)
    pass-short (suc m) q l = rw (pass-one (Whole k) s k h, q) (cut-body k m (k + 1) (omega arith) (omega arith))

  -- what is to be shown further on
  unfoldable Further : ℕ → Result ℕ Fault → Type 0
  Further n out = (e : ℕ) → e ≤ length s → AnyIs s e out → length s ≤ n + e → found (passed (Whole e) (drop e s)) ≡ out

  -- from a record's place on, the pass by bytes finds what the pass by records finds
  from : (n k : ℕ) (out : Result ℕ Fault) → length s ≤ n + k → k ≤ length s → AnyIs s k out → found (passed (Whole k) (drop k s)) ≡ out
  unfolding found Further
  from zero k out f l i = rw (pass-end (Whole k) s k (omega arith)) (scan-end s any_fits i.scans (omega arith))
  from (suc n) k out f l i = go (ltb k (length s)) refl (λ e l i f. from n e out f l i)
    where
      known : k < length s → (m : ℕ) → body_of (get_or s k 0) ≡ some m → (t : Bool) → leb (k + 1 + m) (length s) ≡ t → Further n out → found (passed (Whole k) (drop k s)) ≡ out
      known h m q true t ih =
          let g = leb-true (k + 1 + m) (length s) t in
          rw (pass-whole k h m q g) (ih (k + 1 + m) g (scan-any s i h (sym (rec-of s k m h q g)) refl) (omega arith))
      known h m q false t ih =
          let g = leb-false (k + 1 + m) (length s) t in
          pass-short k h m q g ∙ scan-bad s any_fits i.scans h (sym (rec-cut s k m h q g)) refl

      kinds : k < length s → (o : Option ℕ) → body_of (get_or s k 0) ≡ o → Further n out → found (passed (Whole k) (drop k s)) ≡ out
      kinds h none q ih = rw (pass-unknown k h q) (scan-bad s any_fits i.scans h (sym (rec-unknown s k h q)) refl)
      kinds h (some m) q ih = known h m q (leb (k + 1 + m) (length s)) refl ih

      go : (t : Bool) → ltb k (length s) ≡ t → Further n out → found (passed (Whole k) (drop k s)) ≡ out
      go false t ih = rw (pass-end (Whole k) s k (ltb-false _ _ t)) (scan-end s any_fits i.scans (ltb-false _ _ t))
      go true t ih = kinds (ltb-true _ _ t) (body_of (get_or s k 0)) refl ih

  -- the pass over all bytes is book's first pass
  pub first-pass : found (passed start s) ≡ step (scan s any_fits (length s) 0 0)
  first-pass = from (length s) 0 (step (scan s any_fits (length s) 0 0)) (omega arith) (omega arith) (record { count = 0; scans = scan-start s any_fits })
