-- A result's record: kind and turn, then the terms.
-- Here, in order: the length of a record; no room; the record written.
-- Assumes nothing.
use Prim.Native.Nat.{ℕ, ◌+◌, ◌-◌, ◌/◌, ◌≤◌, ◌<◌}
use native.Mathlib.Omega.{arith}
use native.Mathlib.Numerals.{add-one}
use native.Mathlib.Nat.{zero-add}
use mathlib.Core.Path.{◌≡◌, refl, ap, sym, ◌∙◌, subst}
use mathlib.Core.Bool.{Bool, true, false}
use mathlib.Core.List.{List, ◌∷◌, ◌++◌}
use lib.ListN.{length, take, drop, set, length-set}
use lib.Dec.{leb}
use lib.Seq.{sets, sets-eq, length-sets}
use borrow.Author.Tests.{leb-true, leb-false}
use borrow.Rule.Slice.PartMut.{put_mid}
use Rattle.std.specs.Prelude.{Some, None}
use Rattle.std.specs.Int.{to_le_bytes, w32}
use Rattle.engine.specs.Code.{four}
use Rattle.engine.specs.Run.{result_record}
use Rattle.heap.specs.Graph.{Graph, write_each}
use Rattle.store.specs.Regions.{graph_of}
use Rattle.writer.specs.Walk.{Reads, Kept, Framed, pick}
use Rattle.writer.specs.Owes.{fits}
use Rattle.writer.specs.Written.{Clean, Written, over}
use Rattle.writer.proofs.Turning.{kept_then}
use Rattle.writer.proofs.Telling.{over-then, over-part}
use Rattle.writer.proofs.Counting.{fits-over, fits_in}
use Rattle.writer.proofs.EachTerm.{length-lent, over-lent}
use Rattle.rounds.specs.Around.{headed, ResultPut}

-- five bytes before the terms
pub record-length : (turn : ℕ) (terms : List ℕ) → length (result_record turn terms) ≡ 5 + length terms
unfolding result_record four
record-length turn terms = omega arith

-- the turn's bytes, and the kind before them
le-four : (n : ℕ) → to_le_bytes w32 n ≡ four n
unfolding four
le-four n =
    let a : n / 65536 ≡ n / 256 / 256 = omega arith in
    let b : n / 16777216 ≡ n / 256 / 256 / 256 = omega arith in
    rw (a, b)

pub headed-is : (l ys : List ℕ) (k turn : ℕ) → k + 5 ≤ length l → ys ≡ to_le_bytes w32 turn → put_mid (k + 1) (k + 5 - (k + 1)) (set l k 0x20) ys ≡ headed l k turn
unfolding headed four over
headed-is l ys k turn h q = over-part (set l k 0x20) ys (four turn) (k + 1) (k + 5) (q ∙ le-four turn) (omega arith) (simp length-set h) ∙ rw add-one

-- the size tells whether there is room
pub over-is : (room n : ℕ) → None ≡ fits room n → room < n
unfolding fits pick
over-is room n e = go (leb n room) refl
  where
    go : (b : Bool) → leb n room ≡ b → room < n
    go true t = let z : None ≡ Some n = e ∙ rw (t, fits) in cc
    go false t = leb-false n room t

pub fits-is : (room n k : ℕ) → Some k ≡ fits room n → (n ≤ room) × (k ≡ n)
unfolding fits pick
fits-is room n k e = go (leb n room) refl
  where
    go : (b : Bool) → leb n room ≡ b → (n ≤ room) × (k ≡ n)
    go true t = let z : Some k ≡ Some n = e ∙ rw (t, fits) in (leb-true n room t, cc)
    go false t = let z : Some k ≡ None = e ∙ rw (t, fits) in cc

-- no room: nothing is written
pub result-none : {L room at turn : ℕ} {terms s s' out : List ℕ} → room < at + 5 + length terms → Kept L s s' → Clean L s' → ResultPut L room at turn terms s s' out out None
result-none {L} {room} {at} {turn} {terms} {s} {s'} {out} h k c = record {
  end = (let e = record-length turn terms in fits-over room (at + length (result_record turn terms)) (omega arith));
  written = tt;
  none = refl;
  kept = k;
  clean = c;
}

-- after the size is known, before the terms are written
pub clean-framed : {L : ℕ} {s s' : List ℕ} → Framed L s s' → Clean L s → Clean L s'
clean-framed f c = f.places ∙ c

pub reads-framed : {L : ℕ} {s s' ks : List ℕ} → Framed L s s' → Reads (graph_of L s) ks → Reads (graph_of L s') ks
reads-framed {L} {s} {s'} {ks} f r = subst (λ (g : Graph). Reads g ks) (sym f.kept.graph) r

pub terms-framed : {L : ℕ} {s s' : List ℕ} (ks : List ℕ) → Framed L s s' → write_each L (graph_of L s') ks ≡ write_each L (graph_of L s) ks
terms-framed {L} ks f = ap (λ (g : Graph). write_each L g ks) f.kept.graph

length-headed : (l : List ℕ) (k turn : ℕ) → length (headed l k turn) ≡ length l
unfolding headed
length-headed l k turn = length-sets l k (0x20 ∷ four turn)

pub lent-room : (out out₁ : List ℕ) (at turn n : ℕ) → out₁ ≡ headed out at turn → at + 5 + n ≤ length out → n ≤ length (take (length out₁ - (at + 5)) (drop (at + 5) out₁))
lent-room out out₁ at turn n e h =
    let a : length out₁ ≡ length out = ap length e ∙ length-headed out at turn in
    rw (length-lent (at + 5) out₁) (omega arith)

five : (turn : ℕ) → length (0x20 ∷ four turn) ≡ 5
unfolding four
five turn = refl

headed-then : (out : List ℕ) (at turn : ℕ) (terms : List ℕ) → over (headed out at turn) (at + 5) terms ≡ over out at (result_record turn terms)
unfolding result_record headed over
headed-then out at turn terms = ap (λ (k : ℕ). sets (sets out at (0x20 ∷ four turn)) (at + k) terms) (sym (five turn)) ∙ sym (over-then (0x20 ∷ four turn) terms out at)

-- what the size says: the terms fit
module _ (L room at left : ℕ) (s s₁ ks : List ℕ) (k : ℕ) (l : left ≡ room - at - 5) (h : 5 ≤ room - at) (e : Some k ≡ fits left (length (write_each L (graph_of L s) ks))) (F : Framed L s s₁) where
  pub terms-fit : at + 5 + length (write_each L (graph_of L s) ks) ≤ room
  terms-fit = let a = (fits-is left (length (write_each L (graph_of L s) ks)) k e).0 in omega arith

  pub terms-lent : (out out₁ : List ℕ) (turn : ℕ) → room ≤ length out → out₁ ≡ headed out at turn → length (write_each L (graph_of L s₁) ks) ≤ length (take (length out₁ - (at + 5)) (drop (at + 5) out₁))
  terms-lent out out₁ turn r d = let a = terms-fit in let b = ap length (terms-framed ks F) in lent-room out out₁ at turn (length (write_each L (graph_of L s₁) ks)) d (omega arith)

-- the record is written
pub result-put : {L room at turn n : ℕ} {terms terms₁ s s₁ s₂ out out₁ ys : List ℕ} → at + 5 + length terms ≤ room → room ≤ length out → out₁ ≡ headed out at turn → Framed L s s₁ → terms₁ ≡ terms
    → Written L s₁ s₂ (take (length out₁ - (at + 5)) (drop (at + 5) out₁)) ys terms₁ n → ResultPut L room at turn terms s s₂ out (take (at + 5) out₁ ++ (ys ++ drop (length out₁ - (at + 5)) (drop (at + 5) out₁))) (Some (at + 5 + n))
unfolding over
result-put {L} {room} {at} {turn} {n} {terms} {terms₁} {s} {s₁} {s₂} {out} {out₁} {ys} h r e f t w =
    let k = record-length turn terms in
    let a : length out₁ ≡ length out = ap length e ∙ length-headed out at turn in
    let lent : List ℕ = take (length out₁ - (at + 5)) (drop (at + 5) out₁) in
    let m : length lent ≡ length out₁ - (at + 5) = length-lent (at + 5) out₁ in
    let b : ys ≡ terms ++ drop (length terms) lent = w.bytes ∙ rw t in
    let y : ys ≡ over lent 0 terms = b ∙ sym (sets-eq terms lent 0 (omega arith) ∙ rw zero-add) in
    let z = over-lent out₁ ys terms (at + 5) (omega arith) y in
    let v : over out₁ (at + 5) terms ≡ over out at (result_record turn terms) = ap (λ (l : List ℕ). over l (at + 5) terms) e ∙ headed-then out at turn terms in
    record {
      end = fits_in room (at + 5 + n) (at + length (result_record turn terms)) (let c = w.count in let d = ap length t in omega arith) (let c = w.count in let d = ap length t in omega arith);
      written = z ∙ v ∙ sets-eq (result_record turn terms) out at (omega arith);
      none = tt;
      kept = kept_then f.kept w.kept;
      clean = w.clean;
    }
