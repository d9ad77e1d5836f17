-- Words set to 0 one by one.
-- Here, in order: one word more; marks and places on the way; all of them.
-- Assumes nothing.
use Prim.Native.Nat.{ℕ, ◌+◌, ◌*◌, ◌≤◌, ◌<◌}
use native.Mathlib.Omega.{arith}
use native.Mathlib.Numerals.{add-one}
use mathlib.Core.Path.{◌≡◌, ap, sym, ◌∙◌}
use mathlib.Core.List.{List, [], ◌∷◌, ◌++◌}
use lib.ListN.{length, take, drop, set, replicate, replicate-append-replicate}
use lib.Seq.{take-suc-set, take-take}
use Rattle.mem.specs.Words.{words}
use Rattle.store.specs.Regions.{graph_of, marks_of, places_of, rest_of, Memory, Did, set_mark, set_place}
use Rattle.store.proofs.Writes.{length-marks, length-places}
use Rattle.rounds.specs.Around.{Fresh}

-- one word more
zeros-more : (l l' : List ℕ) (k : ℕ) → k < length l → take k l ≡ replicate k 0 → l' ≡ set l k 0 → take (k + 1) l' ≡ replicate (k + 1) 0
zeros-more l l' k h e f = rw (add-one k, f) (take-suc-set l k 0 h ∙ ap (λ (x : List ℕ). x ++ 0 ∷ []) e ∙ replicate-append-replicate k 1 0 ∙ rw add-one)

-- the first k marks and places are 0
pub record Clearing (L k : ℕ) (s s' : List ℕ) : Type 0 where
  pub marks : take k (marks_of L s') ≡ replicate k 0
  pub places : take k (places_of L s') ≡ replicate k 0
  pub graph : graph_of L s' ≡ graph_of L s
  pub rest : rest_of L s' ≡ rest_of L s
  pub long : length (words s') ≡ length (words s)

pub clearing-more : {L k : ℕ} {s s₁ s₂ s₃ : List ℕ} → k < L → 16 * L ≤ length (words s) → Clearing L k s s₁ → Did L s₁ s₂ (set_mark k 0) → Did L s₂ s₃ (set_place k 0) → Clearing L (k + 1) s s₃
clearing-more {L} {k} {s} {s₁} {s₂} {s₃} h r c d e =
    let w = c.long in
    let m : marks_of L s₃ ≡ set (marks_of L s₁) k 0 = ap (λ (x : Memory). x.marks) e.is ∙ ap (λ (x : Memory). x.marks) d.is in
    let p : places_of L s₂ ≡ places_of L s₁ = ap (λ (x : Memory). x.places) d.is in
    let q : places_of L s₃ ≡ set (places_of L s₁) k 0 = ap (λ (x : Memory). x.places) e.is ∙ ap (λ (l : List ℕ). set l k 0) p in
    record {
      marks = zeros-more (marks_of L s₁) (marks_of L s₃) k (rw (length-marks L s₁ (omega arith)) h) c.marks m;
      places = zeros-more (places_of L s₁) (places_of L s₃) k (rw (length-places L s₁ (omega arith)) h) c.places q;
      graph = ap (λ (x : Memory). x.graph) e.is ∙ ap (λ (x : Memory). x.graph) d.is ∙ c.graph;
      rest = ap (λ (x : Memory). x.rest) e.is ∙ ap (λ (x : Memory). x.rest) d.is ∙ c.rest;
      long = e.long ∙ d.long ∙ c.long;
    }

-- all of them
pub clearing-all : {L k : ℕ} {s s' : List ℕ} → k ≡ L → Clearing L k s s' → Fresh L s s'
unfolding marks_of places_of
clearing-all {L} {k} {s} {s'} e c = record {
  clear = (let m : take L (marks_of L s') ≡ replicate L 0 = rw e at c.marks in sym (take-take L L (drop (10 * L) (words s')) (omega arith)) ∙ m);
  clean = (let m : take L (places_of L s') ≡ replicate L 0 = rw e at c.places in sym (take-take L L (drop (13 * L) (words s')) (omega arith)) ∙ m);
  graph = c.graph;
  rest = c.rest;
  long = c.long;
}
