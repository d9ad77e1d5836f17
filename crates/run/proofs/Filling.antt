-- Words filled one by one.
-- Assumes nothing.
use Prim.Native.Nat.{ℕ, ◌+◌, ◌*◌, ◌≤◌, ◌<◌}
use native.Mathlib.Omega.{arith}
use mathlib.Core.Path.{◌≡◌, refl, ap, subst, ◌∙◌}
use mathlib.Core.Logic.{◌⊎◌, inl, inr}
use mathlib.Core.Bool.{Bool, true, false}
use mathlib.Core.List.{List}
use lib.ListN.{length, get_or, set}
use lib.Dec.{ltb}
use lib.Seq.{get_or-set_same, get_or-set_other}
use borrow.Author.Tests.{ltb-true, ltb-false}
use Rattle.mem.specs.Words.{words}
use Rattle.store.specs.Regions.{rest_of, Memory, Did, set_rest}
use Rattle.store.proofs.Writes.{length_rest}
use Rattle.run.specs.Filled.{WordsFilled}

pub filled_none : (L a v : ℕ) (s : List ℕ) → WordsFilled L a a v s s
filled_none L a v s = record { are = λ j p q. absurd (omega arith); same = λ j p. refl; long = refl }

pub filled_more : {L a k v : ℕ} {s s₁ s₂ : List ℕ} → a ≤ k → 16 * L + k < length (words s₁) → WordsFilled L a k v s s₁ → Did L s₁ s₂ (set_rest k v) → WordsFilled L a (k + 1) v s s₂
filled_more {L} {a} {k} {v} {s} {s₁} {s₂} h room F d = record { are = are; same = same; long = d.long ∙ F.long }
  where
    rest : rest_of L s₂ ≡ set (rest_of L s₁) k v
    rest = ap (λ (m : Memory). m.rest) d.is

    at : get_or (rest_of L s₂) k 0 ≡ v
    at = ap (λ (l : List ℕ). get_or l k 0) rest ∙ get_or-set_same (rest_of L s₁) k v 0 (rw (length_rest L s₁) (omega arith))

    off : (j : ℕ) → (j ≡ k → ⊥) → get_or (rest_of L s₂) j 0 ≡ get_or (rest_of L s₁) j 0
    off j n = ap (λ (l : List ℕ). get_or l j 0) rest ∙ get_or-set_other (rest_of L s₁) k j v 0 n

    are : (j : ℕ) → a ≤ j → j < k + 1 → get_or (rest_of L s₂) j 0 ≡ v
    are j p q = go (ltb j k) refl
      where
        go : (b : Bool) → ltb j k ≡ b → get_or (rest_of L s₂) j 0 ≡ v
        go true t = let u = ltb-true j k t in off j (λ e. omega arith) ∙ F.are j p u
        go false t = let u = ltb-false j k t in let e : j ≡ k = omega arith in ap (λ (i : ℕ). get_or (rest_of L s₂) i 0) e ∙ at

    same : (j : ℕ) → (j < a) ⊎ (k + 1 ≤ j) → get_or (rest_of L s₂) j 0 ≡ get_or (rest_of L s) j 0
    same j (inl p) = off j (λ e. omega arith) ∙ F.same j (inl p)
    same j (inr p) = off j (λ e. omega arith) ∙ F.same j (inr (omega arith))

pub filled-all : {L a k b v : ℕ} {s s' : List ℕ} → k ≡ b → WordsFilled L a k v s s' → WordsFilled L a b v s s'
filled-all {L} {a} {k} {b} {v} {s} {s'} e F = subst (λ (x : ℕ). WordsFilled L a x v s s') e F
