-- Alternatives that join the pool, one by one.
-- Here, in order: a scratch row as an alternative; on the way; all of them.
-- Assumes nothing.
use Prim.Native.Nat.{ℕ, suc, ◌+◌, ◌*◌}
use native.Mathlib.Omega.{arith}
use native.Mathlib.Numerals.{add-one}
use native.Mathlib.Nat.{add-zero}
use mathlib.Core.Path.{◌≡◌, ap, sym, subst, ◌∙◌}
use mathlib.Core.List.{List, [], ◌∷◌, ◌++◌, append-nil, append_assoc}
use Rattle.engine.specs.Machine as m
use Rattle.pool.specs.declared.Held.{Held}
use Rattle.store.specs.Roots.{roots_of}
use Rattle.pool.specs.Ring.{chain, stack_of, roots_at, held_in, pool_of, scratch_at, RestOnly, RootsGot, Pushed}
use Rattle.pool.proofs.Laws.{only_none, both-only, roots-behind}
use Rattle.alternatives.specs.Copies.{alt_in, alts_in}
use Rattle.rounds.specs.Around.{Joined}

-- a scratch row with an empty stack
row_is : {L base n : ℕ} {s s' : List ℕ} (i : ℕ) (h : Held) → h.top ≡ 0 → RestOnly L 0 base s s' → RootsGot L (scratch_at base i) n s' h.roots → held_in L s' h ≡ alt_in L base n s i
unfolding held_in alt_in stack_of chain
row_is {L} {base} {n} {s} {s'} i h e o g =
    let f : roots_of h.roots ≡ roots_at L s n (scratch_at base i) = g.is ∙ roots-behind o n (scratch_at base i) (omega arith) in
    rw (f, e)

pub joined-none : (L places n head waiting : ℕ) (s : List ℕ) → Joined L places n head waiting 0 s s
unfolding alts_in
joined-none L places n head waiting s = record { is = rw (add-zero waiting) (sym (append-nil (pool_of L places n head waiting s))); only = only_none L 0 (20 * places) s }

-- one more
pub joined-more : {L places n head waiting i : ℕ} {s s₁ s₂ : List ℕ} (h : Held) → h.top ≡ 0 → Joined L places n head waiting i s s₁ → RootsGot L (scratch_at (20 * places) i) n s₁ h.roots → Pushed L places n head (waiting + i) h s₁ s₂ → Joined L places n head waiting (i + 1) s s₂
unfolding alts_in
joined-more {L} {places} {n} {head} {waiting} {i} {s} {s₁} {s₂} h e j g p =
    let a : held_in L s₁ h ≡ alt_in L (20 * places) n s i = row_is i h e j.only g in
    let q : waiting + (i + 1) ≡ suc (waiting + i) = omega arith in
    record {
      is = rw (q, add-one i) (p.is ∙ ap (λ (x : m.Held). pool_of L places n head (waiting + i) s₁ ++ x ∷ []) a
          ∙ ap (λ (l : List m.Held). l ++ alt_in L (20 * places) n s i ∷ []) j.is
          ∙ append_assoc (pool_of L places n head waiting s) (alts_in L (20 * places) n i s) (alt_in L (20 * places) n s i ∷ []));
      only = both-only j.only p.only;
    }

-- all of them
pub joined-all : {L places n head waiting i count : ℕ} {s s' : List ℕ} → i ≡ count → Joined L places n head waiting i s s' → Joined L places n head waiting count s s'
joined-all {L} {places} {n} {head} {waiting} {i} {count} {s} {s'} e j = subst (λ (k : ℕ). Joined L places n head waiting k s s') e j
