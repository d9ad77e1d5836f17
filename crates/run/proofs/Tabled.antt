-- The tables after a turn and after the pool's words are written.
-- Assumes nothing.
use Prim.Native.Nat.{ℕ, ◌+◌, ◌*◌, ◌≤◌, ◌<◌}
use native.Mathlib.Omega.{arith}
use mathlib.Core.Path.{◌≡◌, ap, sym, ◌∙◌, subst}
use mathlib.Core.List.{List}
use lib.ListN.{get_or, get_elem?, take}
use lib.Seq.{get_or-take}
use Rattle.engine.specs.Compile.{Program}
use Rattle.engine.specs.Machine as m
use Rattle.machine.specs.Tables.{Home, Has}
use Rattle.store.specs.Regions.{rest_of}
use Rattle.pool.specs.Ring.{RestOnly}
use Rattle.pool.proofs.Laws.{word-behind}

-- they depend on their words
pub has_same : (p : Program) (base : ℕ) (r r' : List ℕ) → ((j : ℕ) → base ≤ j → j < base + 1536 → get_or r' j 0 ≡ get_or r j 0) → Has p base r → Has p base r'
has_same p base r r' w h = record {
  start = λ f lt. rw (w (base + 2 * f) (omega arith) (omega arith), w (base + 2 * f + 1) (omega arith) (omega arith)) (h.start f lt);
  funs = λ f lt. w (base + 512 + f) (omega arith) (omega arith) ∙ h.funs f lt;
  cons = λ c lt. w (base + 768 + c) (omega arith) (omega arith) ∙ h.cons c lt;
  home = λ c lt. subst (λ (t : ℕ). Home (get_elem? (m.homes 0 p.types) c) t (get_or r' (base + 1280 + c) 0)) (sym (w (base + 1024 + c) (omega arith) (omega arith)))
      (subst (λ (j : ℕ). Home (get_elem? (m.homes 0 p.types) c) (get_or r (base + 1024 + c) 0) j) (sym (w (base + 1280 + c) (omega arith) (omega arith))) (h.home c lt));
  small = h.small;
}

-- the words of pool and tables stay
pub has-taken : (p : Program) (base : ℕ) (r r' : List ℕ) → take (base + 2440) r' ≡ take (base + 2440) r → Has p base r → Has p base r'
has-taken p base r r' e = has_same p base r r' (λ j a b. sym (get_or-take (base + 2440) r' j 0 (omega arith)) ∙ ap (λ (l : List ℕ). get_or l j 0) e ∙ get_or-take (base + 2440) r j 0 (omega arith))

-- only the pool's words were written
pub has-only : (p : Program) (L base : ℕ) (s s' : List ℕ) → RestOnly L 0 base s s' → Has p base (rest_of L s) → Has p base (rest_of L s')
has-only p L base s s' o = has_same p base (rest_of L s) (rest_of L s') (λ j a b. word-behind o j a)
