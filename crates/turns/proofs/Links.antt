-- Stacks as chains of links: an entry put on top, chains that stay, the same stack in the pool's and in the machine's words; tables that stay.
-- Here, in order: chains; an entry on top; the tables.
-- Assumes nothing.
use Prim.Native.Nat.{ℕ, zero, suc, ◌+◌, ◌*◌, ◌≤◌, ◌<◌}
use native.Mathlib.Omega.{arith}
use native.Mathlib.Nat.{le_of_suc-le-suc}
use mathlib.Core.Path.{◌≡◌, refl, sym, ap, ◌∙◌, subst}
use mathlib.Core.List.{List, [], ◌∷◌, Memᴰ}
use mathlib.Core.Option.{Option, none, some}
use lib.ListN.{length, get_or, get_elem?, take, set}
use lib.Seq.{get_or-set_same, get_or-set_other, get_or-take}
use Rattle.mem.specs.Words.{words}
use Rattle.engine.specs.Compile.{Program}
use Rattle.engine.specs.Machine.{homes}
use Rattle.store.specs.Regions.{Memory, links_of, Did, set_link}
use Rattle.store.proofs.Writes.{length-links}
use Rattle.machine.specs.Tables.{Has, Home}
use Rattle.machine.specs.View as v
use Rattle.pool.specs.Ring as p

chain-off : (n : ℕ) (l : List ℕ) (t h x : ℕ) → ¬ (Memᴰ h (v.chain n l t)) → v.chain n (set l h x) t ≡ v.chain n l t
unfolding v.chain
chain-off zero l t h x a = refl
chain-off (suc n) l zero h x a = refl
chain-off (suc n) l (suc k) h x a =
    let e : get_or (set l h x) k 0 ≡ get_or l k 0 = get_or-set_other l h k x 0 (λ q. a (mathlib.Core.List.Memᴰ.head (sym q))) in
    ap (λ (j : ℕ). k ∷ v.chain n (set l h x) j) e ∙ ap (λ (r : List ℕ). k ∷ r) (chain-off n l (get_or l k 0) h x (λ w. a (mathlib.Core.List.Memᴰ.tail w)))

chain-short : (n : ℕ) (l : List ℕ) (t : ℕ) → length (v.chain (suc n) l t) ≤ n → v.chain n l t ≡ v.chain (suc n) l t
unfolding v.chain
chain-short zero l zero a = refl
chain-short zero l (suc k) a = absurd (omega arith)
chain-short (suc n) l zero a = refl
chain-short (suc n) l (suc k) a = ap (λ (r : List ℕ). k ∷ r) (chain-short n l (get_or l k 0) (le_of_suc-le-suc a))

chain_same : (n : ℕ) (l : List ℕ) (t : ℕ) → p.chain n l t ≡ v.chain n l t
unfolding v.chain p.chain
chain_same zero l t = refl
chain_same (suc n) l zero = refl
chain_same (suc n) l (suc k) = ap (λ (r : List ℕ). k ∷ r) (chain_same n l (get_or l k 0))

-- the same stack in the pool's words
pub stack_same : (L : ℕ) (s : List ℕ) (t : ℕ) → p.stack_of L s t ≡ v.stack_of L s t
unfolding v.stack_of p.stack_of
stack_same L s t = chain_same (suc L) (links_of L s) t

-- by its links
pub stack-links : (L : ℕ) (s s' : List ℕ) (t : ℕ) → links_of L s' ≡ links_of L s → v.stack_of L s' t ≡ v.stack_of L s t
unfolding v.stack_of
stack-links L s s' t e = ap (λ (l : List ℕ). v.chain (suc L) l t) e

-- no entry, and one
pub stack-none : (L : ℕ) (s : List ℕ) → v.stack_of L s 0 ≡ []
unfolding v.stack_of v.chain
stack-none L s = refl

pub stack_some : (L : ℕ) (s : List ℕ) (t : ℕ) → 0 < t → (x : ℕ) × (N : List ℕ) × (v.stack_of L s t ≡ x ∷ N)
unfolding v.stack_of v.chain
stack_some L s zero h = absurd (omega arith)
stack_some L s (suc k) h = (k, v.chain L (links_of L s) (get_or (links_of L s) k 0), refl)

-- an entry on top
pub stack_push : (L : ℕ) (s s' : List ℕ) (h t : ℕ) → 16 * L ≤ length (words s) → h < L → Did L s s' (set_link h t) → ¬ (Memᴰ h (v.stack_of L s t)) → length (v.stack_of L s t) ≤ L → v.stack_of L s' (suc h) ≡ h ∷ v.stack_of L s t
unfolding v.stack_of v.chain
stack_push L s s' h t room lt d off few =
    let l : List ℕ = links_of L s in
    let e : links_of L s' ≡ set l h t = ap (λ (m : Memory). m.links) d.is in
    let short : v.chain L l t ≡ v.chain (suc L) l t = chain-short L l t few in
    let off' : ¬ (Memᴰ h (v.chain L l t)) = λ w. off (subst (Memᴰ h) short w) in
    let top : get_or (set l h t) h 0 ≡ t = get_or-set_same l h t 0 (let n = length-links L s room in omega arith) in
    ap (λ (r : List ℕ). v.chain (suc L) r (suc h)) e ∙ ap (λ (j : ℕ). h ∷ v.chain L (set l h t) j) top ∙ ap (λ (r : List ℕ). h ∷ r) (chain-off L l t h t off' ∙ short)

-- tables that stay
module _ (q : Program) (base : ℕ) (r r' : List ℕ) (e : take (base + 2440) r' ≡ take (base + 2440) r) where
  word : (j : ℕ) → j < base + 2440 → get_or r' j 0 ≡ get_or r j 0
  word j h = sym (get_or-take {A = ℕ} (base + 2440) r' j 0 h) ∙ ap (λ (l : List ℕ). get_or l j 0) e ∙ get_or-take {A = ℕ} (base + 2440) r j 0 h

  home-kept : (o : Option (ℕ × ℕ)) (t t' j j' : ℕ) → t' ≡ t → j' ≡ j → Home o t j → Home o t' j'
  home-kept none t t' j j' a b h = a ∙ h
  home-kept (some x) t t' j j' a b h = (a ∙ h.0, b ∙ h.1)

  pub has_kept : Has q base r → Has q base r'
  has_kept H = record {
    start = λ f h. ap (λ (x : ℕ). x + 65536 * get_or r' (base + 2 * f + 1) 0) (word (base + 2 * f) (omega arith)) ∙ ap (λ (x : ℕ). get_or r (base + 2 * f) 0 + 65536 * x) (word (base + 2 * f + 1) (omega arith)) ∙ H.start f h;
    funs = λ f h. word (base + 512 + f) (omega arith) ∙ H.funs f h;
    cons = λ c h. word (base + 768 + c) (omega arith) ∙ H.cons c h;
    home = λ c h. home-kept (get_elem? (homes 0 q.types) c) (get_or r (base + 1024 + c) 0) (get_or r' (base + 1024 + c) 0) (get_or r (base + 1280 + c) 0) (get_or r' (base + 1280 + c) 0) (word (base + 1024 + c) (omega arith)) (word (base + 1280 + c) (omega arith)) (H.home c h);
    small = H.small;
  }
