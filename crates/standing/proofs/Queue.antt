-- The pool after a turn: the others as they were, the front or its alternatives at the back.
-- Assumes nothing.
use Prim.Native.Nat.{ℕ}
use mathlib.Core.Path.{◌≡◌, refl, sym, subst}
use mathlib.Core.Logic.{◌⊎◌, inl, inr}
use mathlib.Core.List.Memᴰ
use mathlib.Core.List.{List, [], ◌∷◌, ◌++◌, append_assoc, Memᴰ}
use Rattle.standing.specs.Stands.{Pool, empty, join, After, after-goes, after-splits, after-value, after-ended, after-lost, after-full, World, Ours, Queue}
use Rattle.engine.specs.Turn.{Turned, goes, splits}
use Rattle.engine.specs.Machine.{Kept, Held}
use Rattle.heap.specs.Graph.{node}
use Rattle.heap.specs.Store.{Store}
use Rattle.standing.specs.Shared.{Took, went, split, left_by}
use Rattle.standing.proofs.Stands.{pool-frame, others}

pub pool-append : {μ : Store} {ks ks' : List Kept} {cs cs' : List Held} {own own' : List ℕ} → Pool μ ks cs own → Pool μ ks' cs' own' → ((x : ℕ) → Memᴰ x own → ¬ (Memᴰ x own')) → Pool μ (ks ++ ks') (cs ++ cs') (own ++ own')
pool-append empty q d = q
pool-append {μ} {ks' = ks'} {cs' = cs'} {own' = own'} (join {k = k} {ks = ks} {c = c} {cs = cs} {own = own} S p a) q d =
    subst (λ (l : List ℕ). Pool μ (k ∷ ks ++ ks') (c ∷ cs ++ cs') l) (sym (append_assoc S.world.owned own own'))
    (join S (pool-append p q (λ x m. d x (Memᴰ.append_right S.world.owned m))) (λ x m n. go x m (Memᴰ.append_cases own n)))
  where
    go : (x : ℕ) → Ours S.world x → Memᴰ x own ⊎ Memᴰ x own' → ⊥
    go x m (inl n) = a x m n
    go x m (inr n) = d x (Memᴰ.append_left own m) n

-- no number of the pool is free
pub pool-idle : {μ : Store} {ks : List Kept} {cs : List Held} {own : List ℕ} → Pool μ ks cs own → (x : ℕ) → Memᴰ x own → ¬ (Memᴰ x μ.free)
pool-idle empty x m f = Memᴰ.not-nil m
pool-idle {μ} (join {own = own} S p a) x m f = go (λ u f. pool-idle p x u f) (Memᴰ.append_cases S.world.owned m)
  where
    go : (Memᴰ x own → ¬ (Memᴰ x μ.free)) → Ours S.world x ⊎ Memᴰ x own → ⊥
    go ih (inl q) = S.holds.idle x f q
    go ih (inr q) = ih q f

module _ {μ : Store} {ks : List Kept} {cs : List Held} {own : List ℕ} (p : Pool μ ks cs own) (w : World) (apart : (x : ℕ) → Ours w x → ¬ (Memᴰ x own)) where
  pub queue-goes : {k : Kept} {n : ℕ} {μ' : Store} {c : Held} → After w μ (goes k n) (went μ' c) → Queue μ' (ks ++ k ∷ []) (cs ++ c ∷ [])
  queue-goes (after-goes S new t e) = record {
    own = own ++ (S.world.owned ++ []);
    pool = pool-append (others t p (λ x m q. apart x q m) (pool-idle p)) (join S empty (λ x m n. Memᴰ.not-nil n)) (λ x m n. go x m (Memᴰ.append_cases S.world.owned n));
  }
    where
      at : (x : ℕ) → Memᴰ x own → Ours w x ⊎ Memᴰ x μ.free → ⊥
      at x m (inl q) = apart x q m
      at x m (inr f) = pool-idle p x m f

      go : (x : ℕ) → Memᴰ x own → Ours S.world x ⊎ Memᴰ x [] → ⊥
      go x m (inl q) = at x m (new x q)
      go x m (inr n) = Memᴰ.not-nil n

  pub queue-splits : {ks' : List Kept} {n : ℕ} {μ' : Store} {cs' : List Held} → After w μ (splits ks' n) (split μ' cs') → Queue μ' (ks ++ ks') (cs ++ cs')
  queue-splits (after-splits I) = record {
    own = own ++ I.own;
    pool = pool-append (pool-frame p (record { nodes = λ x m. I.outside.nodes x (pool-idle p x m); size = I.outside.size; less = I.outside.less; distinct = I.outside.distinct })) I.pool (λ x m n. pool-idle p x m (I.new x n));
  }

  -- the others are untouched: the nodes at their numbers are as they were
  pub untouched : {x : Turned Kept} {y : Took} → After w μ x y → (k : ℕ) → Memᴰ k own → node (left_by μ y).nodes k ≡ node μ.nodes k
  untouched (after-goes S new t e) k m = t.nodes k (λ q. apart k q m) (pool-idle p k m)
  untouched (after-splits I) k m = I.outside.nodes k (pool-idle p k m)
  untouched after-value k m = refl
  untouched after-ended k m = refl
  untouched after-lost k m = refl
  untouched (after-full s) k m = refl
