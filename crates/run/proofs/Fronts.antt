-- The front of the pool and the others, for a moment of the definition that a state stands for; and what a turn of the front leaves of the others.
-- Here, in order: a moment taken apart; the state's moment with its front; what the turn is given; the others after the turn.
-- Assumes nothing.
use Prim.Native.Nat.{ℕ, ◌+◌, ◌*◌, ◌-◌, ◌≤◌, ◌<◌}
use native.Mathlib.Omega.{arith}
use mathlib.Core.Path.{◌≡◌, refl, ap, sym, ◌∙◌, subst}
use mathlib.Core.Logic.{◌⊎◌, inl, inr}
use mathlib.Core.List.Memᴰ
use mathlib.Core.List.{List, [], ◌∷◌, ◌++◌, Memᴰ}
use lib.ListN.{length, take}
use lib.Seq.{take-take}
use Rattle.book.specs.Syntax.{Book}
use Rattle.book.specs.Answers.{Counts}
use Rattle.heap.specs.Store.{Store}
use Rattle.engine.specs.Machine as m
use Rattle.engine.specs.Run as e
use Rattle.agreement.proofs.Calls.{FineBook}
use Rattle.agreement.proofs.Agree.{Sound}
use Rattle.standing.specs.Shared.{store_moment}
use Rattle.standing.specs.Stands.{Stands, Ours, Pool, empty, join}
use Rattle.standing.specs.Moments.{Room, Sounds, StandsFor, stands-for}
use Rattle.standing.specs.Part.{stacks_of}
use Rattle.standing.proofs.Stands.{Elsewhere}
use Rattle.standing.proofs.Queue.{pool-idle}
use Rattle.standing.proofs.Room.{room_bound}
use Rattle.standing.proofs.Stacks.{each-ours}
use Rattle.store.specs.Regions.{rest_of, store_of}
use Rattle.store.proofs.Laws.{length-graph}
use Rattle.pool.specs.declared.Held.{Held}
use Rattle.pool.specs.Ring.{place_of, held_in, pool_of, RowGot}
use Rattle.pool.proofs.Rings.{place_inside, front-is, pool-kept}
use Rattle.turns.specs.Front.{Front, Stays}
use Rattle.turns.proofs.Grounds.{below-made}
use Rattle.run.specs.declared.State.{State}
use Rattle.run.specs.Between.{counts_in, moment_of, Bounded, Runs}

-- a moment with the front c and the others cs, in the store μ
pub record Here (book : Book) (B : FineBook book) (l : e.Limits) (x : e.Moment m.Kept) (μ : Store) (c : m.Held) (cs : List m.Held) (κ : Counts) (out : List ℕ) : Type 0 where
  pub k : m.Kept
  pub ks : List m.Kept
  pub is : x ≡ e.moment (k ∷ ks) κ out
  pub own : List ℕ
  pub stands : Stands k.comp.graph (m.held_of k) μ c
  pub others : Pool μ ks cs own
  pub apart : (y : ℕ) → Ours stands.world y → ¬ (Memᴰ y own)
  pub sound : Sound book B k.comp k.stack
  pub sounds : Sounds book B ks
  pub room : Room l μ (k ∷ ks) κ

module _ (book : Book) (B : FineBook book) (l : e.Limits) where
  pub here : (x : e.Moment m.Kept) (μ : Store) (c : m.Held) (cs : List m.Held) (κ : Counts) (out : List ℕ) → StandsFor book B l x (store_moment μ (c ∷ cs) κ out) → Here book B l x μ c cs κ out
  here (e.moment ks κ' out') μ c cs κ out (stands-for Q ss R) = go ks Q.own Q.pool ss R
    where
      go : (ks : List m.Kept) (own : List ℕ) → Pool μ ks (c ∷ cs) own → Sounds book B ks → Room l μ ks κ → Here book B l (e.moment ks κ out) μ c cs κ out
      go ks own (join {k = k} {ks = ks'} {own = own'} S p a) (s, ss) R = record { k = k; ks = ks'; is = refl; own = own'; stands = S; others = p; apart = a; sound = s; sounds = ss; room = R }

  -- an empty pool is the definition's too
  pub none-waits : (x : e.Moment m.Kept) (μ : Store) (κ : Counts) (out : List ℕ) → StandsFor book B l x (store_moment μ [] κ out) → x ≡ e.moment [] κ out
  none-waits (e.moment ks κ' out') μ κ out (stands-for Q ss R) = go ks Q.own Q.pool
    where
      go : (ks : List m.Kept) (own : List ℕ) → Pool μ ks [] own → e.moment ks κ out ≡ e.moment [] κ out
      go ks own empty = refl

stacks-owned : {μ : Store} {ks : List m.Kept} {cs : List m.Held} {own : List ℕ} → Pool μ ks cs own → (x : ℕ) → Memᴰ x (stacks_of cs) → Memᴰ x own
stacks-owned empty x w = w
stacks-owned (join {k = k} {c = c} {cs = cs} {own = own} S p a) x w = go (λ u. stacks-owned p x u) (Memᴰ.append_cases c.stack w)
  where
    go : (Memᴰ x (stacks_of cs) → Memᴰ x own) → Memᴰ x c.stack ⊎ Memᴰ x (stacks_of cs) → Memᴰ x (S.world.owned ++ own)
    go ih (inl u) = Memᴰ.append_left own (each-ours S.holds k.stack c.stack S.helds.stack x u)
    go ih (inr u) = Memᴰ.append_right S.world.owned (ih u)

pool-inside : {μ : Store} {ks : List m.Kept} {cs : List m.Held} {own : List ℕ} → Pool μ ks cs own → (x : ℕ) → Memᴰ x own → x < length μ.nodes
pool-inside empty x w = absurd (Memᴰ.not-nil w)
pool-inside {μ} (join {own = own} S p a) x w = go (λ u. pool-inside p x u) (Memᴰ.append_cases S.world.owned w)
  where
    go : (Memᴰ x own → x < length μ.nodes) → Ours S.world x ⊎ Memᴰ x own → x < length μ.nodes
    go ih (inl q) = S.holds.in_q x q
    go ih (inr q) = ih q

-- a state whose pool is not empty, its front read
module _ (l : e.Limits) (n : ℕ) (code : List ℕ) (st : State) (s results : List ℕ) (b : Bounded l n st s results) (some : 1 ≤ st.waiting) (held : Held) (G : RowGot l.nodes n st.head s held) where
  abbrev pub L : ℕ
  L = l.nodes

  abbrev pub base : ℕ
  base = 20 * l.pool

  abbrev pub μ : Store
  μ = store_of L st.made s

  -- the computations behind the front
  abbrev pub rest : List ℕ → List m.Held
  rest t = pool_of L l.pool n (place_of l.pool st.head 1) (st.waiting - 1) t

  pub moment-front : moment_of l n st s results ≡ store_moment μ (held_in L s held ∷ rest s) (counts_in st) (take st.written results)
  unfolding moment_of
  moment-front = let h = b.head in let w = b.waiting in ap (λ (cs : List m.Held). store_moment μ cs (counts_in st) (take st.written results)) (front-is L l.pool n st.head st.waiting s held h some w G)

  module _ (R : Runs l n code st s results) where
    pub H : Here R.book R.fine l R.moment μ (held_in L s held) (rest s) (counts_in st) (take st.written results)
    H = here R.book R.fine l R.moment μ (held_in L s held) (rest s) (counts_in st) (take st.written results) (subst (StandsFor R.book R.fine l R.moment) moment-front R.stands)

    -- what the turn is given
    abbrev pub front : Front L base code st.made held s
    front = record {
      standing = record { book = R.book; accepted = R.accepted; fine = R.fine; kept = H.k; sound = H.sound; stands = H.stands; small = room_bound H.room };
      tables = R.tables;
      coded = R.coded;
    }

    -- after its turn
    module _ (s₁ : List ℕ) (Z : Stays L base st.made (Ours H.stands.world) s s₁) where
      ours-low : (x : ℕ) → Memᴰ x H.own → (x < st.made) × ¬ (Ours H.stands.world x)
      unfolding store_of
      ours-low x w = (below-made L st.made x (rw length-graph at (pool-inside H.others x w)) (pool-idle H.others x w), λ q. H.apart x q w)

      pub elsewhere : Elsewhere (λ x. Memᴰ x H.own) μ (store_of L st.made s₁)
      unfolding store_of
      elsewhere = record { nodes = λ x w. (let o = ours-low x w in Z.nodes x o.0 o.1); size = length-graph L s₁ ∙ sym (length-graph L s); less = λ x w. w; distinct = H.stands.holds.distinct }

      pub rest-stays : rest s₁ ≡ rest s
      rest-stays =
          let h = b.head in let w = b.waiting in let a = b.handles in
          pool-kept L l.pool n (place_of l.pool st.head 1) (st.waiting - 1) s s₁ a.1 (place_inside l.pool st.head 1 h (omega arith)) (omega arith)
          (sym (take-take base (base + 2440) (rest_of L s₁) (omega arith)) ∙ ap (take base) Z.rest ∙ take-take base (base + 2440) (rest_of L s) (omega arith))
          (λ x u. (let o = ours-low x (stacks-owned H.others x u) in Z.links x o.0 o.1))
