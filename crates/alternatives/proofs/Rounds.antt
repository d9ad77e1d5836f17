-- All copies, one behind the other: what holds before each, and what the last leaves.
-- Here, in order: the model step by step; alternatives that stay; the terms; what a split gives; the rounds.
-- Assumes nothing.
use Prim.Native.Nat.{ℕ, zero, suc, ◌+◌, ◌-◌, ◌≤◌, ◌<◌}
use native.Mathlib.Omega.{arith}
use native.Mathlib.Numerals.{add-one}
use mathlib.Core.Path.{◌≡◌, refl, ap, sym, ◌∙◌, subst}
use mathlib.Core.Logic.{◌⊎◌, inl, inr}
use mathlib.Core.Option as pure
use mathlib.Core.Option.{none, some}
use Rattle.std.specs.Prelude.{Option, Some, None}
use mathlib.Core.List.{List, [], ◌∷◌, ◌++◌, append_assoc, append-nil, Memᴰ}
use lib.ListN.{length, get_or, drop, length-take, length-drop}
use lib.Seq.{get_or-take, get_or-drop, drop-cons, drop-length}
use Rattle.std.proofs.lemmas.Bool.{cases_lt}
use Rattle.mem.specs.Words.{Only}
use Rattle.mem.proofs.Laws.{only_then, take-kept, drop-kept, part-before}
use Rattle.heap.specs.Graph.{Graph, copy}
use Rattle.heap.specs.Build.{up_from}
use Rattle.heap.specs.Store.{Store}
use Rattle.engine.specs.Turn.{forward}
use Rattle.engine.specs.Compile.{compile}
use Rattle.engine.specs.Machine as m
use Rattle.agreement.proofs.Fine.{Takes}
use Rattle.standing.specs.Part.{Part}
use Rattle.standing.specs.Shared.{pour, pour_all}
use Rattle.standing.proofs.Alternatives.{Splits, splits-part, splits-poured}
use Rattle.store.specs.Regions.{graph_of, rest_of, store_of}
use Rattle.store.specs.Roots.{roots_of}
use Rattle.store.specs.declared.Roots.{Roots}
use Rattle.store.proofs.Laws.{length-graph}
use Rattle.store.proofs.Writes.{length_rest}
use Rattle.copier.specs.Listed.{Clean}
use Rattle.copier.specs.Poured.{given}
use Rattle.pool.specs.Ring.{held_by, roots_at, scratch_at, Sized}
use Rattle.alternatives.specs.Copies.{Space, terms_in, alt_in, alts_in, Opens, Divides, Aside, as_if, OnePoured, AllPoured}
use Rattle.alternatives.proofs.Steps.{nodes-are}

-- what comes of the later terms, with the alternatives before them
unfoldable pub onto : List m.Held → pure.Option (Store × List m.Held) → pure.Option (Store × List m.Held)
onto cs none = none
onto cs (some q) = some (q.0, cs ++ q.1)

onto-nothing : (x : pure.Option (Store × List m.Held)) → x ≡ onto [] x
unfolding onto
onto-nothing none = refl
onto-nothing (some q) = refl

onto-onto : (cs ds : List m.Held) (x : pure.Option (Store × List m.Held)) → onto cs (onto ds x) ≡ onto (cs ++ ds) x
unfolding onto
onto-onto cs ds none = refl
onto-onto cs ds (some q) = ap (λ (l : List m.Held). some (q.0, l)) (sym (append_assoc cs ds q.1))

-- the model, one term at a time
all-next : (μ : Store) (c : m.Held) (h k : ℕ) (ks : List ℕ) (μ' : Store) (d : m.Held) → pour (copy (record { graph = forward μ.nodes h k; value = c.value; askers = c.askers })) μ ≡ some (μ', d)
    → pour_all μ c h (k ∷ ks) ≡ onto (d ∷ []) (pour_all μ' c h ks)
unfolding pour_all onto
all-next μ c h k ks μ' d e = rw (e, pour_all) (go (pour_all μ' c h ks) refl)
  where
    go : (x : pure.Option (Store × List m.Held)) → pour_all μ' c h ks ≡ x
        → elim (pour_all μ' c h ks) [ none ↦ none | some q ↦ some (q.0, d ∷ q.1) ] ≡ onto (d ∷ []) (pour_all μ' c h ks)
    go none q = rw (q, onto)
    go (some y) q = rw (q, onto)

all-full : (μ : Store) (c : m.Held) (h k : ℕ) (ks : List ℕ) → pour (copy (record { graph = forward μ.nodes h k; value = c.value; askers = c.askers })) μ ≡ none → pour_all μ c h (k ∷ ks) ≡ none
unfolding pour_all
all-full μ c h k ks e = rw (e, pour_all)

all_none : (μ : Store) (c : m.Held) (h : ℕ) → pour_all μ c h [] ≡ some (μ, [])
unfolding pour_all
all_none μ c h = refl

-- numbers in a row
up_from-has : (n a x : ℕ) → a ≤ x → x < a + n → Memᴰ x (up_from a n)
unfolding up_from
up_from-has zero a x h l = absurd (omega arith)
up_from-has (suc n) a x h l = go (cases_lt a x) (λ i. up_from-has n (suc a) x i (omega arith))
  where
    go : (a < x) ⊎ (x ≤ a) → (suc a ≤ x → Memᴰ x (up_from (suc a) n)) → Memᴰ x (a ∷ up_from (suc a) n)
    go (inl i) ih = Memᴰ.tail (ih i)
    go (inr i) ih = let q : x ≡ a = omega arith in Memᴰ.head q

module _ (L made : ℕ) (s : List ℕ) where
  abbrev μ : Store
  μ = store_of L made s

  free-has : (x : ℕ) → made ≤ x → x < L → Memᴰ x μ.free
  unfolding store_of
  free-has x h l = up_from-has (L - made) made x h (omega arith)

  -- a split gives what each copy relies on, and what the next does
  pub divides-opens : (l : List ℕ) (h k : ℕ) (ks : List ℕ) → 1 ≤ length l → Divides L made l h (k ∷ ks) s → Opens L made l h k s
  divides-opens l h k ks one D = record {
    own = S.world.owned;
    part = subst (λ (y : List ℕ). Part (forward (graph_of L s) h k) S.world.owned y) (whole l one) (subst (λ (g : Graph). Part (forward g h k) S.world.owned (get_or l 0 0 ∷ drop 1 l)) (nodes-are L made s) (splits-part μ (held_by l []) h k ks S));
    taken = taken;
    inside = taken h (S.holds.alike.right S.call h S.same);
  }
    where
      S : Splits (Takes (compile D.book)) μ (held_by l []) h (k ∷ ks)
      S = D.splits

      whole : (l : List ℕ) → 1 ≤ length l → get_or l 0 0 ∷ drop 1 l ≡ l
      whole [] i = absurd (omega arith)
      whole (x ∷ xs) i = refl

      taken : (x : ℕ) → Memᴰ x S.world.owned → x < made
      taken x w = go (cases_lt x made)
        where
          low : x < L
          low = let a = S.holds.in_q x w in let b = ap length (nodes-are L made s) in let c = length-graph L s in omega arith

          go : (x < made) ⊎ (made ≤ x) → x < made
          go (inl u) = u
          go (inr u) = absurd (S.holds.idle x (free-has x u low) w)

  pub divides-next : (l : List ℕ) (h k : ℕ) (ks : List ℕ) (made' : ℕ) (s' : List ℕ) (d : m.Held) → Divides L made l h (k ∷ ks) s → pour (copy (as_if (graph_of L s) l h k)) μ ≡ some (store_of L made' s', d) → Divides L made' l h ks s'
  divides-next l h k ks made' s' d D e = record {
    book = D.book;
    splits = splits-poured μ (held_by l []) h k ks D.splits (store_of L made' s') d (subst (λ (g : Graph). pour (copy (as_if g l h k)) μ ≡ some (store_of L made' s', d)) (sym (nodes-are L made s)) e);
  }

-- alternatives that stay
module _ (L base n : ℕ) (s s' : List ℕ) where
  alts-kept : (i : ℕ) → ((j : ℕ) → j < i → alt_in L base n s' j ≡ alt_in L base n s j) → alts_in L base n i s' ≡ alts_in L base n i s
  unfolding alts_in
  alts-kept zero f = refl
  alts-kept (suc i) f = λ t. alts-kept i (λ j h. f j (omega arith)) t ++ f i (omega arith) t ∷ []

  alt-kept : (a b j : ℕ) → Only a b (rest_of L s) (rest_of L s') → scratch_at base j + n ≤ a → alt_in L base n s' j ≡ alt_in L base n s j
  unfolding alt_in roots_at
  alt-kept a b j o h = ap (λ (l : List ℕ). held_by l []) (part-before o (scratch_at base j) n h)

module _ (L base made₀ : ℕ) (r : Roots) (h count : ℕ) (s₀ : List ℕ) where
  abbrev l : List ℕ
  l = roots_of r

  abbrev ks : List ℕ
  ks = terms_in L base s₀ count

  -- i copies are made
  pub record Rounds (s : List ℕ) (made i : ℕ) : Type 0 where
    pub onward : (N : List ℕ) → pour_all (store_of L made₀ s₀) (held_by l N) h ks ≡ onto (alts_in L base r.n i s) (pour_all (store_of L made s) (held_by l N) h (drop i ks))
    pub divides : Divides L made l h (drop i ks) s
    pub more : (made₀ ≤ made) × (made ≤ L)
    pub aside : Aside L made₀ (scratch_at base 0) (scratch_at base 32) s₀ s

  pub rounds-start : Divides L made₀ l h ks s₀ → made₀ ≤ L → Clean L s₀ → Rounds s₀ made₀ 0
  unfolding alts_in
  rounds-start D fits c = record {
    onward = λ N. onto-nothing (pour_all (store_of L made₀ s₀) (held_by l N) h ks);
    divides = D;
    more = (omega arith, fits);
    aside = record { nodes = λ x lt. refl; marks = refl; links = refl; frames = refl; rest = record { before = refl; behind = refl; long = refl }; long = refl; clean = c };
  }

  module _ (space : Space L base s₀) (small : count ≤ 32) (sized : Sized r) (nine : length r.at ≡ 9) where
    has_one : 1 ≤ length l
    has_one = simp length-take (omega arith)

    long : length ks ≡ count
    unfolding terms_in
    long = let e = length_rest L s₀ in simp (length-take, length-drop) (omega arith)

    module _ {s : List ℕ} {made i : ℕ} (R : Rounds s made i) where
      same : terms_in L base s count ≡ ks
      unfolding terms_in
      same = part-before R.aside.rest (base + 2696) count (omega arith)

      word : i < count → get_or ks i 0 ≡ get_or (rest_of L s) (base + 2696 + i) 0
      unfolding terms_in
      word lt = ap (λ (z : List ℕ). get_or z i 0) (sym same) ∙ get_or-take {A = ℕ} count (drop (base + 2696) (rest_of L s)) i 0 lt ∙ get_or-drop {A = ℕ} (base + 2696) (rest_of L s) i 0

      -- the term of this round
      pub rounds-term : (k : ℕ) → i < count → k ≡ get_or (rest_of L s) (base + 2696 + i) 0 → drop i ks ≡ k ∷ drop (suc i) ks
      rounds-term k lt e = drop-cons ks i 0 (let a = long in omega arith) ∙ ap (λ (z : ℕ). z ∷ drop (suc i) ks) (word lt ∙ sym e)

      pub rounds-opens : (k : ℕ) → i < count → k ≡ get_or (rest_of L s) (base + 2696 + i) 0 → Opens L made l h k s
      rounds-opens k lt e = divides-opens L made s l h k (drop (suc i) ks) has_one (subst (λ (z : List ℕ). Divides L made l h z s) (rounds-term k lt e) R.divides)

      module _ (k : ℕ) (s' : List ℕ) (lt : i < count) (e : k ≡ get_or (rest_of L s) (base + 2696 + i) 0) where
        -- what the copy for this term gives, whatever the stack is
        abbrev laid_down : ℕ → Store × m.Held
        laid_down n = (store_of L n s', alt_in L base r.n s' i)

        module _ (a : Option ℕ) (P : OnePoured L base made r h k i s s' a) where
          wide : Only (scratch_at base 0) (scratch_at base 32) (rest_of L s) (rest_of L s')
          wide = record { before = take-kept P.aside.rest (scratch_at base 0) (omega arith); behind = drop-kept P.aside.rest (scratch_at base 32) (omega arith); long = P.aside.rest.long }

          aside' : Aside L made₀ (scratch_at base 0) (scratch_at base 32) s₀ s'
          aside' = record {
            nodes = λ x lt'. P.aside.nodes x (let b = R.more.0 in omega arith) ∙ R.aside.nodes x lt';
            marks = P.aside.marks ∙ R.aside.marks;
            links = P.aside.links ∙ R.aside.links;
            frames = P.aside.frames ∙ R.aside.frames;
            rest = only_then R.aside.rest wide;
            long = P.aside.long ∙ R.aside.long;
            clean = P.aside.clean;
          }

          stored : (N : List ℕ) → pour (copy (record { graph = forward (store_of L made s).nodes h k; value = (held_by l N).value; askers = (held_by l N).askers })) (store_of L made s) ≡ given laid_down a
          stored N = subst (λ (g : Graph). pour (copy (as_if g l h k)) (store_of L made s) ≡ given laid_down a) (sym (nodes-are L made s)) P.is

          before : alts_in L base r.n i s' ≡ alts_in L base r.n i s
          before = alts-kept L base r.n s s' i (λ j lt'. alt-kept L base r.n s s' (scratch_at base i) (scratch_at base i + r.n) j P.aside.rest (omega arith))

        pub rounds-next : (n : ℕ) → OnePoured L base made r h k i s s' (Some n) → Rounds s' n (i + 1)
        unfolding given alts_in
        rounds-next n P = subst (Rounds s' n) (sym (add-one i)) (record {
          onward = λ N. R.onward N
              ∙ ap (λ (z : List ℕ). onto (alts_in L base r.n i s) (pour_all (store_of L made s) (held_by l N) h z)) (rounds-term k lt e)
              ∙ ap (onto (alts_in L base r.n i s)) (all-next (store_of L made s) (held_by l N) h k (drop (suc i) ks) (store_of L n s') (alt_in L base r.n s' i) (stored (Some n) P N))
              ∙ onto-onto (alts_in L base r.n i s) (alt_in L base r.n s' i ∷ []) (pour_all (store_of L n s') (held_by l N) h (drop (suc i) ks))
              ∙ ap (λ (z : List m.Held). onto (z ++ alt_in L base r.n s' i ∷ []) (pour_all (store_of L n s') (held_by l N) h (drop (suc i) ks))) (sym (before (Some n) P));
          divides = divides-next L made s l h k (drop (suc i) ks) n s' (alt_in L base r.n s' i) (subst (λ (z : List ℕ). Divides L made l h z s) (rounds-term k lt e) R.divides) P.is;
          more = (let b = R.more.0 in let d = P.more.0 in omega arith, P.more.1);
          aside = aside' (Some n) P;
        })

        pub rounds-full : OnePoured L base made r h k i s s' None → AllPoured L base made₀ r h count s₀ s' None
        unfolding given onto
        rounds-full P = record {
          is = λ N. R.onward N
              ∙ ap (λ (z : List ℕ). onto (alts_in L base r.n i s) (pour_all (store_of L made s) (held_by l N) h z)) (rounds-term k lt e)
              ∙ ap (onto (alts_in L base r.n i s)) (all-full (store_of L made s) (held_by l N) h k (drop (suc i) ks) (stored None P N));
          more = tt;
          aside = aside' None P;
        }

      pub rounds-done : i ≡ count → AllPoured L base made₀ r h count s₀ s (Some made)
      unfolding onto given
      rounds-done q = record {
        is = λ N. R.onward N
            ∙ ap (λ (z : List ℕ). onto (alts_in L base r.n i s) (pour_all (store_of L made s) (held_by l N) h z)) (ap (λ (j : ℕ). drop j ks) (q ∙ sym long) ∙ drop-length ks)
            ∙ ap (onto (alts_in L base r.n i s)) (all_none (store_of L made s) (held_by l N) h)
            ∙ ap (λ (z : List m.Held). some (store_of L made s, z)) (append-nil (alts_in L base r.n i s) ∙ ap (λ (j : ℕ). alts_in L base r.n j s) q);
        more = R.more;
        aside = R.aside;
      }
