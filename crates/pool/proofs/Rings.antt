-- Laws of the ring: places behind the front, the pool with one more, the pool without its front, and what keeps the pool as it is.
-- Here, in order: places; lists of rows; the pool grows and goes on; what the pool depends on.
-- Assumes nothing.
use Prim.Native.Nat.{ℕ, zero, suc, ◌+◌, ◌-◌, ◌*◌, ◌≤◌, ◌<◌}
use native.Mathlib.Omega.{arith}
use native.Mathlib.Nat.{add-zero}
use mathlib.Core.Path.{◌≡◌, refl, ap, sym, ◌∙◌, subst}
use mathlib.Core.Logic.{◌≢◌, ◌⊎◌, inl, inr}
use mathlib.Core.List.Memᴰ
use mathlib.Core.List.{List, [], ◌∷◌, ◌++◌, map, Memᴰ}
use lib.ListN.{length, get_or, take, drop, length-map}
use lib.Seq.{take-take, get_or-take}
use borrow.Author.Tests.{lt-ltb, le-ltb}
use Rattle.std.proofs.lemmas.Bool.{cases_lt}
use Rattle.mem.proofs.Laws.{drop-take, take-kept}
use Rattle.heap.specs.Build.{up_from}
use Rattle.heap.proofs.Laws.Numbers.{up_from-length}
use Rattle.store.specs.Regions.{rest_of, links_of}
use Rattle.engine.specs.Machine as m
use Rattle.standing.specs.Part.{stacks_of}
use Rattle.pool.specs.declared.Held.{Held}
use Rattle.pool.specs.Ring.{Sized, chain, stack_of, roots_at, held_in, row_of, place_of, pool_of, SameLinks, RestOnly, RowGot, RowPut, Pushed}
use Rattle.pool.proofs.Laws.{only_wider, row_before, row-behind}

-- a place past the last one is from the first one on
module _ (places head j : ℕ) where
  pub place-straight : head + j < places → place_of places head j ≡ head + j
  unfolding place_of
  place-straight h = rw (lt-ltb (head + j) places h, place_of)

  pub place-round : places ≤ head + j → place_of places head j ≡ head + j - places
  unfolding place_of
  place-round h = rw (le-ltb (head + j) places h, place_of)

-- by whether it is past the last one
module _ (places head j : ℕ) where
  pub place_inside : head < places → j ≤ places → place_of places head j < places
  place_inside h l = go (cases_lt (head + j) places)
    where
      go : (head + j < places) ⊎ (places ≤ head + j) → place_of places head j < places
      go (inl u) = rw (place-straight places head j u) u
      go (inr u) = rw (place-round places head j u) (omega arith)

  -- the front's place is the head
  pub place-first : head < places → place_of places head 0 ≡ head
  place-first h = place-straight places head 0 (omega arith) ∙ add-zero head

-- places less than a round apart differ
pub place_other : (places head i j : ℕ) → head < places → i < j → j < places → place_of places head i ≢ place_of places head j
place_other places head i j h l u e = go (cases_lt (head + i) places) (cases_lt (head + j) places)
  where
    go : (head + i < places) ⊎ (places ≤ head + i) → (head + j < places) ⊎ (places ≤ head + j) → ⊥
    go (inl a) (inl b) = omega (arith, place-straight places head i a, place-straight places head j b)
    go (inl a) (inr b) = omega (arith, place-straight places head i a, place-round places head j b)
    go (inr a) (inl b) = omega (arith, place-round places head i a, place-straight places head j b)
    go (inr a) (inr b) = omega (arith, place-round places head i a, place-round places head j b)

-- the places behind the next front
pub place-next : (places head j : ℕ) → head < places → j < places → place_of places (place_of places head 1) j ≡ place_of places head (suc j)
place-next places head j h l = go (cases_lt (head + 1) places)
  where
    Goal : Type 0
    Goal = place_of places (place_of places head 1) j ≡ place_of places head (suc j)

    on : head + 1 < places → (head + 1 + j < places) ⊎ (places ≤ head + 1 + j) → Goal
    on a (inl b) = rw (place-straight places head 1 a, place-straight places (head + 1) j b, place-straight places head (suc j) (omega arith)) (omega arith)
    on a (inr b) = rw (place-straight places head 1 a, place-round places (head + 1) j b, place-round places head (suc j) (omega arith)) (omega arith)

    go : (head + 1 < places) ⊎ (places ≤ head + 1) → Goal
    go (inl a) = on a (cases_lt (head + 1 + j) places)
    go (inr a) =
        let e : head + 1 - places ≡ 0 = omega arith in
        rw (place-round places head 1 a, e, place-straight places 0 j (omega arith), place-round places head (suc j) (omega arith)) (omega arith)

-- what f gives for numbers in a row
module _ {A : Type 0} where
  rows_same : (f g : ℕ → A) (w a : ℕ) → ((j : ℕ) → a ≤ j → j < a + w → f j ≡ g j) → map f (up_from a w) ≡ map g (up_from a w)
  unfolding up_from
  rows_same f g zero a h = refl
  rows_same f g (suc w) a h = λ i. h a (omega arith) (omega arith) i ∷ rows_same f g w (suc a) (λ j p q. h j (omega arith) (omega arith)) i

  rows_more : (f : ℕ → A) (w a : ℕ) → map f (up_from a (suc w)) ≡ map f (up_from a w) ++ f (a + w) ∷ []
  unfolding up_from
  rows_more f zero a = rw (add-zero a)
  rows_more f (suc w) a = let e : a + suc w ≡ suc a + w = omega arith in rw e (ap (λ (l : List A). f a ∷ l) (rows_more f w (suc a)))

  rows-later : (f : ℕ → A) (w a : ℕ) → map f (up_from (suc a) w) ≡ map (λ j. f (suc j)) (up_from a w)
  unfolding up_from
  rows-later f zero a = refl
  rows-later f (suc w) a = ap (λ (l : List A). f (suc a) ∷ l) (rows-later f w (suc a))

pub pool-length : (L places n head waiting : ℕ) (s : List ℕ) → length (pool_of L places n head waiting s) ≡ waiting
unfolding pool_of
pool-length L places n head waiting s = length-map (up_from 0 waiting) (λ j. row_of L s n (place_of places head j)) ∙ up_from-length waiting 0

-- a row written at the place behind the last
pub pushed : (L places n head waiting i : ℕ) (h : Held) (s s' : List ℕ) → head < places → waiting < places → Sized h.roots → h.roots.n ≡ n → i ≡ place_of places head waiting → RowPut L i h s s' → Pushed L places n head waiting h s s'
unfolding pool_of
pushed L places n head waiting i h s s' hl wl z e f p =
    let inside : i < places = rw f (place_inside places head waiting hl (omega arith)) in
    record {
      is = rows_more (λ j. row_of L s' n (place_of places head j)) waiting 0
          ∙ ap (λ (l : List m.Held). l ++ row_of L s' n (place_of places head (0 + waiting)) ∷ []) (rows_same _ (λ j. row_of L s n (place_of places head j)) waiting 0 (λ j a b. other j (omega arith) (cases_lt (place_of places head j) i)))
          ∙ ap (λ (x : m.Held). map (λ j. row_of L s n (place_of places head j)) (up_from 0 waiting) ++ x ∷ []) last;
      only = only_wider p.only (omega arith) (omega arith);
    }
  where
    small : n ≤ 9
    small = omega arith

    other : (j : ℕ) → j < waiting → (place_of places head j < i) ⊎ (i ≤ place_of places head j) → row_of L s' n (place_of places head j) ≡ row_of L s n (place_of places head j)
    other j l (inl u) = row_before p.only n (place_of places head j) small (omega arith)
    other j l (inr u) =
        let d = place_other places head j waiting hl l wl in
        row-behind p.only n (place_of places head j) (beyond (place_of places head j) u (λ e. d (e ∙ f)))
      where
        beyond : (k : ℕ) → i ≤ k → k ≢ i → 20 * i + 10 ≤ 20 * k
        beyond k a b = omega arith

    last : row_of L s' n (place_of places head (0 + waiting)) ≡ held_in L s h
    last = let w : 0 + waiting ≡ waiting = omega arith in rw (w, ← f, ← e) p.is

-- the front, and the pool from the next place on
pub pool-first : (L places n head waiting : ℕ) (s : List ℕ) → head < places → 0 < waiting → waiting ≤ places → pool_of L places n head waiting s ≡ row_of L s n head ∷ pool_of L places n (place_of places head 1) (waiting - 1) s
unfolding pool_of up_from
pool-first L places n head zero s h l u = absurd (omega arith)
pool-first L places n head (suc w) s h l u =
    let e : suc w - 1 ≡ w = omega arith in
    rw (e, place-first places head 0 h)
    (ap (λ (l : List m.Held). row_of L s n head ∷ l)
    (rows-later (λ j. row_of L s n (place_of places head j)) w 0 ∙ rows_same _ _ w 0 (λ j a b. ap (λ (k : ℕ). row_of L s n k) (sym (place-next places head j h (omega arith))))))

-- so with the front that was read
pub front-is : (L places n head waiting : ℕ) (s : List ℕ) (h : Held) → head < places → 0 < waiting → waiting ≤ places → RowGot L n head s h → pool_of L places n head waiting s ≡ held_in L s h ∷ pool_of L places n (place_of places head 1) (waiting - 1) s
front-is L places n head waiting s h l u v g = rw g.is (pool-first L places n head waiting s l u v)

-- a chain depends on the links of its entries
pub chain-kept : (n : ℕ) (l l' : List ℕ) (t : ℕ) → SameLinks l l' (chain n l t) → chain n l' t ≡ chain n l t
unfolding chain
chain-kept zero l l' t h = refl
chain-kept (suc n) l l' zero h = refl
chain-kept (suc n) l l' (suc k) h = rw (h k (Memᴰ.head refl)) (ap (λ (c : List ℕ). k ∷ c) (chain-kept n l l' (get_or l k 0) (λ x w. h x (Memᴰ.tail w))))

-- a part of words that are the same
part_same : (a k n : ℕ) (l l' : List ℕ) → take a l' ≡ take a l → k + n ≤ a → take n (drop k l') ≡ take n (drop k l)
part_same a k n l l' e h =
    let f : take (k + n) l' ≡ take (k + n) l = sym (take-take (k + n) a l' h) ∙ ap (take (k + n)) e ∙ take-take (k + n) a l h in
    sym (drop-take k n l') ∙ ap (drop k) f ∙ drop-take k n l

word_same : (a k : ℕ) (l l' : List ℕ) → take a l' ≡ take a l → k < a → get_or l' k 0 ≡ get_or l k 0
word_same a k l l' e h = sym (get_or-take {A = ℕ} a l' k 0 h) ∙ ap (λ (t : List ℕ). get_or t k 0) e ∙ get_or-take {A = ℕ} a l k 0 h

module _ (L places n : ℕ) (s s' : List ℕ) (few : n ≤ 9) (same : take (20 * places) (rest_of L s') ≡ take (20 * places) (rest_of L s)) where
  -- a row depends on its words and the links of its stack's entries
  row_kept : (i : ℕ) → i < places → SameLinks (links_of L s) (links_of L s') (row_of L s n i).stack → row_of L s' n i ≡ row_of L s n i
  unfolding row_of roots_at stack_of
  row_kept i h k =
      rw (part_same (20 * places) (20 * i) n (rest_of L s) (rest_of L s') same (omega arith), word_same (20 * places) (20 * i + 9) (rest_of L s) (rest_of L s') same (omega arith), chain-kept (suc L) (links_of L s) (links_of L s') (get_or (rest_of L s) (20 * i + 9) 0) k)

-- the entries of one computation's stack are among those of all
stacks-have : (f : ℕ → m.Held) (w a j x : ℕ) → a ≤ j → j < a + w → Memᴰ x (f j).stack → Memᴰ x (stacks_of (map f (up_from a w)))
unfolding up_from
stacks-have f zero a j x h l k = absurd (omega arith)
stacks-have f (suc w) a j x h l k = go (cases_lt a j) (λ p. stacks-have f w (suc a) j x p (omega arith) k)
  where
    go : (a < j) ⊎ (j ≤ a) → (suc a ≤ j → Memᴰ x (stacks_of (map f (up_from (suc a) w)))) → Memᴰ x ((f a).stack ++ stacks_of (map f (up_from (suc a) w)))
    go (inl u) ih = Memᴰ.append_right (f a).stack (ih u)
    go (inr u) ih = let e : j ≡ a = omega arith in Memᴰ.append_left _ (subst (λ (i : ℕ). Memᴰ x (f i).stack) e k)

-- The pool depends only on the words of the places and on the links of its stacks' entries.
pub pool-kept : (L places n head waiting : ℕ) (s s' : List ℕ) → n ≤ 9 → head < places → waiting ≤ places → take (20 * places) (rest_of L s') ≡ take (20 * places) (rest_of L s)
    → SameLinks (links_of L s) (links_of L s') (stacks_of (pool_of L places n head waiting s)) → pool_of L places n head waiting s' ≡ pool_of L places n head waiting s
unfolding pool_of
pool-kept L places n head waiting s s' few h l same k =
    rows_same _ _ waiting 0 (λ j a b. row_kept L places n s s' few same (place_of places head j) (place_inside places head j h (omega arith)) (λ x w. k x (stacks-have (λ j. row_of L s n (place_of places head j)) waiting 0 j x a b w)))

-- so a write in the rest past the places keeps it
pub pool-stays : (L places n head waiting a b : ℕ) (s s' : List ℕ) → n ≤ 9 → head < places → waiting ≤ places → 20 * places ≤ a → RestOnly L a b s s' → pool_of L places n head waiting s' ≡ pool_of L places n head waiting s
pool-stays L places n head waiting a b s s' few h l f o = pool-kept L places n head waiting s s' few h l (take-kept o.rest (20 * places) f) (λ x w. ap (λ (t : List ℕ). get_or t x 0) o.links)

-- and the computation that is held depends on the links of its stack's entries
pub held_kept : (L : ℕ) (s s' : List ℕ) (h : Held) → SameLinks (links_of L s) (links_of L s') (held_in L s h).stack → held_in L s' h ≡ held_in L s h
unfolding held_in stack_of
held_kept L s s' h k = rw (chain-kept (suc L) (links_of L s) (links_of L s') h.top k)
