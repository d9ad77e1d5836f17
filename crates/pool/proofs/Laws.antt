-- Laws of rows: what a write in the rest leaves alone, handles read and written word by word, rows read and written.
-- Here, in order: what stays; handles; rows.
-- Not here: the ring (Rings).
-- Assumes nothing.
use Prim.Native.Nat.{ℕ, suc, ◌+◌, ◌-◌, ◌*◌, ◌≤◌, ◌<◌}
use native.Mathlib.Omega.{arith}
use native.Mathlib.Numerals.{add-one}
use mathlib.Core.Path.{◌≡◌, refl, ap, sym, ◌∙◌}
use mathlib.Core.List.{List, []}
use lib.ListN.{length, get_or, take, drop, set, length-drop}
use lib.Seq.{take-suc, take-suc-set, take-take, drop-set-add, get_or-set_same, get_or-take, get_or-drop}
use Rattle.mem.specs.Words.{words}
use Rattle.mem.proofs.Laws.{wrote, only_wrote, only_then, take-kept, drop-kept, part-before, part-behind}
use Rattle.store.specs.Regions.{rest_of, Memory, Did, set_rest}
use Rattle.store.proofs.Writes.{length_rest}
use Rattle.store.specs.declared.Roots.{Roots}
use Rattle.pool.specs.declared.Held.{Held}
use Rattle.pool.specs.Ring.{RestRoom, Sized, stack_of, roots_at, held_in, row_of, RestOnly, RootsGot, RootsPut, RowGot, RowPut}

-- nothing was written
pub only_none : (L a b : ℕ) (s : List ℕ) → RestOnly L a b s s
only_none L a b s = record { graph = refl; marks = refl; links = refl; list = refl; places = refl; frames = refl; rest = record { before = refl; behind = refl; long = refl }; long = refl }

-- a word of the rest was written
pub only-word : {L k v a b : ℕ} {s s' : List ℕ} → Did L s s' (set_rest k v) → a ≤ k → k < b → RestOnly L a b s s'
only-word {L} {k} {v} {a} {b} {s} {s'} d h h' =
    record {
      graph = ap (λ (m : Memory). m.graph) d.is;
      marks = ap (λ (m : Memory). m.marks) d.is;
      links = ap (λ (m : Memory). m.links) d.is;
      list = ap (λ (m : Memory). m.list) d.is;
      places = ap (λ (m : Memory). m.places) d.is;
      frames = ap (λ (m : Memory). m.frames) d.is;
      rest = only_wrote h h' (wrote (ap (λ (m : Memory). m.rest) d.is));
      long = d.long;
    }

-- one write behind the other
pub both-only : {L a b : ℕ} {s s' s'' : List ℕ} → RestOnly L a b s s' → RestOnly L a b s' s'' → RestOnly L a b s s''
both-only o p =
    record {
      graph = p.graph ∙ o.graph;
      marks = p.marks ∙ o.marks;
      links = p.links ∙ o.links;
      list = p.list ∙ o.list;
      places = p.places ∙ o.places;
      frames = p.frames ∙ o.frames;
      rest = only_then o.rest p.rest;
      long = p.long ∙ o.long;
    }

-- a wider stretch
pub only_wider : {L a b c d : ℕ} {s s' : List ℕ} → RestOnly L a b s s' → c ≤ a → b ≤ d → RestOnly L c d s s'
only_wider {L} {a} {b} {c} {d} {s} {s'} o h h' =
    record {
      graph = o.graph;
      marks = o.marks;
      links = o.links;
      list = o.list;
      places = o.places;
      frames = o.frames;
      rest = record { before = take-kept o.rest c h; behind = drop-kept o.rest d h'; long = o.rest.long };
      long = o.long;
    }

module _ {L a b : ℕ} {s s' : List ℕ} (o : RestOnly L a b s s') where
  -- words before the stretch, and behind it
  pub word-before : (k : ℕ) → k < a → get_or (rest_of L s') k 0 ≡ get_or (rest_of L s) k 0
  word-before k h = sym (get_or-take {A = ℕ} a (rest_of L s') k 0 h) ∙ ap (λ (l : List ℕ). get_or l k 0) o.rest.before ∙ get_or-take {A = ℕ} a (rest_of L s) k 0 h

  pub word-behind : (k : ℕ) → b ≤ k → get_or (rest_of L s') k 0 ≡ get_or (rest_of L s) k 0
  word-behind k h =
      let e : b + (k - b) ≡ k = omega arith in
      let f : (l : List ℕ) → get_or (drop b l) (k - b) 0 ≡ get_or l k 0 = λ l. get_or-drop {A = ℕ} b l (k - b) 0 ∙ ap (λ (i : ℕ). get_or l i 0) e in
      sym (f (rest_of L s')) ∙ ap (λ (l : List ℕ). get_or l (k - b) 0) o.rest.behind ∙ f (rest_of L s)

  -- handles before it, and behind it
  pub roots-before : (n k : ℕ) → k + n ≤ a → roots_at L s' n k ≡ roots_at L s n k
  unfolding roots_at
  roots-before n k h = part-before o.rest k n h

  pub roots-behind : (n k : ℕ) → b ≤ k → roots_at L s' n k ≡ roots_at L s n k
  unfolding roots_at
  roots-behind n k h = part-behind o.rest k n h

  -- stacks
  pub stack-stays : (t : ℕ) → stack_of L s' t ≡ stack_of L s t
  unfolding stack_of
  stack-stays t = rw o.links

  -- the computation that is held, and those in other rows
  pub held_stays : (h : Held) → held_in L s' h ≡ held_in L s h
  unfolding held_in
  held_stays h = rw (stack-stays h.top)

  pub row_before : (n i : ℕ) → n ≤ 9 → 20 * i + 10 ≤ a → row_of L s' n i ≡ row_of L s n i
  unfolding row_of
  row_before n i h h' = rw (roots-before n (20 * i) (omega arith), word-before (20 * i + 9) (omega arith), stack-stays)

  pub row-behind : (n i : ℕ) → b ≤ 20 * i → row_of L s' n i ≡ row_of L s n i
  unfolding row_of
  row-behind n i h = rw (roots-behind n (20 * i) h, word-behind (20 * i + 9) (omega arith), stack-stays)

-- one handle more
pub roots-step : (l l' m : List ℕ) (j v : ℕ) → j < length l → j < length m → take j l ≡ take j m → l' ≡ set l j v → v ≡ get_or m j 0 → take (j + 1) l' ≡ take (j + 1) m
roots-step l l' m j v h h' e f g = rw (f, add-one j, take-suc-set l j v h, take-suc m j 0 h', e, g)

-- one word more, and nine of them
front_more : (l m : List ℕ) (j : ℕ) → j < length l → j < length m → take j l ≡ take j m → get_or l j 0 ≡ get_or m j 0 → take (suc j) l ≡ take (suc j) m
front_more l m j h h' e f = rw (take-suc l j 0 h, take-suc m j 0 h', e, f)

pub nine-got : (L k : ℕ) (s l : List ℕ) → length l ≡ 9 → 16 * L + (k + 9) ≤ length (words s) → get_or l 0 0 ≡ get_or (rest_of L s) (k + 0) 0 → get_or l 1 0 ≡ get_or (rest_of L s) (k + 1) 0 → get_or l 2 0 ≡ get_or (rest_of L s) (k + 2) 0 → get_or l 3 0 ≡ get_or (rest_of L s) (k + 3) 0 → get_or l 4 0 ≡ get_or (rest_of L s) (k + 4) 0 → get_or l 5 0 ≡ get_or (rest_of L s) (k + 5) 0 → get_or l 6 0 ≡ get_or (rest_of L s) (k + 6) 0 → get_or l 7 0 ≡ get_or (rest_of L s) (k + 7) 0 → get_or l 8 0 ≡ get_or (rest_of L s) (k + 8) 0 → take 9 l ≡ roots_at L s 9 k
unfolding roots_at
nine-got L k s l h r e0 e1 e2 e3 e4 e5 e6 e7 e8 =
    let u = long in
    front_more l m 8 (omega arith) (omega arith) (front_more l m 7 (omega arith) (omega arith) (front_more l m 6 (omega arith) (omega arith) (front_more l m 5 (omega arith) (omega arith) (front_more l m 4 (omega arith) (omega arith) (front_more l m 3 (omega arith) (omega arith) (front_more l m 2 (omega arith) (omega arith) (front_more l m 1 (omega arith) (omega arith) (front_more l m 0 (omega arith) (omega arith) refl (at 0 e0)) (at 1 e1)) (at 2 e2)) (at 3 e3)) (at 4 e4)) (at 5 e5)) (at 6 e6)) (at 7 e7)) (at 8 e8)
  where
    m : List ℕ
    m = drop k (rest_of L s)

    long : 9 ≤ length m
    long = simp (length-drop, length_rest) (omega arith)

    at : (j : ℕ) → get_or l j 0 ≡ get_or (rest_of L s) (k + j) 0 → get_or l j 0 ≡ get_or m j 0
    at j e = e ∙ sym (get_or-drop {A = ℕ} k (rest_of L s) j 0)

-- n of nine
pub some_of : (n : ℕ) (l m : List ℕ) → n ≤ 9 → take 9 l ≡ take 9 m → take n l ≡ take n m
some_of n l m h e = sym (take-take n 9 l h) ∙ ap (take n) e ∙ take-take n 9 m h

pub got-all : (L k n : ℕ) (s : List ℕ) (r : Roots) → r.n ≡ n → n ≤ 9 → take 9 r.at ≡ roots_at L s 9 k → RootsGot L k n s r
unfolding roots_at
got-all L k n s r e h f = record { count = e; is = rw e (some_of n r.at (drop k (rest_of L s)) h f) }

pub roots-none : (L k : ℕ) (s : List ℕ) → [] ≡ roots_at L s 0 k
unfolding roots_at
roots-none L k s = refl

pub put_step : (L k j v : ℕ) (s s' l : List ℕ) → length l ≡ 9 → j < 9 → 16 * L + (k + 9) ≤ length (words s) → roots_at L s j k ≡ take j l → Did L s s' (set_rest (k + j) v) → v ≡ get_or l j 0 → roots_at L s' (j + 1) k ≡ take (j + 1) l
unfolding roots_at
put_step L k j v s s' l h h' r e d g =
    roots-step (drop k (rest_of L s)) (drop k (rest_of L s')) l j v (simp (length-drop, length_rest) (omega arith)) (omega arith) e (ap (λ (m : Memory). drop k m.rest) d.is ∙ drop-set-add k (rest_of L s) j v) g

-- a row read
pub row-got : (L n i : ℕ) (s : List ℕ) (h : Held) → RootsGot L (20 * i) n s h.roots → h.top ≡ get_or (rest_of L s) (20 * i + 9) 0 → RowGot L n i s h
unfolding held_in row_of
row-got L n i s h g e = record { count = g.count; is = rw (g.is, e) }

-- nine handles written are n of them
pub put_some : (L k n : ℕ) (l s s' : List ℕ) → n ≤ 9 → RootsPut L k (record { n = 9; at = l }) s s' → roots_at L s' n k ≡ take n l
unfolding roots_at
put_some L k n l s s' h p = some_of n (drop k (rest_of L s')) l h p.is

-- a row written: nine handles, then the top
pub row_put : (L i : ℕ) (h : Held) (s s' s'' : List ℕ) → Sized h.roots → RestRoom L (20 * i + 20) s → RootsPut L (20 * i) (record { n = 9; at = h.roots.at }) s s' → Did L s' s'' (set_rest (20 * i + 9) h.top) → RowPut L i h s s''
unfolding held_in row_of
row_put L i h s s' s'' z r p d =
    let o : RestOnly L (20 * i + 9) (20 * i + 10) s' s'' = only-word d (omega arith) (omega arith) in
    let t : get_or (rest_of L s'') (20 * i + 9) 0 ≡ h.top = ap (λ (m : Memory). get_or m.rest (20 * i + 9) 0) d.is ∙ get_or-set_same (rest_of L s') (20 * i + 9) h.top 0 (rw (length_rest L s', p.only.long) (omega arith)) in
    record {
      is = rw (roots-before o h.roots.n (20 * i) (omega arith), put_some L (20 * i) h.roots.n h.roots.at s s' z.1 p, t, stack-stays o, stack-stays p.only);
      only = both-only (only_wider p.only (omega arith) (omega arith)) (only_wider o (omega arith) (omega arith));
    }
