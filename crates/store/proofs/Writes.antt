-- Laws of writing: what a word, or a row, written does to the memory; writes one behind the other; frames; a node made.
-- Assumes nothing.
use Prim.Native.Nat.{ℕ, zero, suc, ◌+◌, ◌-◌, ◌*◌, ◌/◌, ◌%◌, ◌≤◌, ◌<◌}
use mathlib.Core.Path.{◌≡◌, refl, ap, sym, ◌∙◌, subst}
use mathlib.Core.List.{List, [], ◌∷◌, ◌++◌, map, append_assoc}
use mathlib.Core.Option.{none, some}
use lib.ListN.{length, get_or, take, drop, set, length-set, length-take, length-drop}
use lib.Seq.{paste, paste-zero, paste-suc, length-paste, take-set-lt, drop-set-add, get_or-set_same, get_or-set_other, get_or-take, get_or-drop, take_at, drop_at, take-take, take-append-le, drop-drop, drop-paste, length-take-le}
use native.Mathlib.Omega.{arith}
use native.Mathlib.Nat.{add-zero, add_assoc}
use native.Mathlib.Numerals.{add-one}
use lib.Dec.{lit<}
use Rattle.book.specs.Syntax.{Symbol}
use Rattle.mem.specs.Words.{words, rows, Wrote, Only}
use Rattle.mem.proofs.Laws.{drop-take, only_wrote, only_then, drop-kept, part-before, part-behind, rows-kept, row-only, part_in}
use Rattle.heap.specs.Graph.{Node, cell, var, fwd}
use Rattle.heap.specs.Build.{up_from}
use Rattle.heap.specs.Store.{taken, take1}
use Rattle.store.specs.Rows.{of_kind, node_of, symbol_of, HeadIs, filled}
use Rattle.book.specs.declared.ConNo.{ConNo}
use Rattle.book.specs.declared.FunNo.{FunNo}
use Rattle.store.specs.declared.Head.{Head}
use Rattle.store.specs.declared.Head.TheVariants.{Makes, Calls}
use Rattle.store.specs.Regions.{graph_of, marks_of, links_of, list_of, places_of, frames_of, rest_of, Memory, Did, set_node, set_mark, set_link, set_list, set_place, set_next, set_frame, set_rest, with_frames, Frame, stack, store_of}

memory-is : {m m' : Memory} → m.graph ≡ m'.graph → m.marks ≡ m'.marks → m.links ≡ m'.links → m.list ≡ m'.list → m.places ≡ m'.places → m.frames ≡ m'.frames → m.rest ≡ m'.rest → m ≡ m'
memory-is a b c d e f g = λ i. record { graph = a i; marks = b i; links = c i; list = d i; places = e i; frames = f i; rest = g i }

-- writes one behind the other
pub did_then : {L : ℕ} {s s' s'' : List ℕ} {f g : Memory → Memory} → Did L s s' f → Did L s' s'' g → Did L s s'' (λ m. g (f m))
did_then {g = g} d e = record { is = e.is ∙ ap g d.is; long = e.long ∙ d.long }

map-set : {A B : Type 0} (f : A → B) (l : List A) (i : ℕ) (a : A) → map f (set l i a) ≡ set (map f l) i (f a)
map-set f [] i a = refl
map-set f (x ∷ l) zero a = refl
map-set f (x ∷ l) (suc i) a = ap (λ l'. f x ∷ l') (map-set f l i a)

module _ (L : ℕ) (s s' : List ℕ) where
  -- row n written
  pub did-node : (n : ℕ) (x : Node) → n < L → Only (10 * n) (10 * n + 10) (words s) (words s') → node_of (take 10 (drop (10 * n) (words s'))) ≡ x → Did L s s' (set_node n x)
  unfolding graph_of marks_of links_of list_of places_of frames_of rest_of
  did-node n x h o e = record {
    is = memory-is
        (ap (map node_of) (row-only 10 L n (words s) (words s') h o) ∙ map-set node_of (rows 10 L (words s)) n (take 10 (drop (10 * n) (words s'))) ∙ ap (set (map node_of (rows 10 L (words s))) n) e)
        (part-behind o (10 * L) L (omega arith))
        (part-behind o (11 * L) L (omega arith))
        (part-behind o (12 * L) L (omega arith))
        (part-behind o (13 * L) L (omega arith))
        (part-behind o (14 * L) (2 * L) (omega arith))
        (drop-kept o (16 * L) (omega arith));
    long = o.long;
  }

  graph-kept : {a b : ℕ} → Only a b (words s) (words s') → 10 * L ≤ a → graph_of L s' ≡ graph_of L s
  unfolding graph_of
  graph-kept o h = ap (map node_of) (rows-kept 10 L o h)

  -- a word of another region written
  pub did-mark : (n v : ℕ) → n < L → Wrote (words s) (words s') (10 * L + n) v → Did L s s' (set_mark n v)
  unfolding marks_of links_of list_of places_of frames_of rest_of
  did-mark n v h w =
      let o : Only (10 * L) (11 * L) (words s) (words s') = only_wrote (omega arith) (omega arith) w in
      record {
        is = memory-is (graph-kept o (omega arith)) (rw w.is (part_in (10 * L) L n v (words s) h)) (part-behind o (11 * L) L (omega arith)) (part-behind o (12 * L) L (omega arith)) (part-behind o (13 * L) L (omega arith)) (part-behind o (14 * L) (2 * L) (omega arith)) (drop-kept o (16 * L) (omega arith));
        long = w.long;
      }

  pub did-link : (n v : ℕ) → n < L → Wrote (words s) (words s') (11 * L + n) v → Did L s s' (set_link n v)
  unfolding marks_of links_of list_of places_of frames_of rest_of
  did-link n v h w =
      let o : Only (11 * L) (12 * L) (words s) (words s') = only_wrote (omega arith) (omega arith) w in
      record {
        is = memory-is (graph-kept o (omega arith)) (part-before o (10 * L) L (omega arith)) (rw w.is (part_in (11 * L) L n v (words s) h)) (part-behind o (12 * L) L (omega arith)) (part-behind o (13 * L) L (omega arith)) (part-behind o (14 * L) (2 * L) (omega arith)) (drop-kept o (16 * L) (omega arith));
        long = w.long;
      }

  pub did-list : (k v : ℕ) → k < L → Wrote (words s) (words s') (12 * L + k) v → Did L s s' (set_list k v)
  unfolding marks_of links_of list_of places_of frames_of rest_of
  did-list k v h w =
      let o : Only (12 * L) (13 * L) (words s) (words s') = only_wrote (omega arith) (omega arith) w in
      record {
        is = memory-is (graph-kept o (omega arith)) (part-before o (10 * L) L (omega arith)) (part-before o (11 * L) L (omega arith)) (rw w.is (part_in (12 * L) L k v (words s) h)) (part-behind o (13 * L) L (omega arith)) (part-behind o (14 * L) (2 * L) (omega arith)) (drop-kept o (16 * L) (omega arith));
        long = w.long;
      }

  pub did-place : (n v : ℕ) → n < L → Wrote (words s) (words s') (13 * L + n) v → Did L s s' (set_place n v)
  unfolding marks_of links_of list_of places_of frames_of rest_of
  did-place n v h w =
      let o : Only (13 * L) (14 * L) (words s) (words s') = only_wrote (omega arith) (omega arith) w in
      record {
        is = memory-is (graph-kept o (omega arith)) (part-before o (10 * L) L (omega arith)) (part-before o (11 * L) L (omega arith)) (part-before o (12 * L) L (omega arith)) (rw w.is (part_in (13 * L) L n v (words s) h)) (part-behind o (14 * L) (2 * L) (omega arith)) (drop-kept o (16 * L) (omega arith));
        long = w.long;
      }

  frame-word : (k v : ℕ) → k < 2 * L → Wrote (words s) (words s') (14 * L + k) v → Did L s s' (λ m. with_frames (set m.frames k v) m)
  unfolding marks_of links_of list_of places_of frames_of rest_of
  frame-word k v h w =
      let o : Only (14 * L) (16 * L) (words s) (words s') = only_wrote (omega arith) (omega arith) w in
      record {
        is = memory-is (graph-kept o (omega arith)) (part-before o (10 * L) L (omega arith)) (part-before o (11 * L) L (omega arith)) (part-before o (12 * L) L (omega arith)) (part-before o (13 * L) L (omega arith)) (rw w.is (part_in (14 * L) (2 * L) k v (words s) h)) (drop-kept o (16 * L) (omega arith));
        long = w.long;
      }

  pub did-rest : (k v : ℕ) → Wrote (words s) (words s') (16 * L + k) v → Did L s s' (set_rest k v)
  unfolding marks_of links_of list_of places_of frames_of rest_of
  did-rest k v w =
      let o : Only (16 * L) (suc (16 * L + k)) (words s) (words s') = only_wrote (omega arith) (omega arith) w in
      record {
        is = memory-is (graph-kept o (omega arith)) (part-before o (10 * L) L (omega arith)) (part-before o (11 * L) L (omega arith)) (part-before o (12 * L) L (omega arith)) (part-before o (13 * L) L (omega arith)) (part-before o (14 * L) (2 * L) (omega arith)) (rw w.is (drop-set-add (16 * L) (words s) k v));
        long = w.long;
      }

pub did-next : (L d v : ℕ) (s s' : List ℕ) → d < L → Wrote (words s) (words s') (14 * L + 2 * d + 1) v → Did L s s' (set_next d v)
did-next L d v s s' h w =
    frame-word L s s' (2 * d + 1) v (omega arith) (subst (λ (k : ℕ). Wrote (words s) (words s') k v) (add_assoc (14 * L) (2 * d) 1) w)

pub did-frame : (L d n v : ℕ) (s s' s'' : List ℕ) → d < L → Wrote (words s) (words s') (14 * L + 2 * d) n → Wrote (words s') (words s'') (14 * L + 2 * d + 1) v → Did L s s'' (set_frame d n v)
did-frame L d n v s s' s'' h w w' =
    did_then (frame-word L s s' (2 * d) n (omega arith) w) (did-next L d v s' s'' h w')

-- row i of the words, and a write in it
pub row_write : (i f v : ℕ) (l : List ℕ) → f < 10 → take 10 (drop (10 * i) (set l (10 * i + f) v)) ≡ set (take 10 (drop (10 * i) l)) f v
row_write i f v l h = rw (drop-set-add, take-set-lt 10 (drop (10 * i) l) f v h)

pub length-row : (L i : ℕ) (l : List ℕ) → i < L → 16 * L ≤ length l → length (take 10 (drop (10 * i) l)) ≡ 10
length-row L i l h room = simp (length-take, length-drop) (omega arith)

var-row : (r : List ℕ) → 1 ≤ length r → node_of (set r 0 0) ≡ var
unfolding node_of of_kind
var-row [] h = absurd (omega arith)
var-row (a ∷ r) h = refl

fwd-row : (r : List ℕ) (t : ℕ) → 3 ≤ length r → node_of (set (set r 0 768) 2 t) ≡ fwd t
unfolding node_of of_kind
fwd-row [] t h = absurd (omega arith)
fwd-row (a ∷ []) t h = absurd (omega arith)
fwd-row (a ∷ b ∷ []) t h = absurd (omega arith)
fwd-row (a ∷ b ∷ c ∷ r) t h = refl

pub did-var : (L n : ℕ) (s s' : List ℕ) → n < L → 16 * L ≤ length (words s) → Wrote (words s) (words s') (10 * n) 0 → Did L s s' (set_node n var)
did-var L n s s' h room w =
    let e : words s' ≡ set (words s) (10 * n + 0) 0 = rw add-zero w.is in
    did-node L s s' n var h (only_wrote (omega arith) (omega arith) w)
    (rw (e, row_write n 0 0 (words s) (lit< tt)) (var-row (take 10 (drop (10 * n) (words s))) (omega (arith, length-row L n (words s) h room))))

pub did-fwd : (L n t : ℕ) (s s' s'' : List ℕ) → n < L → 16 * L ≤ length (words s) → Wrote (words s) (words s') (10 * n) 768 → Wrote (words s') (words s'') (10 * n + 2) t → Did L s s'' (set_node n (fwd t))
did-fwd L n t s s' s'' h room w w' =
    let e : words s' ≡ set (words s) (10 * n + 0) 768 = rw add-zero w.is in
    did-node L s s'' n (fwd t) h (only_then (only_wrote (omega arith) (omega arith) w) (only_wrote (omega arith) (omega arith) w'))
    (rw (w'.is, row_write n 2 t (words s') (lit< tt), e, row_write n 0 768 (words s) (lit< tt)) (fwd-row (take 10 (drop (10 * n) (words s))) t (omega (arith, length-row L n (words s) h room))))

-- one more argument stored
pub pasted : (l l' l'' : List ℕ) (k : ℕ) (xs : List ℕ) (j : ℕ) → k + j < length l → j < length xs → l' ≡ filled l k xs j → l'' ≡ set l' (k + j) (get_or xs j 0) → l'' ≡ filled l k xs (j + 1)
unfolding filled
pasted l l' l'' k xs j h h' e e' = rw (e', e, add-one) (paste-suc l k xs j 0 h h')

pub filled_zero : (l : List ℕ) (k : ℕ) (xs : List ℕ) → l ≡ filled l k xs 0
unfolding filled
filled_zero l k xs = paste-zero l k xs

-- pasted from k on: what lies before, and what begins there
paste-take : (l : List ℕ) (k : ℕ) (xs : List ℕ) (n j : ℕ) → j ≤ k → k ≤ length l → take j (paste l k xs n) ≡ take j l
paste-take l k xs n j h hl =
    rw (append_assoc (take k l) (take n xs) (drop (k + n) l), take-append-le j (take k l) (take n xs ++ drop (k + n) l) (omega (arith, length-take-le k l hl)), take-take j k l h)

paste-get : (l : List ℕ) (k : ℕ) (xs : List ℕ) (n j : ℕ) → j < k → k ≤ length l → get_or (paste l k xs n) j 0 ≡ get_or l j 0
paste-get l k xs n j h hl =
    sym (get_or-take {A = ℕ} k (paste l k xs n) j 0 h) ∙ ap (λ (t : List ℕ). get_or t j 0) (paste-take l k xs n k (omega arith) hl) ∙ get_or-take {A = ℕ} k l j 0 h

paste-args : (l : List ℕ) (k : ℕ) (xs : List ℕ) (n : ℕ) → k ≤ length l → n ≤ length xs → n ≤ 8 → take n (take 8 (drop k (paste l k xs n))) ≡ take n xs
paste-args l k xs n hl hx h =
    rw (take-take {A = ℕ} n 8 (drop k (take k l ++ take n xs ++ drop (k + n) l)) h, append_assoc (take k l) (take n xs) (drop (k + n) l), drop_at (take k l) (take n xs ++ drop (k + n) l) k (length-take-le k l hl), take_at (take n xs) (drop (k + n) l) n (length-take-le n xs hx))

only-paste : (a b k n : ℕ) (l l' xs : List ℕ) → a ≤ k → k + n ≤ b → b ≤ length l → n ≤ length xs → l' ≡ paste l k xs n → Only a b l l'
only-paste a b k n l l' xs h h' hl hx e =
    let d : b ≡ k + n + (b - (k + n)) = omega arith in
    record {
      before = rw e (paste-take l k xs n a h (omega arith));
      behind = rw e
          (ap (λ (i : ℕ). drop i (paste l k xs n)) d
          ∙ sym (drop-drop (b - (k + n)) (k + n) (paste l k xs n))
          ∙ ap (drop (b - (k + n))) (drop-paste l k xs n (omega arith) hx)
          ∙ drop-drop (b - (k + n)) (k + n) l
          ∙ ap (λ (i : ℕ). drop i l) (sym d));
      long = rw e (length-paste l k xs n (omega arith) hx);
    }

-- a cell's row written: head, count, arguments
pub did-cell : (L n h c : ℕ) (y : Symbol) (xs s s1 s2 s3 : List ℕ) → n < L → 16 * L ≤ length (words s) → c ≤ 8 → length xs ≡ 8 → HeadIs h y
    → Wrote (words s) (words s1) (10 * n) h → Wrote (words s1) (words s2) (10 * n + 1) c → words s3 ≡ filled (words s2) (10 * n + 2) xs c
    → Did L s s3 (set_node n (cell y (take c xs)))
unfolding node_of filled
did-cell L n h c y xs s s1 s2 s3 lt room small long hd w1 w2 e =
    let l1 : length (words s1) ≡ length (words s) = w1.long in
    let l2 : length (words s2) ≡ length (words s) = w2.long ∙ l1 in
    let o1 : Only (10 * n) (10 * n + 10) (words s) (words s1) = only_wrote (omega arith) (omega arith) w1 in
    let o2 : Only (10 * n) (10 * n + 10) (words s1) (words s2) = only_wrote (omega arith) (omega arith) w2 in
    let o3 : Only (10 * n) (10 * n + 10) (words s2) (words s3) = only-paste (10 * n) (10 * n + 10) (10 * n + 2) c (words s2) (words s3) xs (omega arith) (omega arith) (omega arith) (omega arith) e in
    let word : (f : ℕ) → f < 2 → get_or (take 10 (drop (10 * n) (words s3))) f 0 ≡ get_or (words s2) (10 * n + f) 0 =
    λ f hf. rw (get_or-take {A = ℕ} 10 (drop (10 * n) (words s3)) f 0 (omega arith), get_or-drop, e) (paste-get (words s2) (10 * n + 2) xs c (10 * n + f) (omega arith) (omega arith)) in
    let w0 : get_or (take 10 (drop (10 * n) (words s3))) 0 0 ≡ h =
    word 0 (lit< tt) ∙ rw (add-zero, w2.is, get_or-set_other {A = ℕ} (words s1) (10 * n + 1) (10 * n) c 0 (omega arith), w1.is) (get_or-set_same {A = ℕ} (words s) (10 * n) h 0 (omega arith)) in
    let w1' : get_or (take 10 (drop (10 * n) (words s3))) 1 0 ≡ c =
    word 1 (lit< tt) ∙ rw w2.is (get_or-set_same {A = ℕ} (words s1) (10 * n + 1) c 0 (omega arith)) in
    let tail : drop 2 (take 10 (drop (10 * n) (words s3))) ≡ take 8 (drop (10 * n + 2) (words s3)) =
    drop-take 2 8 (drop (10 * n) (words s3)) ∙ ap (take 8) (drop-drop 2 (10 * n) (words s3)) in
    let c9 : c % 9 ≡ c = omega arith in
    let given : take c (take 8 (drop (10 * n + 2) (words s3))) ≡ take c xs = rw e (paste-args (words s2) (10 * n + 2) xs c (omega arith) (omega arith) small) in
    did-node L s s3 n (cell y (take c xs)) lt (only_then o1 (only_then o2 o3))
    (rw (w0, w1', c9, tail, given) (hd.is (take c xs) _))

frame_is : {m n i j : ℕ} → m ≡ n → i ≡ j → ◌≡◌ {A = Frame} (record { node = m; next = i }) (record { node = n; next = j })
frame_is a b = λ i. record { node = a i; next = b i }

-- a word written above d frames changes none of them
pub stack-far : (d j v : ℕ) (l : List ℕ) → 2 * d ≤ j → stack d (set l j v) ≡ stack d l
unfolding stack
stack-far zero j v l h = refl
stack-far (suc d) j v l h =
    λ i. frame_is (get_or-set_other l j (2 * d) v 0 (omega arith)) (get_or-set_other l j (2 * d + 1) v 0 (omega arith)) i ∷ stack-far d j v l (omega arith) i

-- a frame put on top of d
pub stack_push : (d n i : ℕ) (l : List ℕ) → 2 * d + 1 < length l → stack (suc d) (set (set l (2 * d) n) (2 * d + 1) i) ≡ record { node = n; next = i } ∷ stack d l
unfolding stack
stack_push d n i l h =
    let l' : List ℕ = set l (2 * d) n in
    let a : get_or (set l' (2 * d + 1) i) (2 * d) 0 ≡ n = get_or-set_other l' (2 * d + 1) (2 * d) i 0 (omega arith) ∙ get_or-set_same l (2 * d) n 0 (omega arith) in
    let b : get_or (set l' (2 * d + 1) i) (2 * d + 1) 0 ≡ i = get_or-set_same l' (2 * d + 1) i 0 (simp length-set (omega arith)) in
    λ k. frame_is a b k ∷ (stack-far d (2 * d + 1) i l' (omega arith) ∙ stack-far d (2 * d) n l (omega arith)) k

-- the top frame goes on with another argument
pub stack-next : (d i : ℕ) (l : List ℕ) → 2 * d + 1 < length l → stack (suc d) (set l (2 * d + 1) i) ≡ record { node = get_or l (2 * d) 0; next = i } ∷ stack d l
unfolding stack
stack-next d i l h =
    λ k. frame_is (get_or-set_other l (2 * d + 1) (2 * d) i 0 (omega arith)) (get_or-set_same l (2 * d + 1) i 0 h) k ∷ stack-far d (2 * d + 1) i l (omega arith) k

pub length-frames : (L : ℕ) (s : List ℕ) → 16 * L ≤ length (words s) → length (frames_of L s) ≡ 2 * L
unfolding frames_of
length-frames L s h = simp (length-take, length-drop) (omega arith)

pub length-marks : (L : ℕ) (s : List ℕ) → 16 * L ≤ length (words s) → length (marks_of L s) ≡ L
unfolding marks_of
length-marks L s h = simp (length-take, length-drop) (omega arith)

pub length-links : (L : ℕ) (s : List ℕ) → 16 * L ≤ length (words s) → length (links_of L s) ≡ L
unfolding links_of
length-links L s h = simp (length-take, length-drop) (omega arith)

pub length-list : (L : ℕ) (s : List ℕ) → 16 * L ≤ length (words s) → length (list_of L s) ≡ L
unfolding list_of
length-list L s h = simp (length-take, length-drop) (omega arith)

pub length-places : (L : ℕ) (s : List ℕ) → 16 * L ≤ length (words s) → length (places_of L s) ≡ L
unfolding places_of
length-places L s h = simp (length-take, length-drop) (omega arith)

pub length_rest : (L : ℕ) (s : List ℕ) → length (rest_of L s) ≡ length (words s) - 16 * L
unfolding rest_of
length_rest L s = length-drop (16 * L) (words s)

-- a node made is the next free number taken; where all are made there is none
pub make-is : (L made : ℕ) (x : Node) (s s' : List ℕ) → made < L → Did L s s' (set_node made x) → take1 (store_of L made s) x ≡ some (store_of L (made + 1) s', made)
unfolding store_of take1 taken up_from
make-is L made x s s' h d =
    let e : L - made ≡ suc (L - (made + 1)) = omega arith in
    let f : made + 1 ≡ suc made = add-one made in
    let g : set (graph_of L s) made x ≡ graph_of L s' = sym (ap (λ (m : Memory). m.graph) d.is) in
    rw (e, g, f)

pub make-none : (L made : ℕ) (x : Node) (s : List ℕ) → L ≤ made → take1 (store_of L made s) x ≡ none
unfolding store_of take1 taken up_from
make-none L made x s h = let e : L - made ≡ 0 = omega arith in rw e

-- a cell's head word
head-kind : (k y h : ℕ) (hs : List ℕ) (t : ℕ) → h / 256 ≡ k → h % 256 ≡ y → of_kind (h / 256) (h % 256) hs t ≡ of_kind k y hs t
head-kind k y h hs t e e' = rw (e, e')

pub head-makes : (h : Head) (c : ConNo) (w : ℕ) → h ≡ Makes c → c.0 < 256 → w ≡ c.0 + 256 → HeadIs w (symbol_of h)
unfolding symbol_of of_kind
head-makes h c w e lt is = rw e (record { is = λ hs t. head-kind 1 c.0 w hs t (omega arith) (omega arith) })

pub head-calls : (h : Head) (f : FunNo) (w : ℕ) → h ≡ Calls f → f.0 < 256 → w ≡ f.0 + 512 → HeadIs w (symbol_of h)
unfolding symbol_of of_kind
head-calls h f w e lt is = rw e (record { is = λ hs t. head-kind 2 f.0 w hs t (omega arith) (omega arith) })
