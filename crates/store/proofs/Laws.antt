-- Laws of reading: a node's words, what is seen of it, its arguments, its forwards, and the words of the other regions.
-- Assumes nothing.
use Prim.Native.Nat.{ℕ, zero, suc, ◌+◌, ◌-◌, ◌*◌, ◌/◌, ◌%◌, ◌≤◌, ◌<◌}
use mathlib.Core.Path.{◌≡◌, refl, ap, sym, ◌∙◌}
use mathlib.Core.Logic.{◌⊎◌, inl, inr}
use mathlib.Core.List.{List, [], ◌∷◌}
use lib.ListN.{length, get_or, take, drop, length-take, length-drop, length-map, get_or-map, get_or-eq_default}
use lib.Seq.{get_or-take, get_or-drop}
use native.Mathlib.Omega.{arith}
use native.Mathlib.Nat.{add-zero, add_assoc}
use native.Mathlib.Numerals.{sub-one}
use lib.Dec.{lit<}
use Rattle.book.specs.Syntax.{con, fun}
use Rattle.mem.specs.Words.{words, rows}
use Rattle.mem.proofs.Laws.{row_get, length-rows}
use Rattle.heap.specs.Graph.{Graph, Node, cell, var, fwd, node, deref, follow, args}
use Rattle.store.specs.Rows.{of_kind, node_of, seen}
unfoldable pub use Rattle.store.specs.Rows.{count_of}
use Rattle.store.specs.Regions.{graph_of, marks_of, links_of, list_of, places_of, frames_of, rest_of}
use Rattle.book.specs.declared.ConNo.{ConNo}
use Rattle.book.specs.declared.FunNo.{FunNo}
use Rattle.store.specs.declared.NodeNo.{NodeNo}
use Rattle.store.specs.declared.Seen.{Seen}
use Rattle.store.specs.declared.Seen.TheVariants.{Var, Con, Call, Fwd}

pub length-graph : (L : ℕ) (s : List ℕ) → length (graph_of L s) ≡ L
unfolding graph_of
length-graph L s = length-map (rows 10 L (words s)) node_of ∙ length-rows 10 L (words s)

-- the row of node i
abbrev pub row : ℕ → List ℕ → List ℕ
row i s = take 10 (drop (10 * i) (words s))

row_word : (i f : ℕ) (s : List ℕ) → f < 10 → get_or (row i s) f 0 ≡ get_or (words s) (10 * i + f) 0
row_word i f s h = rw (get_or-take {A = ℕ} 10 (drop (10 * i) (words s)) f 0 h, get_or-drop)

pub node_row : (L i : ℕ) (s : List ℕ) → i < L → node (graph_of L s) i ≡ node_of (row i s)
unfolding graph_of node_of of_kind
node_row L i s h = get_or-map node_of (rows 10 L (words s)) i [] ∙ ap node_of (row_get 10 L i (words s) h)

abbrev args_at : ℕ → List ℕ → List ℕ
args_at i s = take (get_or (words s) (10 * i + 1) 0 % 9) (drop 2 (row i s))

-- the node by its words
node-words : (L i : ℕ) (s : List ℕ) → i < L
    → node (graph_of L s) i ≡ of_kind (get_or (words s) (10 * i) 0 / 256) (get_or (words s) (10 * i) 0 % 256) (args_at i s) (get_or (words s) (10 * i + 2) 0)
unfolding node_of
node-words L i s h = node_row L i s h ∙ rw (row_word i 0 s (lit< tt), row_word i 1 s (lit< tt), row_word i 2 s (lit< tt), add-zero)

length-args : (L i : ℕ) (s : List ℕ) → i < L → 16 * L ≤ length (words s) → length (args_at i s) ≡ get_or (words s) (10 * i + 1) 0 % 9
length-args L i s h room = simp (length-take, length-drop) (omega arith)

-- what is seen, by the words
unfoldable pub seen_of : ℕ → ℕ → ℕ → ℕ → Seen
seen_of zero y z t = Var
seen_of (suc zero) y z t = Con (record { 0 = y }) z
seen_of (suc (suc zero)) y z t = Call (record { 0 = y }) z
seen_of (suc (suc (suc k))) y z t = Fwd (record { 0 = t })

look-kind : (k y : ℕ) (hs : List ℕ) (t : ℕ) → seen (of_kind k y hs t) ≡ seen_of k y (length hs) t
unfolding seen of_kind seen_of
look-kind zero y hs t = refl
look-kind (suc zero) y hs t = refl
look-kind (suc (suc zero)) y hs t = refl
look-kind (suc (suc (suc k))) y hs t = refl

pub look-words : (L i h : ℕ) (s : List ℕ) → i < L → 16 * L ≤ length (words s) → h ≡ get_or (words s) (10 * i) 0
    → seen (node (graph_of L s) i) ≡ seen_of (h / 256) (h % 256) (get_or (words s) (10 * i + 1) 0 % 9) (get_or (words s) (10 * i + 2) 0)
look-words L i h s lt room e = rw (node-words L i s lt, look-kind, length-args L i s lt room, e)

pub seen-rest : (k y z t : ℕ) → (k ≡ 0 → ⊥) → (k ≡ 1 → ⊥) → (k ≡ 2 → ⊥) → seen_of k y z t ≡ Fwd (record { 0 = t })
unfolding seen_of
seen-rest zero y z t a b c = absurd (a refl)
seen-rest (suc zero) y z t a b c = absurd (b refl)
seen-rest (suc (suc zero)) y z t a b c = absurd (c refl)
seen-rest (suc (suc (suc k))) y z t a b c = refl

-- what is seen, by the head word's two bytes and the next two words
module _ (L i h : ℕ) (bytes s : List ℕ) (lt : i < L) (room : 16 * L ≤ length (words s)) (e : h ≡ get_or (words s) (10 * i) 0) (small : h < 65536) (two : bytes ≡ h % 256 ∷ h / 256 % 256 ∷ []) where
  by_bytes : seen_of (get_or bytes 1 0) (get_or bytes 0 0) (get_or (words s) (10 * i + 1) 0 % 9) (get_or (words s) (10 * i + 2) 0) ≡ seen (node (graph_of L s) i)
  by_bytes = let high : h / 256 % 256 ≡ h / 256 = omega arith in rw (two, high) (sym (look-words L i h s lt room e))

  pub look-var : get_or bytes 1 0 ≡ 0 → Var ≡ seen (node (graph_of L s) i)
  unfolding seen_of
  look-var q = rw q at by_bytes

  pub look-con : (n w : ℕ) → get_or bytes 1 0 ≡ 1 → w ≡ get_or (words s) (10 * i + 1) 0 → n ≡ w % 9 → Con (record { 0 = get_or bytes 0 0 }) n ≡ seen (node (graph_of L s) i)
  unfolding seen_of
  look-con n w q r z = rw (z, r) (rw q at by_bytes)

  pub look-call : (n w : ℕ) → get_or bytes 1 0 ≡ 2 → w ≡ get_or (words s) (10 * i + 1) 0 → n ≡ w % 9 → Call (record { 0 = get_or bytes 0 0 }) n ≡ seen (node (graph_of L s) i)
  unfolding seen_of
  look-call n w q r z = rw (z, r) (rw q at by_bytes)

  pub look-fwd : (w : ℕ) → (get_or bytes 1 0 ≡ 0 → ⊥) → (get_or bytes 1 0 ≡ 1 → ⊥) → (get_or bytes 1 0 ≡ 2 → ⊥) → w ≡ get_or (words s) (10 * i + 2) 0 → Fwd (record { 0 = w }) ≡ seen (node (graph_of L s) i)
  look-fwd w a b c r = rw r (sym (seen-rest _ _ _ _ a b c) ∙ by_bytes)

-- what is seen says what the node is
pub seen-fwd : (x : Node) (t : NodeNo) → Fwd t ≡ seen x → x ≡ fwd t.0
unfolding seen
seen-fwd var t e = let z : ◌≡◌ {A = ℕ} 0 1 = cc in absurd (omega arith)
seen-fwd (cell (con c) hs) t e = let z : ◌≡◌ {A = ℕ} 0 1 = cc in absurd (omega arith)
seen-fwd (cell (fun f) hs) t e = let z : ◌≡◌ {A = ℕ} 0 1 = cc in absurd (omega arith)
seen-fwd (fwd h) t e = cc

pub seen-var : (x : Node) → Var ≡ seen x → x ≡ var
unfolding seen args
seen-var var e = refl
seen-var (cell (con y) hs) e = let z : ◌≡◌ {A = ℕ} 0 1 = cc in absurd (omega arith)
seen-var (cell (fun y) hs) e = let z : ◌≡◌ {A = ℕ} 0 1 = cc in absurd (omega arith)
seen-var (fwd h) e = let z : ◌≡◌ {A = ℕ} 0 1 = cc in absurd (omega arith)

pub seen-con : (x : Node) (c : ConNo) (k : ℕ) → Con c k ≡ seen x → (x ≡ cell (con c.0) (args x)) × (length (args x) ≡ k)
unfolding seen args
seen-con var c k e = let z : ◌≡◌ {A = ℕ} 0 1 = cc in absurd (omega arith)
seen-con (cell (con y) hs) c k e = (cc, cc)
seen-con (cell (fun y) hs) c k e = let z : ◌≡◌ {A = ℕ} 0 1 = cc in absurd (omega arith)
seen-con (fwd h) c k e = let z : ◌≡◌ {A = ℕ} 0 1 = cc in absurd (omega arith)

pub seen-call : (x : Node) (f : FunNo) (k : ℕ) → Call f k ≡ seen x → (x ≡ cell (fun f.0) (args x)) × (length (args x) ≡ k)
unfolding seen args
seen-call var f k e = let z : ◌≡◌ {A = ℕ} 0 1 = cc in absurd (omega arith)
seen-call (cell (con y) hs) f k e = let z : ◌≡◌ {A = ℕ} 0 1 = cc in absurd (omega arith)
seen-call (cell (fun y) hs) f k e = (cc, cc)
seen-call (fwd h) f k e = let z : ◌≡◌ {A = ℕ} 0 1 = cc in absurd (omega arith)

-- a forward is followed, another node ends it, and so does a number past the graph
pub deref-go : (left : ℕ) (g : Graph) (h t : ℕ) → 0 < left → node g h ≡ fwd t → deref left g h ≡ deref (left - 1) g t
unfolding deref
deref-go zero g h t p e = absurd (omega arith)
deref-go (suc l) g h t p e = rw (e, deref, sub-one)

stays : (l : ℕ) (g : Graph) (h : ℕ) (x : Node) → node g h ≡ x → ((t : NodeNo) → seen x ≡ Fwd t → ⊥) → deref (suc l) g h ≡ h
unfolding seen deref
stays l g h var e o = rw (e, deref)
stays l g h (cell (con c) hs) e o = rw (e, deref)
stays l g h (cell (fun f) hs) e o = rw (e, deref)
stays l g h (fwd t) e o = absurd (o _ refl)

pub deref-stop : (left : ℕ) (g : Graph) (h : ℕ) (k : Seen) → 0 < left → k ≡ seen (node g h) → ((t : NodeNo) → k ≡ Fwd t → ⊥) → deref left g h ≡ h
deref-stop zero g h k p e o = absurd (omega arith)
deref-stop (suc l) g h k p e o = stays l g h (node g h) refl (λ t q. o t (e ∙ q))

pub deref-end : (left : ℕ) (g : Graph) (h : ℕ) → left ≤ 0 → deref left g h ≡ h
unfolding deref
deref-end zero g h p = refl
deref-end (suc l) g h p = absurd (omega arith)

pub deref-past : (left : ℕ) (g : Graph) (h : ℕ) → length g ≤ h → deref left g h ≡ h
unfolding deref
deref-past zero g h p = refl
deref-past (suc l) g h p = rw (get_or-eq_default g var p, deref)

pub follow-is : (L : ℕ) (s : List ℕ) (h : ℕ) → follow (graph_of L s) h ≡ deref L (graph_of L s) h
unfolding follow
follow-is L s h = rw (length-graph L s)

-- an argument is a word of the row
pub args-kind : (k y : ℕ) (hs : List ℕ) (t j : ℕ) → j < length (args (of_kind k y hs t)) → (args (of_kind k y hs t) ≡ hs) × (j < length hs)
unfolding args of_kind
args-kind zero y hs t j h = absurd (omega arith)
args-kind (suc zero) y hs t j h = (refl, h)
args-kind (suc (suc zero)) y hs t j h = (refl, h)
args-kind (suc (suc (suc k))) y hs t j h = absurd (omega arith)

pub arg-word : (L i j : ℕ) (s : List ℕ) → i < L → 16 * L ≤ length (words s) → j < length (args (node (graph_of L s) i))
    → (get_or (words s) (10 * i + 2 + j) 0 ≡ get_or (args (node (graph_of L s) i)) j 0) × (j < 8)
arg-word L i j s h room jh =
    let e = node-words L i s h in
    let k = args-kind _ _ _ _ j (rw e at jh) in
    let lt : j < get_or (words s) (10 * i + 1) 0 % 9 = rw (length-args L i s h room) at k.1 in
    (sym (rw (e, k.0, get_or-take {A = ℕ} (get_or (words s) (10 * i + 1) 0 % 9) (drop 2 (row i s)) j 0 lt, get_or-drop, row_word i (2 + j) s (omega arith), ← add_assoc)), omega arith)

-- how many arguments what is seen has: those of the node
pub count-seen : (x : Node) → count_of (seen x) ≡ length (args x)
unfolding count_of seen args
count-seen var = refl
count-seen (cell (con c) hs) = refl
count-seen (cell (fun f) hs) = refl
count-seen (fwd t) = refl

-- by what was looked at
pub count-looked : (x : Node) (k : Seen) (n : ℕ) → k ≡ seen x → n ≡ count_of k → n ≡ length (args x)
count-looked x k n e q = q ∙ ap count_of e ∙ count-seen x

pub count-cell : (k : Seen) (n : ℕ) → ((c : ConNo) × (k ≡ Con c n)) ⊎ ((f : FunNo) × (k ≡ Call f n)) → n ≡ count_of k
unfolding count_of
count-cell k n (inl (c, e)) = rw e
count-cell k n (inr (f, e)) = rw e

pub count-other : (k : Seen) → ((c : ConNo) (n : ℕ) → k ≡ Con c n → ⊥) → ((f : FunNo) (n : ℕ) → k ≡ Call f n → ⊥) → 0 ≡ count_of k
unfolding count_of
count-other Var a b = refl
count-other (Con c n) a b = absurd (a c n refl)
count-other (Call f n) a b = absurd (b f n refl)
count-other (Fwd t) a b = refl

-- a word of a region
part-word : (l : List ℕ) (n a k : ℕ) → k < n → get_or l (a + k) 0 ≡ get_or (take n (drop a l)) k 0
part-word l n a k h = sym (rw (get_or-take {A = ℕ} n (drop a l) k 0 h, get_or-drop))

pub mark-word : (L k r : ℕ) (s : List ℕ) → k < L → r ≡ get_or (words s) (10 * L + k) 0 → r ≡ get_or (marks_of L s) k 0
unfolding marks_of
mark-word L k r s h e = e ∙ part-word (words s) L (10 * L) k h

pub link-word : (L k r : ℕ) (s : List ℕ) → k < L → r ≡ get_or (words s) (11 * L + k) 0 → r ≡ get_or (links_of L s) k 0
unfolding links_of
link-word L k r s h e = e ∙ part-word (words s) L (11 * L) k h

pub list-word : (L k r : ℕ) (s : List ℕ) → k < L → r ≡ get_or (words s) (12 * L + k) 0 → r ≡ get_or (list_of L s) k 0
unfolding list_of
list-word L k r s h e = e ∙ part-word (words s) L (12 * L) k h

pub place-word : (L k r : ℕ) (s : List ℕ) → k < L → r ≡ get_or (words s) (13 * L + k) 0 → r ≡ get_or (places_of L s) k 0
unfolding places_of
place-word L k r s h e = e ∙ part-word (words s) L (13 * L) k h

pub frame-words : (L d n i : ℕ) (s : List ℕ) → d < L → n ≡ get_or (words s) (14 * L + 2 * d) 0 → i ≡ get_or (words s) (14 * L + 2 * d + 1) 0 → (n ≡ get_or (frames_of L s) (2 * d) 0) × (i ≡ get_or (frames_of L s) (2 * d + 1) 0)
unfolding frames_of
frame-words L d n i s h e e' = (
  e ∙ part-word (words s) (2 * L) (14 * L) (2 * d) (omega arith),
  e' ∙ ap (λ (k : ℕ). get_or (words s) k 0) (add_assoc (14 * L) (2 * d) 1) ∙ part-word (words s) (2 * L) (14 * L) (2 * d + 1) (omega arith),
)

pub rest-word : (L k r : ℕ) (s : List ℕ) → r ≡ get_or (words s) (16 * L + k) 0 → r ≡ get_or (rest_of L s) k 0
unfolding rest_of
rest-word L k r s e = e ∙ sym (get_or-drop {A = ℕ} (16 * L) (words s) k 0)
