-- Term by term: a term begun; the size so far; the bytes so far.
-- Here, in order: a term's size; the sizes of the terms; a term's bytes; a part lent on; the bytes of the terms.
-- Assumes nothing.
use Prim.Native.Nat.{ℕ, ◌+◌, ◌-◌, ◌≤◌, ◌<◌}
use native.Mathlib.Omega.{arith}
use native.Mathlib.Nat.{zero-add}
use mathlib.Core.Path.{◌≡◌, sym, ap, ◌∙◌}
use mathlib.Core.List.{List, [], ◌++◌, append-nil, append_assoc}
use lib.ListN.{length, get_or, take, drop, length-drop, length-append, length-take, drop_of_length-le}
use lib.Seq.{sets, sets-eq, take_all, drop-drop}
use Rattle.heap.specs.Graph.{Graph, write, write_each}
use Rattle.store.specs.Regions.{graph_of, frames_of, stack}
use Rattle.writer.specs.Walk.{Reads, Read, Stood, Kept, Turned, visited, weigh}
use Rattle.writer.specs.Owes.{after, tells, owes, dues, Counted}
use Rattle.writer.specs.Written.{over, End, ends, seen_of, Told, Writes}
use Rattle.writer.specs.declared.Turn.{Turn}
use Rattle.writer.proofs.Turning.{kept_then}
use Rattle.writer.proofs.Telling.{seen_same, seen_none, over-then, length_over}
use Rattle.writer.proofs.Counting.{begun, reads_at, each_more, each-done}
use Rattle.writer.proofs.Draining.{told-fits, told-on, told_at}

-- a term's size
module _ (L h : ℕ) (s s1 : List ℕ) (t : Turn) (R : Read (graph_of L s) h) (T : Turned L s s1 t (visited (graph_of L s) h (stack 0 (frames_of L s)))) where
  pub begun-stands : Stood (graph_of L s1) (stack t.depth (frames_of L s1))
  begun-stands = rw T.framed.kept.graph (begun L h s s1 t R T).stands

  pub begun-counted : (sum w room r : ℕ) → w ≡ weigh t.met → Counted room (sum + w + dues L (graph_of L s1) (stack t.depth (frames_of L s1))) r → Counted room (sum + length (write L (graph_of L s) [] h).1) r
  begun-counted sum w room r e C =
      let b = (begun L h s s1 t R T).counts in
      let q : sum + length (write L (graph_of L s) [] h).1 ≡ sum + w + dues L (graph_of L s) (stack t.depth (frames_of L s1)) = omega arith in
      rw (q, ← T.framed.kept.graph) C

-- the sizes of the terms
pub read-now : (L i : ℕ) (s0 s ks : List ℕ) → Kept L s0 s → i < length ks → Reads (graph_of L s0) ks → Read (graph_of L s) (get_or ks i 0)
read-now L i s0 s ks K h R = rw K.graph (reads_at ks i h R)

pub size-on : (L i sum room r X : ℕ) (s0 s ks : List ℕ) → Kept L s0 s → i < length ks → sum + length (write_each L (graph_of L s0) (drop i ks)) ≡ X
    → Counted room (sum + length (write L (graph_of L s) [] (get_or ks i 0)).1) r → (r ≤ X) × (r ≤ room → r + length (write_each L (graph_of L s0) (drop (i + 1) ks)) ≡ X)
size-on L i sum room r X s0 s ks K h e C =
    let g = graph_of L s0 in
    let C' : Counted room (sum + length (write L g [] (get_or ks i 0)).1) r = rw K.graph at C in
    let a : length (write_each L g (drop i ks)) ≡ length (write L g [] (get_or ks i 0)).1 + length (write_each L g (drop (i + 1) ks)) = ap length (each_more L g ks i h) ∙ length-append (write L g [] (get_or ks i 0)).1 (write_each L g (drop (i + 1) ks)) in
    let m = C'.most in
    (omega arith, λ p. (let x = C'.exact p in omega arith))

pub size-all : (L i sum X : ℕ) (g : Graph) (ks : List ℕ) → length ks ≤ i → sum + length (write_each L g (drop i ks)) ≡ X → sum ≡ X
size-all L i sum X g ks h e = let a = ap length (each-done L g ks i h) in omega arith

-- a term's bytes
module _ (L h seen : ℕ) (s s1 out : List ℕ) (t : Turn) (R : Read (graph_of L s) h) (T : Turned L s s1 t (visited (graph_of L s) h (stack 0 (frames_of L s)))) (fit : length (write L (graph_of L s) (seen_of L s seen) h).1 ≤ length out) where
  abbrev g : Graph
  g = graph_of L s

  abbrev whole : List ℕ × List ℕ
  whole = write L g (seen_of L s seen) h

  owed-now : whole ≡ after (tells (seen_of L s1 seen) t.met) (λ l. owes L g l (stack t.depth (frames_of L s1)))
  owed-now = rw (seen_same L seen s s1 T.framed.list) ((begun L h s s1 t R T).owed (seen_of L s seen))

  pub term_fits : 0 + weigh t.met ≤ length out
  term_fits = told-fits L g (seen_of L s1 seen) (stack t.depth (frames_of L s1)) t.met whole 0 (length out) owed-now (omega arith)

  module _ (s2 out2 : List ℕ) (v k : ℕ) (W : Told L s1 s2 out out2 0 (tells (seen_of L s1 seen) t.met) v k) where
    abbrev rest : List ℕ × List ℕ
    rest = owes L (graph_of L s2) (seen_of L s2 v) (stack t.depth (frames_of L s2))

    pub term-kept : Kept L s s2
    term-kept = kept_then T.framed.kept W.kept

    pub term_is : ends out2 k rest ≡ ends out 0 whole
    term_is = rw (W.frames, term-kept.graph) (told-on L g s1 s2 out out2 (seen_of L s1 seen) (stack t.depth (frames_of L s1)) t.met whole 0 v k owed-now W)

    pub term-stands : Stood (graph_of L s2) (stack t.depth (frames_of L s2))
    term-stands = rw (W.frames, term-kept.graph) (begun L h s s1 t R T).stands

    pub term-fit : k + length rest.1 ≤ length out2
    term-fit = let a = ap (λ (E : End). E.at) term_is in let b = (told_at L s1 s2 out out2 (seen_of L s1 seen) t.met 0 v k W).1 in omega arith

    pub term-writes : (s3 out3 : List ℕ) (v' k' : ℕ) → Writes L s2 s3 out2 out3 k rest v' k' → Writes L s s3 out out3 0 whole v' k'
    term-writes s3 out3 v' k' Z = record { is = Z.is ∙ term_is; table = Z.table; kept = kept_then term-kept Z.kept }

-- the part that is lent on from k, and what comes back
pub length-lent : (k : ℕ) (l : List ℕ) → length (take (length l - k) (drop k l)) ≡ length l - k
length-lent k l = simp (length-take, length-drop) (omega arith)

pub over-lent : (l ys bs : List ℕ) (k : ℕ) → k + length bs ≤ length l → ys ≡ over (take (length l - k) (drop k l)) 0 bs → take k l ++ (ys ++ drop (length l - k) (drop k l)) ≡ over l k bs
unfolding over
over-lent l ys bs k h e =
    let a : take (length l - k) (drop k l) ≡ drop k l = take_all (length l - k) (drop k l) (simp length-drop (omega arith)) in
    let b : drop (length l - k) (drop k l) ≡ [] = drop_of_length-le (drop k l) {i = length l - k} (simp length-drop (omega arith)) in
    let c : ys ≡ bs ++ drop (k + length bs) l = (rw a at e) ∙ sets-eq bs (drop k l) 0 (simp length-drop (omega arith)) ∙ rw (zero-add, drop-drop) in
    rw (b, append-nil, c, ← append_assoc (take k l) bs (drop (k + length bs) l)) (sym (sets-eq bs l k h))

-- the bytes of the terms
module _ (L i at : ℕ) (s0 s s1 out0 out ys ks : List ℕ) (v p : ℕ) (K : Kept L s0 s) (h : i < length ks)
    (all : over out at (write_each L (graph_of L s0) (drop i ks)) ≡ over out0 0 (write_each L (graph_of L s0) ks))
    (sum : at + length (write_each L (graph_of L s0) (drop i ks)) ≡ length (write_each L (graph_of L s0) ks))
    (fit : length (write_each L (graph_of L s0) ks) ≤ length out) where
  abbrev here : List ℕ
  here = (write L (graph_of L s0) [] (get_or ks i 0)).1

  abbrev left : List ℕ
  left = write_each L (graph_of L s0) (drop (i + 1) ks)

  more : write_each L (graph_of L s0) (drop i ks) ≡ here ++ left
  more = each_more L (graph_of L s0) ks i h

  more-length : at + (length here + length left) ≡ length (write_each L (graph_of L s0) ks)
  more-length = let a = ap length more ∙ length-append here left in omega arith

  pub each_fits : length (write L (graph_of L s) (seen_of L s 0) (get_or ks i 0)).1 ≤ length (take (length out - at) (drop at out))
  each_fits = rw (K.graph, seen_none L s, length-lent at out) (let a = more-length in omega arith)

  module _ (W : Writes L s s1 (take (length out - at) (drop at out)) ys 0 (write L (graph_of L s) (seen_of L s 0) (get_or ks i 0)) v p) where
    abbrev out2 : List ℕ
    out2 = take at out ++ (ys ++ drop (length out - at) (drop at out))

    bytes : (write L (graph_of L s) (seen_of L s 0) (get_or ks i 0)).1 ≡ here
    bytes = rw (K.graph, seen_none L s)

    pub each_at : p ≡ length here
    each_at = ap (λ (E : End). E.at) W.is ∙ zero-add _ ∙ ap length bytes

    pub each-small : at + p ≤ length out
    each-small = let a = more-length in let b = each_at in omega arith

    pub each-out : out2 ≡ over out at here
    each-out = over-lent out ys here at (let a = more-length in omega arith) (ap (λ (E : End). E.out) W.is ∙ ap (over (take (length out - at) (drop at out)) 0) bytes)

    pub each_all : over out2 (at + p) left ≡ over out0 0 (write_each L (graph_of L s0) ks)
    each_all = rw (each-out, each_at) (sym (over-then here left out at) ∙ ap (over out at) (sym more) ∙ all)

    pub each-sum : at + p + length left ≡ length (write_each L (graph_of L s0) ks)
    each-sum = let a = more-length in let b = each_at in omega arith

    pub each_long : length out2 ≡ length out
    each_long = ap length each-out ∙ length_over out at here

pub write-all : (L i at : ℕ) (g : Graph) (out0 out ks : List ℕ) → length ks ≤ i → over out at (write_each L g (drop i ks)) ≡ over out0 0 (write_each L g ks) → length (write_each L g ks) ≤ length out0
    → out ≡ write_each L g ks ++ drop (length (write_each L g ks)) out0
unfolding over
write-all L i at g out0 out ks h e fit =
    let w = write_each L g ks in
    let a : out ≡ sets out0 0 w = rw (each-done L g ks i h) at e in
    a ∙ sets-eq w out0 0 (omega arith) ∙ ap (λ (j : ℕ). w ++ drop j out0) (zero-add (length w))
