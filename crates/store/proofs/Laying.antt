-- Laws of a cell laid word by word: its head, then one argument after the other.
-- Here, in order: a head's row; an argument's row; a node with other arguments; a cell on the way.
-- Not here: a cell written at once (Writes).
-- Assumes nothing.
use Prim.Native.Nat.{ℕ, zero, suc, ◌+◌, ◌*◌, ◌/◌, ◌%◌, ◌≤◌, ◌<◌}
use mathlib.Core.Path.{◌≡◌, refl, ap, sym, ◌∙◌, subst}
use mathlib.Core.List.{List, [], ◌∷◌}
use lib.ListN.{length, get_or, take, drop, set, length-set, length-take, length-drop}
use lib.Seq.{take-set-lt, take_all, take-suc, take-suc-set, get_or-set_same, set-get_or, set-set, drop-drop, length-take-le}
use lib.Dec.{lit<}
use native.Mathlib.Omega.{arith}
use native.Mathlib.Nat.{add-zero}
use native.Mathlib.Numerals.{add-one}
use Rattle.book.specs.Syntax.{Symbol}
use Rattle.mem.specs.Words.{words, Wrote}
use Rattle.mem.proofs.Laws.{drop-take, only_wrote, only_then}
use Rattle.heap.specs.Graph.{Graph, Node, cell, var, fwd, node, args}
use Rattle.store.specs.Rows.{of_kind, node_of, HeadIs, with_args, with_arg}
use Rattle.store.specs.Regions.{graph_of, arg_words, Memory, memory, Did, set_node, with_graph}
use Rattle.store.proofs.Laws.{length-graph, row, node_row, args-kind, arg-word}
use Rattle.store.proofs.Writes.{did_then, did-node, row_write, length-row}

-- head and count written
head-row : (r : List ℕ) (h c : ℕ) (y : Symbol) → 2 ≤ length r → c ≤ 8 → HeadIs h y → node_of (set (set r 0 h) 1 c) ≡ cell y (take c (drop 2 r))
unfolding node_of
head-row [] h c y p q d = absurd (omega arith)
head-row (a ∷ []) h c y p q d = absurd (omega arith)
head-row (a ∷ b ∷ t) h c y p q d = let c9 : c % 9 ≡ c = omega arith in rw c9 (d.is (take c t) _)

arg-words : (n : ℕ) (s : List ℕ) → drop 2 (row n s) ≡ arg_words n s
unfolding arg_words
arg-words n s = drop-take 2 8 (drop (10 * n) (words s)) ∙ ap (take 8) (drop-drop 2 (10 * n) (words s))

pub length-arg-words : (L n : ℕ) (s : List ℕ) → n < L → 16 * L ≤ length (words s) → length (arg_words n s) ≡ 8
unfolding arg_words
length-arg-words L n s h room = simp (length-take, length-drop) (omega arith)

pub did-head : (L n h c : ℕ) (y : Symbol) (s s' s'' : List ℕ) → n < L → 16 * L ≤ length (words s) → c ≤ 8 → HeadIs h y → Wrote (words s) (words s') (10 * n) h → Wrote (words s') (words s'') (10 * n + 1) c → Did L s s'' (set_node n (cell y (take c (arg_words n s))))
did-head L n h c y s s' s'' lt room small d w w' =
    let e : words s' ≡ set (words s) (10 * n + 0) h = rw add-zero w.is in
    did-node L s s'' n (cell y (take c (arg_words n s))) lt (only_then (only_wrote (omega arith) (omega arith) w) (only_wrote (omega arith) (omega arith) w'))
    (rw (w'.is, row_write n 1 c (words s') (lit< tt), e, row_write n 0 h (words s) (lit< tt)) (head-row (row n s) h c y (omega (arith, length-row L n (words s) lt room)) small d ∙ ap (λ (l : List ℕ). cell y (take c l)) (arg-words n s)))

-- an argument written
with-kind : (k y : ℕ) (hs hs' : List ℕ) (t t' : ℕ) → 0 < length (args (of_kind k y hs t)) → of_kind k y hs' t' ≡ with_args hs' (of_kind k y hs t)
unfolding with_args of_kind args
with-kind zero y hs hs' t t' h = absurd (omega arith)
with-kind (suc zero) y hs hs' t t' h = refl
with-kind (suc (suc zero)) y hs hs' t t' h = refl
with-kind (suc (suc (suc k))) y hs hs' t t' h = absurd (omega arith)

arg-row : (r : List ℕ) (j v : ℕ) → 2 ≤ length r → j < length (args (node_of r)) → node_of (set r (suc (suc j)) v) ≡ with_arg j v (node_of r)
unfolding node_of with_arg
arg-row [] j v p h = absurd (omega arith)
arg-row (a ∷ []) j v p h = absurd (omega arith)
arg-row (a ∷ b ∷ t) j v p h =
    let q = args-kind (a / 256) (a % 256) (take (b % 9) t) (get_or t 0 0) j h in
    let lt : j < b % 9 = let u = simp length-take at q.1 in omega arith in
    rw (take-set-lt (b % 9) t j v lt, q.0) (with-kind (a / 256) (a % 256) (take (b % 9) t) (set (take (b % 9) t) j v) (get_or t 0 0) _ (omega arith))

pub did-arg : (L n j v : ℕ) (s s' : List ℕ) → n < L → 16 * L ≤ length (words s) → j < length (args (node (graph_of L s) n)) → Wrote (words s) (words s') (10 * n + 2 + j) v → Did L s s' (set_node n (with_arg j v (node (graph_of L s) n)))
did-arg L n j v s s' lt room h w =
    let b = (arg-word L n j s lt room h).1 in
    let e : 10 * n + 2 + j ≡ 10 * n + suc (suc j) = omega arith in
    let x = node_row L n s lt in
    did-node L s s' n (with_arg j v (node (graph_of L s) n)) lt (only_wrote (omega arith) (omega arith) w)
    (rw (w.is, e, row_write n (suc (suc j)) v (words s) (omega arith), x) (arg-row (row n s) j v (omega (arith, length-row L n (words s) lt room)) (rw x at h)))

-- a node with its own arguments, with others twice, and what its arguments are then
with-own : (x : Node) → with_args (args x) x ≡ x
unfolding with_args args
with-own (cell y hs) = refl
with-own var = refl
with-own (fwd t) = refl

with-twice : (hs hs' : List ℕ) (x : Node) → with_args hs (with_args hs' x) ≡ with_args hs x
unfolding with_args
with-twice hs hs' (cell y xs) = refl
with-twice hs hs' var = refl
with-twice hs hs' (fwd t) = refl

with-args : (hs : List ℕ) (x : Node) → 0 < length (args x) → args (with_args hs x) ≡ hs
unfolding with_args args
with-args hs (cell y xs) h = refl
with-args hs var h = absurd (omega arith)
with-args hs (fwd t) h = absurd (omega arith)

with_cell : (hs : List ℕ) (x : Node) (y : Symbol) (zs : List ℕ) → x ≡ cell y zs → with_args hs x ≡ cell y hs
unfolding with_args
with_cell hs x y zs e = rw e

-- a node written twice; the node that was written
pub did-again : {L : ℕ} {s s' s'' : List ℕ} (n : ℕ) (x y : Node) → Did L s s' (set_node n x) → Did L s' s'' (set_node n y) → Did L s s'' (set_node n y)
did-again {L} {s} n x y d e = let b = did_then d e in record { is = b.is ∙ ap (λ (g : Graph). with_graph g (memory L s)) (set-set (graph_of L s) n x y); long = b.long }

pub node-did : (L n : ℕ) (x : Node) (s s' : List ℕ) → n < L → Did L s s' (set_node n x) → node (graph_of L s') n ≡ x
node-did L n x s s' lt d = ap (λ (m : Memory). node m.graph n) d.is ∙ get_or-set_same (graph_of L s) n x var (rw length-graph lt)

-- on the way: node n of s₀ has other arguments, as many as xs, and the first j are those of xs
pub record Laying (L n : ℕ) (xs : List ℕ) (j : ℕ) (s₀ s : List ℕ) : Type 0 where
  pub hs : List ℕ
  pub did : Did L s₀ s (set_node n (with_args hs (node (graph_of L s₀) n)))
  pub long : length hs ≡ length xs
  pub given : take j hs ≡ take j xs
  pub count : length (args (node (graph_of L s₀) n)) ≡ length xs

pub lay-none : (L n : ℕ) (xs s : List ℕ) → length (args (node (graph_of L s) n)) ≡ length xs → Laying L n xs 0 s s
lay-none L n xs s e =
    let x : Node = node (graph_of L s) n in
    record {
      hs = args x;
      did = record { is = ap (λ (g : Graph). with_graph g (memory L s)) (sym (ap (set (graph_of L s) n) (with-own x) ∙ set-get_or (graph_of L s) n var)); long = refl };
      long = e;
      given = refl;
      count = e;
    }

module _ (L n : ℕ) (xs : List ℕ) (j : ℕ) (s₀ s : List ℕ) (lt : n < L) (o : Laying L n xs j s₀ s) where
  lay-args : 0 < length xs → args (node (graph_of L s) n) ≡ o.hs
  lay-args p = let c = o.count in ap args (node-did L n (with_args o.hs (node (graph_of L s₀) n)) s₀ s lt o.did) ∙ with-args o.hs (node (graph_of L s₀) n) (omega arith)

  -- there is an argument j to be written
  pub lay-room : j < length xs → j < length (args (node (graph_of L s) n))
  lay-room p = let e = o.long in rw (lay-args (omega arith)) (omega arith)

  pub lay_step : (v : ℕ) (s' : List ℕ) → j < length xs → v ≡ get_or xs j 0 → Did L s s' (set_node n (with_arg j v (node (graph_of L s) n))) → Laying L n xs (j + 1) s₀ s'
  unfolding with_arg
  lay_step v s' p e d =
      let x : Node = node (graph_of L s₀) n in
      let q = o.long in
      let w : with_arg j v (node (graph_of L s) n) ≡ with_args (set o.hs j v) x =
      ap (λ (l : List ℕ). with_args (set l j v) (node (graph_of L s) n)) (lay-args (omega arith)) ∙ ap (with_args (set o.hs j v)) (node-did L n (with_args o.hs x) s₀ s lt o.did) ∙ with-twice (set o.hs j v) o.hs x in
      record {
        hs = set o.hs j v;
        did = did-again n (with_args o.hs x) (with_args (set o.hs j v) x) o.did (subst (λ (y : Node). Did L s s' (set_node n y)) w d);
        long = simp length-set o.long;
        given = rw (add-one j, take-suc-set o.hs j v (omega arith), o.given, e) (sym (take-suc xs j 0 p));
        count = o.count;
      }

  -- all are: the cell whose head was written has them
  pub lay-end : (y : Symbol) (zs r : List ℕ) → length xs ≤ j → Did L r s₀ (set_node n (cell y zs)) → Did L r s (set_node n (cell y xs))
  lay-end y zs r p d =
      let q = o.long in
      let e : o.hs ≡ xs = sym (take_all j o.hs (omega arith)) ∙ o.given ∙ take_all j xs p in
      let x = with_cell o.hs (node (graph_of L s₀) n) y zs (node-did L n (cell y zs) r s₀ lt d) ∙ ap (cell y) e in
      did-again n (cell y zs) (cell y xs) d (subst (λ (z : Node). Did L s₀ s (set_node n z)) x o.did)

-- a head was written
pub lay-start : (L n k : ℕ) (y : Symbol) (xs r s : List ℕ) → n < L → 16 * L ≤ length (words r) → k ≤ 8 → length xs ≡ k → Did L r s (set_node n (cell y (take k (arg_words n r)))) → Laying L n xs 0 s s
unfolding args
lay-start L n k y xs r s lt room small e d =
    let a = length-arg-words L n r lt room in
    lay-none L n xs s (ap (λ (x : Node). length (args x)) (node-did L n (cell y (take k (arg_words n r))) r s lt d) ∙ length-take-le k (arg_words n r) (omega arith) ∙ sym e)
