-- Laws in the very shape of what the code's steps need: a handle of an array, how many arguments a node has, a place word, a node's arguments, the place words set back, the node written by what is seen.
-- Assumes nothing.
use Prim.Native.Nat.{ℕ, suc, ◌+◌, ◌-◌, ◌*◌, ◌≤◌, ◌<◌}
use native.Mathlib.Omega.{arith}
use mathlib.Core.Logic.{◌⊎◌, inl, inr}
use Rattle.std.proofs.lemmas.Bool.{cases_lt}
use native.Mathlib.Numerals.{add-one}
use mathlib.Core.Path.{◌≡◌, refl, sym, ap, ◌∙◌, subst}
use mathlib.Core.List.{List, [], ◌∷◌, Memᴰ}
use lib.ListN.{length, get_or, take, drop, set, drop_of_length-le}
use lib.Seq.{get_or-take, drop-cons, length-take-le}
use Rattle.mem.specs.Words.{words}
use Rattle.heap.specs.Graph.{Graph, Node, cell, var, fwd, node, follow, args, sight, sweep}
use Rattle.heap.proofs.Laws.Reach.{mem-at}
use Rattle.store.specs.Regions.{graph_of, list_of, places_of, Memory, Did, set_node, set_place}
use Rattle.store.specs.Rows.{seen, symbol_of}
use Rattle.store.specs.declared.Seen.{Seen}
use Rattle.store.specs.declared.Seen.TheVariants.{Con, Call}
use Rattle.book.specs.Syntax.{con, fun}
use Rattle.store.specs.declared.Head.TheVariants.{Makes, Calls}
use Rattle.book.specs.declared.ConNo.{ConNo}
use Rattle.book.specs.declared.FunNo.{FunNo}
use Rattle.store.proofs.Laws.{arg-word, seen-con, seen-call}
use Rattle.copier.specs.Listed.{seen_in, Below, Listed, Kept, Ends, Saw, cleared}
use Rattle.copier.specs.Poured.{placed, Spots, new_args, renumbered, Placed}
use Rattle.copier.proofs.Listing.{kept_refl, kept_then, length_seen, Owes, owes-sight}

-- a handle of an array
pub front-mem : (m : List ℕ) (n j : ℕ) → j < n → n ≤ length m → Memᴰ (get_or m j 0) (take n m)
front-mem m n j p q = let e = length-take-le n m q in subst (λ (x : ℕ). Memᴰ x (take n m)) (get_or-take n m j 0 p) (mem-at (take n m) j (omega arith))

-- no node has more than eight arguments
pub args-short : (L n : ℕ) (s : List ℕ) → n < L → 16 * L ≤ length (words s) → length (args (node (graph_of L s) n)) ≤ 8
args-short L n s lt room = go (cases_lt 8 (length (args (node (graph_of L s) n))))
  where
    go : (8 < length (args (node (graph_of L s) n))) ⊎ (length (args (node (graph_of L s) n)) ≤ 8) → length (args (node (graph_of L s) n)) ≤ 8
    go (inl p) = let q = (arg-word L n 8 s lt room p).1 in absurd (omega arith)
    go (inr p) = p

-- the place word of the node that a handle ends at
pub spot-word : (L made : ℕ) (s : List ℕ) (h n p : ℕ) → Spots L made s (h ∷ []) → n ≡ follow (graph_of L s) h → p ≡ get_or (places_of L s) n 0 → (n < L) × (0 < p) × (made + p ≤ L)
spot-word L made s h n p t e w =
    let r = t h (Memᴰ.head refl) in
    let v : p ≡ get_or (places_of L s) (follow (graph_of L s) h) 0 = w ∙ ap (λ (x : ℕ). get_or (places_of L s) x 0) e in
    let a = r.0 in
    let b = r.1 in
    let c = r.2 in
    (rw e a, omega arith, omega arith)

pub spot-placed : (L made : ℕ) (s : List ℕ) (h n p : ℕ) → n ≡ follow (graph_of L s) h → p ≡ get_or (places_of L s) n 0 → made + (p - 1) ≡ placed L made s h
unfolding placed
spot-placed L made s h n p e w = rw (w, e)

-- a node put
pub did-as : {L : ℕ} {s s' : List ℕ} (n : ℕ) (x y : Node) → x ≡ y → Did L s s' (set_node n x) → Did L s s' (set_node n y)
did-as {L} {s} {s'} n x y e d = subst (λ (z : Node). Did L s s' (set_node n z)) e d

-- handle j of some
pub owes-follow : {L : ℕ} {s₀ s : List ℕ} {due hs : List ℕ} {f : List ℕ → List ℕ} (k j : ℕ) → Owes L s₀ s due k f → j < length hs → Ends L (graph_of L s₀) hs → follow (graph_of L s) (get_or hs j 0) < L
owes-follow {L} {s₀} {s} {hs = hs} k j o p e = rw o.graph (e (get_or hs j 0) (mem-at hs j p))

-- place words set back, a node after the other
pub record Clears (L : ℕ) (s₀ s : List ℕ) (l : List ℕ) (i : ℕ) : Type 0 where
  pub is : cleared (drop i l) (places_of L s) ≡ cleared l (places_of L s₀)
  pub list : list_of L s ≡ list_of L s₀
  pub graph : graph_of L s ≡ graph_of L s₀
  pub kept : Kept L s₀ s

module _ (L count : ℕ) {s₀ s : List ℕ} (i : ℕ) (o : Clears L s₀ s (seen_in L count s₀) i) (p : i < count) (q : count ≤ length (list_of L s₀)) (n : ℕ) (e : n ≡ get_or (list_of L s) i 0) where
  clears-at : n ≡ get_or (seen_in L count s₀) i 0
  clears-at = e ∙ ap (λ (l : List ℕ). get_or l i 0) o.list ∙ sym (get_or-take count (list_of L s₀) i 0 p)

  long : i < length (seen_in L count s₀)
  long = let u = length-take-le count (list_of L s₀) q in omega arith

  pub clears-below : Below L (seen_in L count s₀) → n < L
  clears-below b = rw clears-at (b (get_or (seen_in L count s₀) i 0) (mem-at (seen_in L count s₀) i long))

  pub clears-step : {s' : List ℕ} → Did L s s' (set_place n 0) → Clears L s₀ s' (seen_in L count s₀) (i + 1)
  unfolding cleared
  clears-step {s'} d =
      let l : List ℕ = seen_in L count s₀ in
      let a : places_of L s' ≡ set (places_of L s) n 0 = ap (λ (m : Memory). m.places) d.is in
      let b : drop i l ≡ n ∷ drop (i + 1) l = drop-cons l i 0 long ∙ ap (λ (x : ℕ). x ∷ drop (suc i) l) (sym clears-at) ∙ ap (λ (j : ℕ). n ∷ drop j l) (sym (add-one i)) in
      record {
        is = ap (cleared (drop (i + 1) l)) a ∙ sym (ap (λ (z : List ℕ). cleared z (places_of L s)) b) ∙ o.is;
        list = ap (λ (m : Memory). m.list) d.is ∙ o.list;
        graph = ap (λ (m : Memory). m.graph) d.is ∙ o.graph;
        kept = kept_then o.kept (record { marks = ap (λ (m : Memory). m.marks) d.is; links = ap (λ (m : Memory). m.links) d.is; frames = ap (λ (m : Memory). m.frames) d.is; rest = ap (λ (m : Memory). m.rest) d.is; long = d.long });
      }

pub clears-end : (L i : ℕ) {s₀ s : List ℕ} (l : List ℕ) → Clears L s₀ s l i → length l ≤ i → Placed L s₀ s (cleared l (places_of L s₀))
unfolding cleared
clears-end L i {s₀} {s} l o p = record { is = sym (ap (λ (z : List ℕ). cleared z (places_of L s)) (drop_of_length-le l {i = i} p)) ∙ o.is; list = o.list; graph = o.graph; kept = o.kept }

-- the arguments of node i of the list, one by one
pub under-args : (L k i n : ℕ) (s : List ℕ) → n ≡ get_or (list_of L s) i 0 → i < k → args (node (graph_of L s) n) ≡ args (node (graph_of L s) (get_or (seen_in L k s) i 0))
under-args L k i n s f p = ap (λ (x : ℕ). args (node (graph_of L s) x)) (f ∙ sym (get_or-take k (list_of L s) i 0 p))

module _ {L : ℕ} {s₀ s : List ℕ} {due : List ℕ} (k j n : ℕ) (o : Owes L s₀ s due k (λ l. sight (graph_of L s₀) l (drop j (args (node (graph_of L s₀) n))))) (p : j < length (args (node (graph_of L s₀) n))) where
  pub under-there : j < length (args (node (graph_of L s) n))
  under-there = rw o.graph p

  under-is : (h : ℕ) → h ≡ get_or (args (node (graph_of L s) n)) j 0 → h ≡ get_or (args (node (graph_of L s₀) n)) j 0
  under-is h e = e ∙ ap (λ (g : Graph). get_or (args (node g n)) j 0) o.graph

  pub under-follow : (h : ℕ) → h ≡ get_or (args (node (graph_of L s) n)) j 0 → Ends L (graph_of L s₀) (args (node (graph_of L s₀) n)) → follow (graph_of L s) h < L
  under-follow h e z = rw (o.graph, under-is h e) (z (get_or (args (node (graph_of L s₀) n)) j 0) (mem-at (args (node (graph_of L s₀) n)) j p))

  pub under_next : (h r : ℕ) (s' : List ℕ) → h ≡ get_or (args (node (graph_of L s) n)) j 0 → Saw L k (h ∷ []) s s' r → Owes L s₀ s' due r (λ l. sight (graph_of L s₀) l (drop (j + 1) (args (node (graph_of L s₀) n))))
  under_next h r s' e w = owes-sight k j r (args (node (graph_of L s₀) n)) o p (subst (λ (x : ℕ). Saw L k (x ∷ []) s s' r) (under-is h e) w)

pub under-below : {L k i n : ℕ} (s : List ℕ) → 16 * L ≤ length (words s) → Listed L k s → n ≡ get_or (list_of L s) i 0 → i < k → n < L
under-below {L} {k} {i} s room D f p =
    let e = length_seen L s room k D.fits in
    rw (f ∙ sym (get_or-take k (list_of L s) i 0 p)) (D.below (get_or (seen_in L k s) i 0) (mem-at (seen_in L k s) i (omega arith)))

pub owes-start : (L k : ℕ) (s : List ℕ) → Listed L k s → Owes L s s (sweep L (graph_of L s) 0 (seen_in L k s)) k (λ l. sweep (L - 0) (graph_of L s) 0 l)
owes-start L k s D = let e : L - 0 ≡ L = omega arith in record { is = ap (λ (n : ℕ). sweep n (graph_of L s) 0 (seen_in L k s)) e; listed = D; graph = refl; kept = kept_refl L s }

-- the node written for node i of the list, by what is seen
module _ (L made n m : ℕ) (s : List ℕ) (w : Seen) (e : w ≡ seen (node (graph_of L s) n)) (q : n ≡ m) where
  at-list : renumbered (placed L made s) (node (graph_of L s) n) ≡ renumbered (placed L made s) (node (graph_of L s) m)
  at-list = ap (λ (x : ℕ). renumbered (placed L made s) (node (graph_of L s) x)) q

  pub emit-con : (c : ConNo) (k : ℕ) → w ≡ Con c k → cell (symbol_of (Makes c)) (new_args L made n s) ≡ renumbered (placed L made s) (node (graph_of L s) m)
  unfolding new_args renumbered symbol_of
  emit-con c k f = sym (ap (renumbered (placed L made s)) (seen-con (node (graph_of L s) n) c k (sym f ∙ e)).0) ∙ at-list

  pub emit-call : (c : FunNo) (k : ℕ) → w ≡ Call c k → cell (symbol_of (Calls c)) (new_args L made n s) ≡ renumbered (placed L made s) (node (graph_of L s) m)
  unfolding new_args renumbered symbol_of
  emit-call c k f = sym (ap (renumbered (placed L made s)) (seen-call (node (graph_of L s) n) c k (sym f ∙ e)).0) ∙ at-list

  pub emit-other : ((c : ConNo) (k : ℕ) → w ≡ Con c k → ⊥) → ((f : FunNo) (k : ℕ) → w ≡ Call f k → ⊥) → var ≡ renumbered (placed L made s) (node (graph_of L s) m)
  unfolding renumbered seen
  emit-other a b = go (node (graph_of L s) n) e ∙ at-list
    where
      go : (x : Node) → w ≡ seen x → var ≡ renumbered (placed L made s) x
      go var e = refl
      go (cell (con c) hs) e = absurd (a (record { 0 = c }) (length hs) e)
      go (cell (fun f) hs) e = absurd (b (record { 0 = f }) (length hs) e)
      go (fwd t) e = refl
