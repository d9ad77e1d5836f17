-- Bounds on depth that suffice: in a graph with no cycle every bound from the number of nodes on gives the same, and so does a turn.
-- Here, in order: following forwards; outermost calls; what is reachable; all of these for a graph; the turn read plainly.
-- Assumes nothing.
use Prim.Native.Nat.{ℕ, zero, suc, ◌+◌, ◌≤◌, ◌<◌}
use native.Mathlib.Nat.{not-suc-le-zero}
use native.Mathlib.Omega.{arith}
use mathlib.Core.Path.{◌≡◌, refl, sym, ap}
use mathlib.Core.Bool.{Bool, true, false}
use mathlib.Core.Option.{Option, none, some}
use mathlib.Core.List.Memᴰ
use mathlib.Core.List.{List, [], ◌∷◌, append-nil, Memᴰ}
use lib.Dec.{ltb, ltb→lt}
use lib.ListN.{length, get_or}
use Rattle.book.specs.Syntax.{Symbol, con, fun, Book}
use Rattle.heap.specs.Graph.{Node, cell, var, fwd, Graph, node, deref, follow, look, gather, outermost, first_call, args, sight, sweep, reach, write_each, Comp}
use Rattle.heap.specs.Place.{NotFwd, Distinct}
use Rattle.heap.proofs.Laws.Good.{Good, follow-ends, deref-more}
use Rattle.heap.proofs.Laws.Few.{few}
use Rattle.heap.proofs.Laws.Shape.{sight-distinct, sweep-done}
use Rattle.heap.proofs.Laws.Reach.{mem-at, sight-all, args-kids}
use Rattle.heap.proofs.Laws.First.{below, never, found}
use Rattle.heap.proofs.Laws.Bound.{first-bound, bytes-bound}
use Rattle.heap.proofs.Laws.Copies.{Whole, whole-roots}
use Rattle.engine.specs.Turn.{value}
use Rattle.engine.specs.Plain.{turn_within, turn}
use Rattle.engine.specs.Compile.{compile}
use Rattle.agreement.proofs.Fine.{Takes}
use Rattle.agreement.proofs.Calls.{FineBook}
use Rattle.agreement.proofs.Chain.{step-fuel}
use Rattle.agreement.proofs.Agree.{plain-none, plain-some}

gather-same : {A B : Type 0} (f f' : A → List B) (xs : List A) → ((x : A) → Memᴰ x xs → f x ≡ f' x) → gather f xs ≡ gather f' xs
unfolding gather
gather-same f f' [] e = refl
gather-same f f' (x ∷ xs) e = rw (e x (Memᴰ.head refl), gather-same f f' xs (λ y m. e y (Memᴰ.tail m)))

module _ {K : Symbol → ℕ → Type 0} {g : Graph} (G : Good K g) where
  deref-bound : (n : ℕ) → length g ≤ n → (h : ℕ) → h < length g → deref n g h ≡ follow g h
  unfolding follow
  deref-bound n p h i = let r = G.low h i in rw (append-nil g) at (deref-more G [] n (length g) h i (omega arith) r)

  outermost-same : (n n' h : ℕ) → h < length g → G.rank h < n → G.rank h < n' → outermost n g h ≡ outermost n' g h
  unfolding outermost
  outermost-same zero n' h i p p' = absurd (not-suc-le-zero p)
  outermost-same (suc n) zero h i p p' = absurd (not-suc-le-zero p')
  outermost-same (suc n) (suc n') h i p p' = go (outermost-same n n') (look g h) refl
    where
      go : ((w : ℕ) → w < length g → G.rank w < n → G.rank w < n' → outermost n g w ≡ outermost n' g w) → (x : Node) → look g h ≡ x → outermost (suc n) g h ≡ outermost (suc n') g h
      go ih (cell (fun f) hs) e = rw (e, outermost)
      go ih (cell (con c) hs) e = rw (e, outermost) (gather-same (outermost n g) (outermost n' g) hs (λ x m. (let (j, q) = below g G n h (con c) hs i p e x m in ih x j q (below g G n' h (con c) hs i p' e x m).1)))
      go ih var e = rw (e, outermost)
      go ih (fwd k) e = absurd (never g G h i k e)

  under : (x h : ℕ) → x < length g → Memᴰ h (args (node g x)) → follow g h < length g
  under x h i m = (follow-ends G h (G.kid x h i (args-kids G (node g x) h m)).0).inside

  sweep-same : (n n' i : ℕ) (seen : List ℕ) → length g ≤ i + n → length g ≤ i + n' → ((x : ℕ) → Memᴰ x seen → x < length g) → Distinct seen → sweep n g i seen ≡ sweep n' g i seen
  unfolding sweep
  sweep-same zero n' i seen p p' a d = let f = few (length g) seen d a in sym (sweep-done n' g i seen (omega arith))
  sweep-same (suc n) zero i seen p p' a d = let f = few (length g) seen d a in sweep-done (suc n) g i seen (omega arith)
  sweep-same (suc n) (suc n') i seen p p' a d = go (λ s. sweep-same n n' (suc i) s (omega arith) (omega arith)) (ltb i (length seen)) refl
    where
      go : ((s : List ℕ) → ((x : ℕ) → Memᴰ x s → x < length g) → Distinct s → sweep n g (suc i) s ≡ sweep n' g (suc i) s) → (t : Bool) → ltb i (length seen) ≡ t → sweep (suc n) g i seen ≡ sweep (suc n') g i seen
      go ih true t =
          let u = mem-at seen i (ltb→lt i (length seen) (rw t tt)) in
          rw (t, sweep) (ih _ (sight-all g (λ x. x < length g) _ seen a (λ h m. under (get_or seen i 0) h (a (get_or seen i 0) u) m)) (sight-distinct g seen _ d))
      go ih false t = rw (t, sweep)

-- in a graph, every bound from the number of nodes on gives the same: forwards followed, which end at a node that is no forward; outermost calls and the first of
-- them; the bytes of terms; what is reachable
pub record EnoughIn (g : Graph) : Type 0 where
  pub follows : (n : ℕ) → length g ≤ n → (h : ℕ) → h < length g → deref n g h ≡ follow g h
  pub ends : (h : ℕ) → h < length g → NotFwd (look g h)
  pub outermosts : (n : ℕ) → length g ≤ n → (h : ℕ) → h < length g → outermost n g h ≡ outermost (length g) g h
  pub firsts : (n : ℕ) → length g ≤ n → (h : ℕ) → h < length g → first_call n g h ≡ first_call (length g) g h
  pub writes : (n : ℕ) → length g ≤ n → (hs : List ℕ) → ((h : ℕ) → Memᴰ h hs → h < length g) → write_each n g hs ≡ write_each (length g) g hs
  pub reaches : (n : ℕ) → length g ≤ n → (hs : List ℕ) → ((h : ℕ) → Memᴰ h hs → h < length g) → sweep n g 0 (sight g [] hs) ≡ reach g hs

-- A graph with no cycle has nodes enough for every bound.
pub good-enough : {K : Symbol → ℕ → Type 0} {g : Graph} → Good K g → EnoughIn g
unfolding look reach
good-enough {g = g} G = record {
  follows = deref-bound G;
  ends = λ h i. (follow-ends G h i).real;
  outermosts = λ n p h i. (let r = G.low h i in outermost-same G n (length g) h i (omega arith) r);
  firsts = λ n p h i. (let r = G.low h i in first-bound g G n (length g) h i (omega arith) r);
  writes = bytes-bound g G;
  reaches = λ n p hs f. sweep-same G n (length g) 0 (sight g [] hs) (omega arith) (omega arith) (sight-all g (λ x. x < length g) hs [] (λ x m. absurd (Memᴰ.not-nil m)) (λ h m. (follow-ends G h (f h m)).inside)) (sight-distinct g [] hs tt);
}

module _ (book : Book) (B : FineBook book) (c : Comp) (W : Whole (Takes (compile book)) c) where
  -- A turn read plainly is the same with every bound from the number of nodes on.
  pub turn-bound : (n : ℕ) → length c.graph ≤ n → turn_within n book c ≡ turn book c
  unfolding turn_within
  turn-bound n p = go (first_call (length c.graph) c.graph c.value) refl
    where
      G : Good (Takes (compile book)) c.graph
      G = W.good

      E : EnoughIn c.graph
      E = good-enough G

      go : (o : Option ℕ) → first_call (length c.graph) c.graph c.value ≡ o → turn_within n book c ≡ turn book c
      go none e = rw (E.firsts n p c.value W.value_in, plain-none book c e, e, turn_within) (ap value (E.writes n p (c.value ∷ c.askers) (whole-roots W)))
      go (some h) e =
          let i = (found c.graph G (length c.graph) c.value W.value_in (G.low c.value W.value_in) h e).inside in
          let q = G.low h i in
          rw (E.firsts n p c.value W.value_in, plain-some book c h e, e, turn_within) (step-fuel book B c.graph G n (length c.graph) h c.value c.askers i (omega arith) q)
