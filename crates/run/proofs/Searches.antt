-- Searches go on where they stopped: after a turn of the front, for it, for the others and for alternatives; after a shortcut of forwards.
-- Here, in order: the part of each computation of the pool; the same memory, but for what is no search's; a graph led otherwise; before a turn; after it: the others, the front, alternatives, by the state that follows.
-- Assumes nothing.
use Prim.Native.Nat.{ℕ, suc, ◌+◌, ◌*◌, ◌-◌, ◌≤◌, ◌<◌}
use native.Mathlib.Omega.{arith}
use native.Mathlib.Numerals.{add-one}
use native.Mathlib.Decide.{dec_lt}
use mathlib.Core.Path.{◌≡◌, refl, ap, sym, ◌∙◌, subst}
use mathlib.Core.Bool.{true}
use mathlib.Core.Logic.{◌⊎◌, inl, inr}
use mathlib.Core.List.Memᴰ
use mathlib.Core.List.{List, [], ◌∷◌, ◌++◌, Memᴰ}
use lib.ListN.{get_or}
use lib.Dec.{leb}
use Rattle.std.specs.Prelude.{Result}
use Rattle.book.specs.Syntax.{Book}
use Rattle.heap.specs.Graph.{Graph, node}
use Rattle.heap.specs.Place.{NotFwd}
use Rattle.heap.specs.Alike.{Each}
use Rattle.heap.specs.Store.{Store}
use Rattle.heap.proofs.Laws.Alike.{leads-keep, leads-from}
use Rattle.engine.specs.Turn.{Turned}
use Rattle.engine.specs.Compile.{compile}
use Rattle.engine.specs.Machine as m
use Rattle.engine.specs.Run as e
use Rattle.agreement.proofs.Calls.{FineBook}
use Rattle.standing.specs.Shared.{split}
use Rattle.standing.specs.Stands.{World, Ours, Reps, Stands, Pool, empty, join, After, after-splits}
use Rattle.standing.specs.Moments.{Sounds}
use Rattle.standing.specs.Part.{roots_of}
use Rattle.standing.proofs.Turns.{store-stands}
use Rattle.standing.proofs.Room.{room_bound}
use Rattle.store.specs.Regions.{Memory, graph_of, marks_of, links_of, store_of}
use Rattle.seek.specs.Path.{Closed, Resumes, ResumesIn, Fixed, Later}
use Rattle.seek.specs.Search.{Ground}
use Rattle.seek.proofs.Survives.{closed-later, resumes-later, closed-wider, resumes-wider, unmarked-resumes}
use Rattle.forwards.specs.Shortcut.{shortened, top_of, Shortened}
use Rattle.forwards.proofs.Ways.{LedOtherwise, led-same, shortened-leads}
use Rattle.pool.specs.declared.Held.{Held}
use Rattle.pool.specs.Ring.{Sized, held_in, place_of, pool_of, RowGot}
use Rattle.pool.proofs.Rings.{front-is, place_inside}
use Rattle.writer.specs.Walk.{Kept}
use Rattle.alternatives.specs.Copies.{alts_in}
use Rattle.alternatives.proofs.Steps.{made-taken, nodes-are}
use Rattle.turns.specs.declared.What.TheVariants.{Split}
use Rattle.turns.specs.declared.Turned as t
use Rattle.turns.specs.Front.{TurnTaken, took_of, value_in, Searched, with_top}
use Rattle.turns.proofs.Grounds.{ours-made, stands-ground}
use Rattle.turns.proofs.Begins.{value-is}
use Rattle.run.specs.declared.State.{State}
use Rattle.run.specs.declared.Answer.{Answer}
use Rattle.run.specs.Between.{Bounded, AllSearched, SearchedIn, Runs}
use Rattle.run.specs.Arms.{after_turn, after_split, after_value, WentOn, Spread}
use Rattle.run.proofs.Fronts.{rest, H}
use Rattle.run.proofs.Nexts.{Z, took, others-stay}
use Rattle.run.proofs.Values.{pool-same}

-- the part of a computation of the pool, its numbers some of the pool's
pub pool-ground : (book : Book) (B : FineBook book) (L made : ℕ) (s : List ℕ) {ks : List m.Kept} {cs : List m.Held} {own : List ℕ} → Pool (store_of L made s) ks cs own → Sounds book B ks → (c : m.Held) → Memᴰ c cs
    → (o : List ℕ) × Ground made (graph_of L s) o (roots_of c) c.value × ((x : ℕ) → Memᴰ x o → Memᴰ x own)
pool-ground book B L made s empty ss c w = absurd (Memᴰ.not-nil w)
pool-ground book B L made s (join {c = d} {cs = cs} {own = own} S p a) (q, ss) c w = go (Memᴰ.cases_cons w) (λ u. pool-ground book B L made s p ss c u)
  where
    go : (c ≡ d) ⊎ Memᴰ c cs → (Memᴰ c cs → (o : List ℕ) × Ground made (graph_of L s) o (roots_of c) c.value × ((x : ℕ) → Memᴰ x o → Memᴰ x own))
        → (o : List ℕ) × Ground made (graph_of L s) o (roots_of c) c.value × ((x : ℕ) → Memᴰ x o → Memᴰ x (S.world.owned ++ own))
    go (inl e) ih = (S.world.owned, subst (λ (y : m.Held). Ground made (graph_of L s) S.world.owned (roots_of y) y.value) (sym e) (stands-ground L made s S q.whole.good), λ x u. Memᴰ.append_left own u)
    go (inr u) ih = let r = ih u in (r.0, r.1, λ x v. Memᴰ.append_right S.world.owned (r.2 x v))

-- the same graph, marks and links, and as many nodes made or more
pub searched-more : (L made made' : ℕ) (cs : List m.Held) (s s' : List ℕ) → made ≤ made' → graph_of L s' ≡ graph_of L s → marks_of L s' ≡ marks_of L s → links_of L s' ≡ links_of L s → AllSearched L made cs s → AllSearched L made' cs s'
searched-more L made made' cs s s' h g a k S = record {
  closed = subst (λ (x : Graph). Closed made' x (marks_of L s')) (sym g) (subst (Closed made' (graph_of L s)) (sym a) (closed-wider h S.closed));
  resumes = λ c w. subst (λ (x : Graph). Resumes made' x (marks_of L s') (links_of L s') c.value) (sym g) (subst (λ (x : List ℕ). Resumes made' (graph_of L s) x (links_of L s') c.value) (sym a) (subst (λ (x : List ℕ). Resumes made' (graph_of L s) (marks_of L s) x c.value) (sym k) (resumes-wider h (graph_of L s) (marks_of L s) (links_of L s) c.value (S.resumes c w))));
}

-- a graph that is led otherwise is a later one
led-later : (made : ℕ) (g g' : Graph) → LedOtherwise (λ x. x < made) g g' → Later made g made g'
led-later made g g' W = record { more = omega arith; rows = λ x h F. W.real x (real x F); leads = λ e k F l. W.leads e k l }
  where
    real : (x : ℕ) → Fixed g x → NotFwd (node g x)
    real x (inl e) = rw e tt
    real x (inr (y, hs, e)) = rw e tt

-- the forwards from a stack's top, shortened
pub short-later : (L made : ℕ) (s : List ℕ) {g : Graph} {c c' : m.Held} → Stands g c (store_of L made s) c' → Later made (graph_of L s) made (shortened (top_of c'.stack) (graph_of L s))
unfolding top_of shortened
short-later L made s {g} {c} {c'} S = led-later made (graph_of L s) _ (go c.stack c'.stack S.helds.stack)
  where
    go : (hs N : List ℕ) → Each (Reps S.world g (store_of L made s).nodes) hs N → LedOtherwise (λ x. x < made) (graph_of L s) (shortened (top_of N) (graph_of L s))
    go [] [] e = led-same (λ x. x < made) (graph_of L s) (graph_of L s) refl
    go [] (a ∷ N) e = absurd e
    go (h ∷ hs) [] e = absurd e
    go (h ∷ hs) (a ∷ N) (r, es) = shortened-leads (λ x. x < made) (graph_of L s) a r.to (leads-keep (graph_of L s) (ours-made L made s S) (λ x u. ap (λ (z : Graph). node z x) (sym (nodes-are L made s))) r.right)

-- the values of alternatives are new nodes
split-values : {w : World} {μ μ' : Store} {cs : List m.Held} (x : Turned m.Kept) → After w μ x (split μ' cs) → (c : m.Held) → Memᴰ c cs → Memᴰ c.value μ.free
split-values {μ = μ} {μ' = μ'} x (after-splits {ks = ks} {cs = cs} I) c w = I.new c.value (owned I.pool w)
  where
    owned : {ks : List m.Kept} {cs : List m.Held} {own : List ℕ} → Pool μ' ks cs own → Memᴰ c cs → Memᴰ c.value own
    owned empty u = absurd (Memᴰ.not-nil u)
    owned (join {c = d} {cs = ds} {own = own} S p a) u = go (Memᴰ.cases_cons u) (λ v. owned p v)
      where
        go : (c ≡ d) ⊎ Memᴰ c ds → (Memᴰ c ds → Memᴰ c.value own) → Memᴰ c.value (S.world.owned ++ own)
        go (inl e) ih = Memᴰ.append_left own (subst (λ (y : m.Held). Ours S.world y.value) (sym e) (leads-from (λ y. Ours S.world y) μ'.nodes S.helds.value.to S.helds.value.right))
        go (inr v) ih = Memᴰ.append_right S.world.owned (ih v)

module _ (l : e.Limits) (n : ℕ) (code : List ℕ) (st : State) (s results : List ℕ) (b : Bounded l n st s results) (some : 1 ≤ st.waiting) (held : Held) (G : RowGot l.nodes n st.head s held) (R : Runs l n code st s results) where
  abbrev L : ℕ
  L = l.nodes

  abbrev cs₀ : List m.Held
  cs₀ = rest l n code st s results b some held G s

  sized : Sized held.roots
  sized = let h = b.handles in let k = G.count in (omega arith, omega arith)

  before : AllSearched L st.made (held_in L s held ∷ cs₀) s
  before = let h = b.head in let w = b.waiting in subst (λ (cs : List m.Held). AllSearched L st.made cs s) (front-is L l.pool n st.head st.waiting s held h some w G) R.searched

  -- what the turn asks
  pub front-searched : Searched L st.made (value_in held) s
  front-searched = record { closed = before.closed; resumes = subst (ResumesIn L st.made s) (value-is L st.made held s sized) (before.resumes (held_in L s held) (Memᴰ.head refl)) }

  -- after a shortcut of the front's forwards
  module _ (s₁ : List ℕ) (D : Shortened L held.top s s₁) (top : top_of (held_in L s held).stack ≡ held.top) where
    later₁ : Later st.made (graph_of L s) st.made (graph_of L s₁)
    later₁ = subst (Later st.made (graph_of L s) st.made) (ap (λ (t : ℕ). shortened t (graph_of L s)) top ∙ sym (ap (λ (m : Memory). m.graph) D.is)) (short-later L st.made s (H l n code st s results b some held G R).stands)

    marks₁ : (x : ℕ) → get_or (marks_of L s₁) x 0 ≡ get_or (marks_of L s) x 0
    marks₁ x = ap (λ (m : Memory). get_or m.marks x 0) D.is

    whole : (c : m.Held) → Memᴰ c (held_in L s held ∷ cs₀) → (o : List ℕ) × Ground st.made (graph_of L s) o (roots_of c) c.value
    whole c w =
        let h = H l n code st s results b some held G R in
        let r = pool-ground R.book R.fine L st.made s (join h.stands h.others h.apart) (h.sound, h.sounds) c w in
        (r.0, r.1)

    pub short-searched : AllSearched L st.made (held_in L s held ∷ cs₀) s₁
    short-searched = record {
      closed = closed-later before.closed later₁ (marks_of L s₁) marks₁;
      resumes = λ c w. resumes-later before.closed later₁ (whole c w).1 (links_of L s) (marks_of L s₁) (links_of L s₁) (λ x q. marks₁ x ∙ q) (λ x q. marks₁ x) (λ x q o. ap (λ (m : Memory). get_or m.links x 0) D.is) (before.resumes c w);
    }

  -- after the front's turn
  module _ (under : st.turns < l.budget) (s₁ : List ℕ) (r : t.Turned) (X : TurnTaken L (20 * l.pool) code st.made held s s₁ r) where
    others : (c : m.Held) → Memᴰ c cs₀ → ResumesIn L st.made s₁ c.value
    others c w =
        let h = H l n code st s results b some held G R in
        let z = Z l n code st s results b some held G under s₁ r X R in
        let o = pool-ground R.book R.fine L st.made s h.others h.sounds c w in
        resumes-later before.closed X.later o.1 (links_of L s) (marks_of L s₁) (links_of L s₁) X.finished
        (λ x u. z.marks x (o.1.below x u) (λ q. h.apart x q (o.2 x u)))
        (λ x u v. z.links x (o.1.below x u) (λ q. h.apart x q (o.2 x u)))
        (before.resumes c (Memᴰ.tail w))

    pub rest-searched : AllSearched L st.made cs₀ s₁
    rest-searched = record { closed = X.searched.closed; resumes = others }

    -- with more computations behind the others
    joined : (ds : List m.Held) → ((c : m.Held) → Memᴰ c ds → ResumesIn L st.made s₁ c.value) → AllSearched L st.made (cs₀ ++ ds) s₁
    joined ds f = record { closed = X.searched.closed; resumes = λ c w. go c (Memᴰ.append_cases cs₀ w) }
      where
        go : (c : m.Held) → Memᴰ c cs₀ ⊎ Memᴰ c ds → ResumesIn L st.made s₁ c.value
        go c (inl w) = others c w
        go c (inr w) = f c w

    pub went-searched : (top : ℕ) → AllSearched L st.made (cs₀ ++ held_in L s₁ (with_top held top) ∷ []) s₁
    went-searched top = joined (held_in L s₁ (with_top held top) ∷ []) (λ c w. subst (λ (y : m.Held). ResumesIn L st.made s₁ y.value) (sym (Memᴰ.eq_of_singleton w)) (subst (ResumesIn L st.made s₁) (sym (value-is L st.made (with_top held top) s₁ sized)) X.searched.resumes))

    pub split-searched : (count : ℕ) → r.what ≡ Split count → AllSearched L st.made (cs₀ ++ alts_in L (20 * l.pool) held.roots.n count s₁) s₁
    unfolding took_of
    split-searched count w = joined (alts_in L (20 * l.pool) held.roots.n count s₁) (λ c u. unmarked-resumes st.made (graph_of L s₁) (marks_of L s₁) (links_of L s₁) c.value (X.searched.closed.new c.value (new c u)))
      where
        new : (c : m.Held) → Memᴰ c (alts_in L (20 * l.pool) held.roots.n count s₁) → st.made ≤ c.value
        new c u =
            let h = H l n code st s results b some held G R in
            let p = took l n code st s results b some held G under s₁ r X R in
            let a = store-stands R.book R.fine h.k h.sound (store_of L st.made s) (held_in L s held) h.stands L (room_bound h.room) in
            let v = split-values (m.turn (compile R.book) h.k) (subst (After h.stands.world (store_of L st.made s) (m.turn (compile R.book) h.k)) (sym p ∙ ap (took_of L (20 * l.pool) held s s₁ r) w) a) c u in
            go v (dec_lt c.value st.made)
          where
            go : Memᴰ c.value (store_of L st.made s).free → Dec (c.value < st.made) → st.made ≤ c.value
            go v (yes q) = absurd (made-taken L st.made c.value s q c.value v refl)
            go v (no q) = omega arith

    -- by the state that follows
    others-are : rest l n code st s results b some held G s₁ ≡ cs₀
    others-are = others-stay l n code st s results b some held G under s₁ r X R

    pub after-went : (s₂ : List ℕ) (st₂ : State) → WentOn l n (after_turn l.pool st) (with_top held r.top) r.made s₁ s₂ st₂ → SearchedIn l n st₂ s₂
    after-went s₂ st₂ W =
        let p : st.waiting - 1 + 1 ≡ suc (st.waiting - 1) = add-one (st.waiting - 1) in
        let q : pool_of L l.pool n (place_of l.pool st.head 1) (st.waiting - 1 + 1) s₂ ≡ cs₀ ++ held_in L s₁ (with_top held r.top) ∷ [] = rw p (W.pool ∙ ap (λ (cs : List m.Held). cs ++ held_in L s₁ (with_top held r.top) ∷ []) others-are) in
        subst (λ (x : State). SearchedIn l n x s₂) (sym W.is) (subst (λ (cs : List m.Held). AllSearched L r.made cs s₂) (sym q) (searched-more L st.made r.made (cs₀ ++ held_in L s₁ (with_top held r.top) ∷ []) s₁ s₂ X.more.0 W.only.graph W.only.marks W.only.links (went-searched r.top)))

    pub after-split : (count : ℕ) → r.what ≡ Split count → (s₂ : List ℕ) (g : Result State Answer) → Spread l n (after_turn l.pool st) count r.made s₁ s₂ g → leb (st.waiting - 1 + count) l.pool ≡ true → SearchedIn l n (after_split (after_turn l.pool st) count r.made) s₂
    after-split count w s₂ g W a =
        let as₀ : List m.Held = alts_in L (20 * l.pool) held.roots.n count s₁ in
        let q : pool_of L l.pool n (place_of l.pool st.head 1) (st.waiting - 1 + count) s₂ ≡ cs₀ ++ as₀ = W.pool a ∙ ap (λ (cs : List m.Held). cs ++ alts_in L (20 * l.pool) n count s₁) others-are ∙ ap (λ (k : ℕ). cs₀ ++ alts_in L (20 * l.pool) k count s₁) (sym G.count) in
        subst (λ (cs : List m.Held). AllSearched L r.made cs s₂) (sym q) (searched-more L st.made r.made (cs₀ ++ as₀) s₁ s₂ X.more.0 W.only.graph W.only.marks W.only.links (split-searched count w))

    pub after-end : SearchedIn l n (after_turn l.pool st) s₁
    after-end = subst (λ (cs : List m.Held). AllSearched L st.made cs s₁) (sym others-are) rest-searched

    pub after-value : (w : ℕ) (s₂ : List ℕ) → Kept L s₁ s₂ → SearchedIn l n (after_value (after_turn l.pool st) w) s₂
    after-value w s₂ K =
        let h = b.head in let i = b.waiting in let j = b.handles in
        let q : pool_of L l.pool n (place_of l.pool st.head 1) (st.waiting - 1) s₂ ≡ cs₀ = pool-same L l.pool n (place_of l.pool st.head 1) (st.waiting - 1) s₁ s₂ j.1 (place_inside l.pool st.head 1 h (omega arith)) (omega arith) K.rest K.links ∙ others-are in
        subst (λ (cs : List m.Held). AllSearched L st.made cs s₂) (sym q) (searched-more L st.made st.made cs₀ s₁ s₂ (omega arith) K.graph K.marks K.links rest-searched)
