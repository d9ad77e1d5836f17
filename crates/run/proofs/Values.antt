-- A step that ends the run before a turn, and one whose front is a value.
-- Here, in order: an empty pool; a budget that is used; the handles of the front; what may be read for its result; the result's record.
-- Assumes nothing.
use Prim.Native.Nat.{ℕ, suc, ◌+◌, ◌*◌, ◌-◌, ◌≤◌, ◌<◌}
use native.Mathlib.Omega.{arith}
use native.Mathlib.Numerals.{add-one}
use mathlib.Core.Path.{◌≡◌, refl, ap, sym, ◌∙◌, subst}
use mathlib.Core.Bool.{Bool, true, false}
use mathlib.Core.List.Memᴰ
use mathlib.Core.List.{List, [], ◌∷◌, ◌++◌, Memᴰ}
use lib.ListN.{length, get_or, take, drop, length-append}
use lib.Dec.{leb, ltb}
use lib.Seq.{length-take-le, take_at}
use borrow.Author.Tests.{le-ltb}
use Rattle.std.specs.Prelude.{Result, Ok, Err}
use Rattle.book.specs.Answers.{counts}
use Rattle.heap.specs.Graph.{Graph, write_each}
use Rattle.heap.specs.Build.{up_from}
use Rattle.heap.specs.Store.{Store}
use Rattle.engine.specs.Compile.{compile}
use Rattle.engine.specs.Machine as m
use Rattle.engine.specs.Run as e
use Rattle.engine.specs.Run.{◌⊕◌}
use Rattle.standing.specs.Shared.{store_moment, StoreNext, store_ends, store_next, wrote, store_taken, store_step}
use Rattle.standing.specs.Moments.{StandsNext}
use Rattle.standing.proofs.Moments.{step-stands}
use Rattle.standing.proofs.Walks.{stands-part}
use Rattle.store.specs.Regions.{graph_of, links_of, rest_of, store_of}
use Rattle.pool.specs.declared.Held.{Held}
use Rattle.store.specs.Roots.{roots_of}
use Rattle.pool.specs.Ring.{place_of, held_in, pool_of, row_of, RowGot}
use Rattle.pool.proofs.Rings.{pool-first, pool-kept, place_inside}
use Rattle.writer.specs.Walk.{Reads}
use Rattle.turns.specs.declared.What.TheVariants.{Wrote}
use Rattle.turns.specs.declared.Turned as t
use Rattle.turns.specs.Front.{TurnTaken, took_of}
use Rattle.run.specs.declared.State.{State}
use Rattle.run.specs.declared.Answer.{Answer}
use Rattle.run.specs.declared.Answer.TheVariants.{Emptied, Spent, NoRoom}
use Rattle.run.specs.Given.{answer_is}
use Rattle.run.specs.Between.{counts_in, moment_of, next_of, Bounded, Runs}
use Rattle.run.specs.Arms.{after_turn, after_value, Valued, value_by}
use Rattle.run.proofs.Fronts.{rest, H}
use Rattle.run.proofs.Nexts.{moment-is, store_is, turns-in, counts-value, on_store_lem, stood, others-stay, took}

-- before a turn
module _ (l : e.Limits) (n : ℕ) (code : List ℕ) (st : State) (s results : List ℕ) (b : Bounded l n st s results) (R : Runs l n code st s results) (s₂ results₂ : List ℕ) where
  before : (z : StoreNext) → store_step (compile R.book) l (moment_of l n st s results) ≡ z → StandsNext R.book R.fine l (e.step (m.turn (compile R.book)) l R.moment) z
  before z p = subst (StandsNext R.book R.fine l (e.step (m.turn (compile R.book)) l R.moment)) p (step-stands R.book R.fine l R.moment (moment_of l n st s results) R.stands)

  pub empty-next : st.waiting ≡ 0 → StandsNext R.book R.fine l (e.step (m.turn (compile R.book)) l R.moment) (next_of l n s₂ results₂ (Err Emptied))
  unfolding next_of answer_is moment_of pool_of up_from store_step
  empty-next w =
      let q : moment_of l n st s results ≡ store_moment (store_of l.nodes st.made s) [] (counts_in st) (take st.written results) = moment-is refl (ap (λ (k : ℕ). pool_of l.nodes l.pool n st.head k s) w) refl refl in
      before (store_ends e.emptied) (ap (store_step (compile R.book) l) q)

  pub spent-next : 1 ≤ st.waiting → l.budget ≤ st.turns → StandsNext R.book R.fine l (e.step (m.turn (compile R.book)) l R.moment) (next_of l n s₂ results₂ (Err Spent))
  unfolding next_of answer_is moment_of store_step
  spent-next w u =
      let h = b.head in let v = b.waiting in
      let q : moment_of l n st s results ≡ store_moment (store_of l.nodes st.made s) (row_of l.nodes s n st.head ∷ pool_of l.nodes l.pool n (place_of l.pool st.head 1) (st.waiting - 1) s) (counts_in st) (take st.written results)
      = moment-is refl (pool-first l.nodes l.pool n st.head st.waiting s h w v) refl refl in
      let t : ltb (e.turns_of (counts_in st)) l.budget ≡ false = rw turns-in (le-ltb st.turns l.budget u) in
      let y : store_step (compile R.book) l (store_moment (store_of l.nodes st.made s) (row_of l.nodes s n st.head ∷ pool_of l.nodes l.pool n (place_of l.pool st.head 1) (st.waiting - 1) s) (counts_in st) (take st.written results)) ≡ store_ends e.spent = rw (t, store_step) in
      before (store_ends e.spent) (ap (store_step (compile R.book) l) q ∙ y)

-- a list that is not empty is its first element and the others
first-others : (xs : List ℕ) → 1 ≤ length xs → get_or xs 0 0 ∷ drop 1 xs ≡ xs
first-others [] h = absurd (omega arith)
first-others (x ∷ xs) h = refl

-- a pool in memories whose links and rest are the same
pub pool-same : (L places n head waiting : ℕ) (s s' : List ℕ) → n ≤ 9 → head < places → waiting ≤ places → rest_of L s' ≡ rest_of L s → links_of L s' ≡ links_of L s → pool_of L places n head waiting s' ≡ pool_of L places n head waiting s
pool-same L places n head waiting s s' f h w p q = pool-kept L places n head waiting s s' f h w (ap (take (20 * places)) p) (λ x u. ap (λ (k : List ℕ). get_or k x 0) q)

module _ (l : e.Limits) (n : ℕ) (code : List ℕ) (st : State) (s results : List ℕ) (b : Bounded l n st s results) (some : 1 ≤ st.waiting) (held : Held) (G : RowGot l.nodes n st.head s held)
    (under : st.turns < l.budget) (s₁ : List ℕ) (r : t.Turned) (X : TurnTaken l.nodes (20 * l.pool) code st.made held s s₁ r) (R : Runs l n code st s results)
    (nine : length held.roots.at ≡ 9) (w : r.what ≡ Wrote) where
  handles-are : (held_in l.nodes s held).value ∷ (held_in l.nodes s held).askers ≡ roots_of held.roots
  unfolding held_in
  handles-are =
      let a = b.handles in let c = G.count in
      let f : length (take held.roots.n held.roots.at) ≡ held.roots.n = length-take-le held.roots.n held.roots.at (omega arith) in
      first-others (take held.roots.n held.roots.at) (omega arith)

  -- its handles can be read
  pub value-reads : Reads (graph_of l.nodes s₁) (roots_of held.roots)
  unfolding store_of
  value-reads =
      let h = H l n code st s results b some held G R in
      let P = stands-part h.stands h.sound.whole.good in
      let f : (k : ℕ) → Memᴰ k (roots_of held.roots) → Memᴰ k (((held_in l.nodes s held).value ∷ (held_in l.nodes s held).askers) ++ (held_in l.nodes s held).stack)
      = λ k u. Memᴰ.append_left (held_in l.nodes s held).stack (subst (Memᴰ k) (sym handles-are) u) in
      subst (λ (g : Graph). Reads g (roots_of held.roots)) (sym (X.still w)) (record { own = h.stands.world.owned; all = _; part = P; handle = λ k u. P.root k (f k u) })

  abbrev terms₁ : List ℕ
  terms₁ = write_each l.nodes (graph_of l.nodes s₁) (roots_of held.roots)

  terms-are : write_each l.nodes (graph_of l.nodes s) ((held_in l.nodes s held).value ∷ (held_in l.nodes s held).askers) ≡ terms₁
  terms-are = ap (write_each l.nodes (graph_of l.nodes s)) handles-are ∙ ap (λ (g : Graph). write_each l.nodes g (roots_of held.roots)) (sym (X.still w))

  abbrev record₁ : List ℕ
  record₁ = e.result_record (st.turns + 1) terms₁

  abbrev out₁ : List ℕ
  out₁ = take st.written results

  record_is : e.result_record (suc (e.turns_of (counts_in st))) (write_each l.nodes (graph_of l.nodes s) ((held_in l.nodes s held).value ∷ (held_in l.nodes s held).askers)) ≡ record₁
  record_is = rw (turns-in st, terms-are, add-one)

  written_is : length out₁ ≡ st.written
  written_is = let a = b.written in let c = b.lent in length-take-le st.written results (omega arith)

  long-is : length (out₁ ++ record₁) ≡ st.written + length record₁
  long-is = length-append out₁ record₁ ∙ ap (λ (k : ℕ). k + length record₁) written_is

  pub value-next : (s₂ results₂ : List ℕ) (g : Result State Answer) → Valued l (after_turn l.pool st) terms₁ s₁ s₂ results results₂ g → StandsNext R.book R.fine l (e.step (m.turn (compile R.book)) l R.moment) (next_of l n s₂ results₂ g)
  unfolding took_of next_of moment_of store_taken value_by answer_is
  value-next s₂ results₂ g W = go (leb (st.written + length record₁) l.results) refl
    where
      terms₀ : List ℕ
      terms₀ = write_each l.nodes (graph_of l.nodes s) ((held_in l.nodes s held).value ∷ (held_in l.nodes s held).askers)

      cs₁ : List m.Held
      cs₁ = rest l n code st s results b some held G s

      μ₁ : Store
      μ₁ = store_of l.nodes st.made s

      y : store_step (compile R.book) l (moment_of l n st s results) ≡ store_taken l μ₁ cs₁ (counts_in st) out₁ (wrote terms₀)
      y = on_store_lem l n code st s results b some held G under s₁ r X R (wrote terms₀) (sym (took l n code st s results b some held G under s₁ r X R) ∙ ap (took_of l.nodes (20 * l.pool) held s s₁ r) w)

      go : (a : Bool) → leb (st.written + length record₁) l.results ≡ a → StandsNext R.book R.fine l (e.step (m.turn (compile R.book)) l R.moment) (next_of l n s₂ results₂ g)
      go false a =
          let f : g ≡ Err NoRoom = W.is ∙ rw a in
          let d : leb (length (out₁ ++ record₁)) l.results ≡ false = rw long-is a in
          let v : store_taken l μ₁ cs₁ (counts_in st) out₁ (wrote terms₀) ≡ store_ends e.no_room = rw (record_is, d, store_taken) in
          stood l n code st s results b some held G under s₁ r X R (next_of l n s₂ results₂ g) (y ∙ v ∙ ap (next_of l n s₂ results₂) (sym f))
      go true a =
          let f : g ≡ Ok (after_value (after_turn l.pool st) (st.written + length record₁)) = W.is ∙ rw a in
          let d : leb (length (out₁ ++ record₁)) l.results ≡ true = rw long-is a in
          let v : store_taken l μ₁ cs₁ (counts_in st) out₁ (wrote terms₀) ≡ store_next (store_moment μ₁ cs₁ (counts_in st ⊕ counts 1 0 0 0 1 0 0) (out₁ ++ record₁)) = rw (record_is, d, store_taken) (ap (λ (x : List ℕ). store_next (store_moment μ₁ cs₁ (counts_in st ⊕ counts 1 0 0 0 1 0 0) (out₁ ++ x))) record_is) in
          let h = b.head in let i = b.waiting in let j = b.handles in
          let q : pool_of l.nodes l.pool n (place_of l.pool st.head 1) (st.waiting - 1) s₂ ≡ cs₁
          = pool-same l.nodes l.pool n (place_of l.pool st.head 1) (st.waiting - 1) s₁ s₂ j.1 (place_inside l.pool st.head 1 h (omega arith)) (omega arith) W.kept.rest W.kept.links
          ∙ others-stay l n code st s results b some held G under s₁ r X R in
          let o : take (st.written + length record₁) results₂ ≡ out₁ ++ record₁ = ap (take (st.written + length record₁)) (W.bytes a) ∙ take_at (out₁ ++ record₁) (drop (st.written + length record₁) results) (st.written + length record₁) long-is in
          let z : moment_of l n (after_value (after_turn l.pool st) (st.written + length record₁)) s₂ results₂ ≡ store_moment μ₁ cs₁ (counts_in st ⊕ counts 1 0 0 0 1 0 0) (out₁ ++ record₁)
          = moment-is (store_is l.nodes st.made s₂ s (W.kept.graph ∙ X.still w)) q (sym (counts-value l.pool st (st.written + length record₁))) o in
          stood l n code st s results b some held G under s₁ r X R (next_of l n s₂ results₂ g) (y ∙ v ∙ ap store_next (sym z) ∙ ap (next_of l n s₂ results₂) (sym f))
