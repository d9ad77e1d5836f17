-- What comes of a step, by what came of the front's turn: it stands for what comes of the definition's step.
-- Here, in order: counts; moments in parts; the step on the store; goes on; alternatives; a value; ended; no node left; an empty pool, and a budget that is used.
-- Assumes nothing.
use Prim.Native.Nat.{ℕ, zero, suc, ◌+◌, ◌*◌, ◌-◌, ◌≤◌, ◌<◌}
use native.Mathlib.Omega.{arith}
use native.Mathlib.Numerals.{add-one}
use mathlib.Core.Path.{◌≡◌, refl, ap, sym, ◌∙◌, subst}
use mathlib.Core.Bool.{Bool, true, false}
use mathlib.Core.List.{List, [], ◌∷◌, ◌++◌}
use lib.ListN.{length, take, length-append}
use lib.Dec.{leb, ltb}
use borrow.Author.Tests.{lt-ltb}
use Rattle.std.specs.Prelude.{Result, Ok, Err}
use Rattle.std.proofs.Common.{add-zero}
use Rattle.book.specs.Answers.{Counts, counts}
use Rattle.heap.specs.Build.{up_from}
use Rattle.heap.specs.Store.{Store}
use Rattle.heap.proofs.Laws.Numbers.{up_from-length}
use Rattle.engine.specs.Turn as T
use Rattle.engine.specs.Turn.{Turned}
use Rattle.engine.specs.Compile.{compile}
use Rattle.engine.specs.Machine as m
use Rattle.engine.specs.Run as e
use Rattle.engine.specs.Run.{◌⊕◌}
use Rattle.standing.specs.Shared.{store_moment, StoreNext, store_ends, store_next, Took, went, split, ended, none_left, made_in, store_turn, store_taken, store_step}
use Rattle.standing.specs.Stands.{World, Ours, After, after-ended}
use Rattle.standing.specs.Moments.{StandsFor, stands-for, StandsNext, both_go}
use Rattle.standing.proofs.Turns.{store-stands}
use Rattle.standing.proofs.Stands.{pool-frame}
use Rattle.standing.proofs.Room.{room_bound, room-ended, nodes-ended}
use Rattle.standing.proofs.Moments.{step-stands, turn-known}
use Rattle.store.specs.Regions.{graph_of, store_of}
use Rattle.pool.specs.declared.Held.{Held}
use Rattle.pool.specs.Ring.{place_of, held_in, pool_of, RowGot}
use Rattle.pool.proofs.Rings.{pool-length}
use Rattle.alternatives.specs.Copies.{alts_in}
use Rattle.turns.specs.declared.What.TheVariants.{Went, Split, Failed, Misfit, NoneLeft, Lost}
use Rattle.turns.specs.declared.Turned as t
use Rattle.turns.specs.Front.{Stays, TurnTaken, took_of, with_top}
use Rattle.run.specs.declared.State.{State}
use Rattle.run.specs.declared.Answer.{Answer}
use Rattle.run.specs.declared.Answer.TheVariants.{NoNodes, NoPlaces}
use Rattle.run.specs.Given.{answer_is}
use Rattle.run.specs.Between.{counts_in, moment_of, next_of, Bounded, Runs}
use Rattle.run.specs.Arms.{after_turn, after_failed, after_misfit, after_went, after_split, after_value, WentOn, Spread, spread_by}
use Rattle.run.proofs.Fronts.{Here, L, base, rest, moment-front, H, front, elsewhere, rest-stays}

-- how many nodes a turn made
made-is : (L a b : ℕ) (s s' : List ℕ) → a ≤ b → b ≤ L → a + made_in (store_of L a s) (store_of L b s') ≡ b
unfolding made_in store_of
made-is L a b s s' h h' = let x = up_from-length (L - a) a in let y = up_from-length (L - b) b in omega arith

-- seven counts
counts-are : {a b c d e f g a' b' c' d' e' f' g' : ℕ} → a ≡ a' → b ≡ b' → c ≡ c' → d ≡ d' → e ≡ e' → f ≡ f' → g ≡ g' → counts a b c d e f g ≡ counts a' b' c' d' e' f' g'
counts-are p q r s t u v = λ i. counts (p i) (q i) (r i) (s i) (t i) (u i) (v i)

module _ (places : ℕ) (st : State) where
  counts-went : (L made : ℕ) (s s' : List ℕ) → st.made ≤ made → made ≤ L → counts_in st ⊕ counts 1 (made_in (store_of L st.made s) (store_of L made s')) 0 0 0 0 0 ≡ counts_in (after_went (after_turn places st) made)
  unfolding counts_in ◌⊕◌
  counts-went L made s s' h h' = counts-are refl (made-is L st.made made s s' h h') (add-zero _) (add-zero _) (add-zero _) (add-zero _) (add-zero _)

  counts-split : (L made count : ℕ) (s s' : List ℕ) → st.made ≤ made → made ≤ L → counts_in st ⊕ counts 1 (made_in (store_of L st.made s) (store_of L made s')) count 1 0 0 0 ≡ counts_in (after_split (after_turn places st) count made)
  unfolding counts_in ◌⊕◌
  counts-split L made count s s' h h' = counts-are refl (made-is L st.made made s s' h h') refl refl (add-zero _) (add-zero _) (add-zero _)

  pub counts-value : (w : ℕ) → counts_in st ⊕ counts 1 0 0 0 1 0 0 ≡ counts_in (after_value (after_turn places st) w)
  unfolding counts_in ◌⊕◌
  counts-value w = counts-are refl (add-zero _) (add-zero _) (add-zero _) refl (add-zero _) (add-zero _)

  counts-failed : counts_in st ⊕ e.tally T.failed ≡ counts_in (after_failed (after_turn places st))
  unfolding counts_in ◌⊕◌ e.tally
  counts-failed = counts-are refl (add-zero _) (add-zero _) (add-zero _) (add-zero _) refl (add-zero _)

  counts-misfit : counts_in st ⊕ e.tally T.misfit ≡ counts_in (after_misfit (after_turn places st))
  unfolding counts_in ◌⊕◌ e.tally
  counts-misfit = counts-are refl (add-zero _) (add-zero _) (add-zero _) (add-zero _) (add-zero _) refl

-- moments by their parts
pub moment-is : {μ μ' : Store} {cs cs' : List m.Held} {κ κ' : Counts} {o o' : List ℕ} → μ ≡ μ' → cs ≡ cs' → κ ≡ κ' → o ≡ o' → store_moment μ cs κ o ≡ store_moment μ' cs' κ' o'
moment-is p q r s = λ i. store_moment (p i) (q i) (r i) (s i)

pub store_is : (L made : ℕ) (s s' : List ℕ) → graph_of L s ≡ graph_of L s' → store_of L made s ≡ store_of L made s'
unfolding store_of
store_is L made s s' p = λ i. record { nodes = p i; free = up_from made (L - made) }

pub alts-length : (L base n count : ℕ) (s : List ℕ) → length (alts_in L base n count s) ≡ count
unfolding alts_in
alts-length L base n zero s = refl
alts-length L base n (suc i) s = let x = alts-length L base n i s in simp length-append (omega arith)

ended_is : {w : World} {μ : Store} {f : T.Ending} (x : Turned m.Kept) → After w μ x (ended f) → x ≡ T.ended f
ended_is x after-ended = refl

pub turns-in : (st : State) → e.turns_of (counts_in st) ≡ st.turns
unfolding e.turns_of counts_in
turns-in st = refl

-- a state whose pool is not empty and whose budget is not used, its front read and its turn taken
module _ (l : e.Limits) (n : ℕ) (code : List ℕ) (st : State) (s results : List ℕ) (b : Bounded l n st s results) (some : 1 ≤ st.waiting) (held : Held) (G : RowGot l.nodes n st.head s held)
    (under : st.turns < l.budget) (s₁ : List ℕ) (r : t.Turned) (X : TurnTaken l.nodes (20 * l.pool) code st.made held s s₁ r) (R : Runs l n code st s results) where
  abbrev h₀ : Here R.book R.fine l R.moment (store_of l.nodes st.made s) (held_in l.nodes s held) (rest l n code st s results b some held G s) (counts_in st) (take st.written results)
  h₀ = H l n code st s results b some held G R

  abbrev cs₀ : List m.Held
  cs₀ = rest l n code st s results b some held G s

  abbrev μ₀ : Store
  μ₀ = store_of l.nodes st.made s

  abbrev out₀ : List ℕ
  out₀ = take st.written results

  pub Z : Stays l.nodes (20 * l.pool) st.made (Ours h₀.stands.world) s s₁
  Z = X.stays (front l n code st s results b some held G R)

  pub took : took_of l.nodes (20 * l.pool) held s s₁ r r.what ≡ store_turn l.nodes (compile R.book) μ₀ (held_in l.nodes s held)
  took = X.is (front l n code st s results b some held G R)

  -- the step on the store is what the turn makes of it
  pub on_store_lem : (y : Took) → store_turn l.nodes (compile R.book) μ₀ (held_in l.nodes s held) ≡ y → store_step (compile R.book) l (moment_of l n st s results) ≡ store_taken l μ₀ cs₀ (counts_in st) out₀ y
  unfolding store_step
  on_store_lem y p =
      let u : ltb (e.turns_of (counts_in st)) l.budget ≡ true = rw turns-in (lt-ltb st.turns l.budget under) in
      ap (store_step (compile R.book) l) (moment-front l n code st s results b some held G) ∙ rw (u, store_step) (ap (store_taken l μ₀ cs₀ (counts_in st) out₀) p)

  -- so where that is what the code made of it
  pub stood : (z : StoreNext) → store_step (compile R.book) l (moment_of l n st s results) ≡ z → StandsNext R.book R.fine l (e.step (m.turn (compile R.book)) l R.moment) z
  stood z p = subst (StandsNext R.book R.fine l (e.step (m.turn (compile R.book)) l R.moment)) p (step-stands R.book R.fine l R.moment (moment_of l n st s results) R.stands)

  pub others-stay : rest l n code st s results b some held G s₁ ≡ cs₀
  others-stay = rest-stays l n code st s results b some held G R s₁ Z

  pub went-next : r.what ≡ Went → (s₂ : List ℕ) (st₂ : State) → WentOn l n (after_turn l.pool st) (with_top held r.top) r.made s₁ s₂ st₂ → StandsNext R.book R.fine l (e.step (m.turn (compile R.book)) l R.moment) (next_of l n s₂ results (Ok st₂))
  unfolding took_of next_of moment_of store_taken
  went-next w s₂ st₂ W =
      let y = on_store_lem (went (store_of l.nodes r.made s₁) (held_in l.nodes s₁ (with_top held r.top))) (sym took ∙ ap (took_of l.nodes (20 * l.pool) held s s₁ r) w) in
      let p : st.waiting - 1 + 1 ≡ suc (st.waiting - 1) = add-one (st.waiting - 1) in
      let q : pool_of l.nodes l.pool n (place_of l.pool st.head 1) (st.waiting - 1 + 1) s₂ ≡ cs₀ ++ held_in l.nodes s₁ (with_top held r.top) ∷ [] = rw p (W.pool ∙ ap (λ (cs : List m.Held). cs ++ held_in l.nodes s₁ (with_top held r.top) ∷ []) others-stay) in
      let z : moment_of l n (after_went (after_turn l.pool st) r.made) s₂ results ≡ store_moment (store_of l.nodes r.made s₁) (cs₀ ++ held_in l.nodes s₁ (with_top held r.top) ∷ []) (counts_in st ⊕ counts 1 (made_in μ₀ (store_of l.nodes r.made s₁)) 0 0 0 0 0) out₀
      = moment-is (store_is l.nodes r.made s₂ s₁ W.only.graph) q (sym (counts-went l.pool st l.nodes r.made s s₁ X.more.0 X.more.1)) refl in
      stood (next_of l n s₂ results (Ok st₂)) (y ∙ ap store_next (sym z ∙ ap (λ (x : State). moment_of l n x s₂ results) (sym W.is)))

  pub split-next : (count : ℕ) → r.what ≡ Split count → (s₂ : List ℕ) (g : Result State Answer) → Spread l n (after_turn l.pool st) count r.made s₁ s₂ g → StandsNext R.book R.fine l (e.step (m.turn (compile R.book)) l R.moment) (next_of l n s₂ results g)
  unfolding took_of next_of moment_of store_taken spread_by answer_is
  split-next count w s₂ g W = go (leb (st.waiting - 1 + count) l.pool) refl
    where
      as₀ : List m.Held
      as₀ = alts_in l.nodes (20 * l.pool) held.roots.n count s₁

      y : store_step (compile R.book) l (moment_of l n st s results) ≡ store_taken l μ₀ cs₀ (counts_in st) out₀ (split (store_of l.nodes r.made s₁) as₀)
      y = on_store_lem (split (store_of l.nodes r.made s₁) as₀) (sym took ∙ ap (took_of l.nodes (20 * l.pool) held s s₁ r) w)

      many : length as₀ ≡ count
      many = alts-length l.nodes (20 * l.pool) held.roots.n count s₁

      long : length cs₀ ≡ st.waiting - 1
      long = pool-length l.nodes l.pool n (place_of l.pool st.head 1) (st.waiting - 1) s

      go : (a : Bool) → leb (st.waiting - 1 + count) l.pool ≡ a → StandsNext R.book R.fine l (e.step (m.turn (compile R.book)) l R.moment) (next_of l n s₂ results g)
      go false a =
          let f : g ≡ Err NoPlaces = W.is ∙ rw a in
          let v : store_taken l μ₀ cs₀ (counts_in st) out₀ (split (store_of l.nodes r.made s₁) as₀) ≡ store_ends e.no_places = rw (long, many, a, store_taken) in
          stood (next_of l n s₂ results g) (y ∙ v ∙ ap (next_of l n s₂ results) (sym f))
      go true a =
          let f : g ≡ Ok (after_split (after_turn l.pool st) count r.made) = W.is ∙ rw a in
          let q : pool_of l.nodes l.pool n (place_of l.pool st.head 1) (st.waiting - 1 + count) s₂ ≡ cs₀ ++ as₀
          = W.pool a ∙ ap (λ (cs : List m.Held). cs ++ alts_in l.nodes (20 * l.pool) n count s₁) others-stay ∙ ap (λ (k : ℕ). cs₀ ++ alts_in l.nodes (20 * l.pool) k count s₁) (sym G.count) in
          let κ : counts_in (after_split (after_turn l.pool st) count r.made) ≡ counts_in st ⊕ counts 1 (made_in μ₀ (store_of l.nodes r.made s₁)) (length as₀) 1 0 0 0
          = sym (counts-split l.pool st l.nodes r.made count s s₁ X.more.0 X.more.1) ∙ ap (λ (k : ℕ). counts_in st ⊕ counts 1 (made_in μ₀ (store_of l.nodes r.made s₁)) k 1 0 0 0) (sym many) in
          let z : moment_of l n (after_split (after_turn l.pool st) count r.made) s₂ results ≡ store_moment (store_of l.nodes r.made s₁) (cs₀ ++ as₀) (counts_in st ⊕ counts 1 (made_in μ₀ (store_of l.nodes r.made s₁)) (length as₀) 1 0 0 0) out₀
          = moment-is (store_is l.nodes r.made s₂ s₁ W.only.graph) q κ refl in
          let d : leb (length cs₀ + length as₀) l.pool ≡ true = rw (long, many) a in
          let v : store_taken l μ₀ cs₀ (counts_in st) out₀ (split (store_of l.nodes r.made s₁) as₀) ≡ store_next (store_moment (store_of l.nodes r.made s₁) (cs₀ ++ as₀) (counts_in st ⊕ counts 1 (made_in μ₀ (store_of l.nodes r.made s₁)) (length as₀) 1 0 0 0) out₀) = rw (d, store_taken) in
          stood (next_of l n s₂ results g) (y ∙ v ∙ ap store_next (sym z) ∙ ap (next_of l n s₂ results) (sym f))

  pub full-next : r.what ≡ NoneLeft → (s₂ results₂ : List ℕ) → StandsNext R.book R.fine l (e.step (m.turn (compile R.book)) l R.moment) (next_of l n s₂ results₂ (Err NoNodes))
  unfolding took_of next_of store_taken answer_is
  full-next w s₂ results₂ = stood (next_of l n s₂ results₂ (Err NoNodes)) (on_store_lem none_left (sym took ∙ ap (took_of l.nodes (20 * l.pool) held s s₁ r) w))

  pub never-lost : r.what ≡ Lost → ⊥
  unfolding took_of
  never-lost w = turn-known R.book R.fine h₀.k h₀.sound μ₀ (held_in l.nodes s held) h₀.stands l.nodes (room_bound h₀.room) (sym took ∙ ap (took_of l.nodes (20 * l.pool) held s s₁ r) w)

  -- a computation that ended is gone; nodes that it made are given up
  ended-next : (f : T.Ending) → store_turn l.nodes (compile R.book) μ₀ (held_in l.nodes s held) ≡ ended f → (st₂ : State) → counts_in st ⊕ e.tally f ≡ counts_in st₂ → st₂.made ≡ st.made → st₂.written ≡ st.written
      → pool_of l.nodes l.pool n st₂.head st₂.waiting s₁ ≡ rest l n code st s results b some held G s₁ → StandsNext R.book R.fine l (e.step (m.turn (compile R.book)) l R.moment) (next_of l n s₁ results (Ok st₂))
  unfolding e.step e.taken next_of moment_of store_of
  ended-next f p st₂ κ m₂ w₂ c₂ =
      let u : ltb (e.turns_of (counts_in st)) l.budget ≡ true = rw turns-in (lt-ltb st.turns l.budget under) in
      let a : m.turn (compile R.book) h₀.k ≡ T.ended f = ended_is (m.turn (compile R.book) h₀.k) (subst (After h₀.stands.world μ₀ (m.turn (compile R.book) h₀.k)) p (store-stands R.book R.fine h₀.k h₀.sound μ₀ (held_in l.nodes s held) h₀.stands l.nodes (room_bound h₀.room))) in
      let d : e.step (m.turn (compile R.book)) l R.moment ≡ e.next (e.moment h₀.ks (counts_in st ⊕ e.tally f) out₀) = ap (e.step (m.turn (compile R.book)) l) h₀.is ∙ rw (u, e.step) (ap (e.taken (m.turn (compile R.book)) l h₀.ks (counts_in st) out₀) a) in
      let o = room-ended h₀.room (counts_in st ⊕ e.tally f) (nodes-ended (counts_in st) f) in
      let v : StandsFor R.book R.fine l (e.moment h₀.ks (counts_in st ⊕ e.tally f) out₀) (store_moment (store_of l.nodes st.made s₁) cs₀ (counts_in st ⊕ e.tally f) out₀)
      = stands-for (record { own = h₀.own; pool = pool-frame h₀.others (elsewhere l n code st s results b some held G R s₁ Z) }) h₀.sounds (record { left = o.left; small = o.small }) in
      let q : store_moment (store_of l.nodes st.made s₁) cs₀ (counts_in st ⊕ e.tally f) out₀ ≡ moment_of l n st₂ s₁ results
      = moment-is (ap (λ (k : ℕ). store_of l.nodes k s₁) (sym m₂)) (sym (c₂ ∙ others-stay)) κ (ap (λ (k : ℕ). take k results) (sym w₂)) in
      subst (λ (x : e.Next m.Kept). StandsNext R.book R.fine l x (store_next (moment_of l n st₂ s₁ results))) (sym d) (both_go (subst (StandsFor R.book R.fine l (e.moment h₀.ks (counts_in st ⊕ e.tally f) out₀)) q v))

  pub failed-next : r.what ≡ Failed → StandsNext R.book R.fine l (e.step (m.turn (compile R.book)) l R.moment) (next_of l n s₁ results (Ok (after_failed (after_turn l.pool st))))
  unfolding took_of
  failed-next w = ended-next T.failed (sym took ∙ ap (took_of l.nodes (20 * l.pool) held s s₁ r) w) (after_failed (after_turn l.pool st)) (counts-failed l.pool st) refl refl refl

  pub misfit-next : r.what ≡ Misfit → StandsNext R.book R.fine l (e.step (m.turn (compile R.book)) l R.moment) (next_of l n s₁ results (Ok (after_misfit (after_turn l.pool st))))
  unfolding took_of
  misfit-next w = ended-next T.misfit (sym took ∙ ap (took_of l.nodes (20 * l.pool) held s s₁ r) w) (after_misfit (after_turn l.pool st)) (counts-misfit l.pool st) refl refl refl
