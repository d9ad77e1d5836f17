-- What a step's parts ask, after the front's turn.
-- Here, in order: how many alternatives; the turn; the state without its front; what follows.
-- Assumes nothing.
use Prim.Native.Nat.{ℕ, ◌+◌, ◌*◌, ◌-◌, ◌≤◌, ◌<◌}
use native.Mathlib.Omega.{arith}
use mathlib.Core.Path.{◌≡◌, ap, sym, ◌∙◌, subst}
use mathlib.Core.List.{List}
use lib.ListN.{length}
use Rattle.mem.specs.Words.{words}
use Rattle.heap.specs.Store.{Store}
use Rattle.engine.specs.Turn.{Turned}
use Rattle.engine.specs.Compile.{compile}
use Rattle.engine.specs.Machine as m
use Rattle.engine.specs.Run as e
use Rattle.standing.specs.Shared.{split}
use Rattle.standing.specs.Stands.{World, After, after-splits}
use Rattle.standing.proofs.Turns.{store-stands}
use Rattle.standing.proofs.Room.{room_bound}
use Rattle.standing.proofs.Moments.{pool-length}
use Rattle.store.specs.Regions.{AllRoom, Room, graph_of, store_of}
use Rattle.copier.specs.Listed.{Clean}
use Rattle.machine.specs.Tables.{code_bound}
use Rattle.pool.specs.declared.Held.{Held}
use Rattle.store.specs.Roots.{roots_of}
use Rattle.pool.specs.Ring.{Sized, place_of, held_in, RowGot}
use Rattle.pool.proofs.Rings.{place_inside}
use Rattle.writer.specs.Walk.{Reads}
use Rattle.turns.specs.declared.What.TheVariants.{Split, Wrote}
use Rattle.turns.specs.declared.Turned as t
use Rattle.turns.specs.Front.{Space, Front, value_in, Searched, TurnTaken, took_of}
use Rattle.turns.proofs.Few.{AtMost, machine-few}
use Rattle.run.specs.declared.State.{State}
use Rattle.run.specs.Between.{Bounded, Runs}
use Rattle.run.specs.Arms.{after_turn}
use Rattle.run.proofs.Fronts.{front, H}
use Rattle.run.proofs.Nexts.{Z, took, alts-length}
use Rattle.run.proofs.Values.{value-reads}
use Rattle.run.proofs.Searches.{front-searched}

split-few : {w : World} {μ μ' : Store} {cs : List m.Held} (x : Turned m.Kept) → After w μ x (split μ' cs) → AtMost x → length cs ≤ 32
split-few x (after-splits I) f = let e = pool-length I.pool in omega arith

module _ (l : e.Limits) (n : ℕ) (code : List ℕ) (st : State) (s results : List ℕ) (b : Bounded l n st s results) (some : 1 ≤ st.waiting) (held : Held) (G : RowGot l.nodes n st.head s held) (R : Runs l n code st s results) where
  -- what the turn asks
  pub turn-asks : length code ≤ code_bound → Space l.nodes (20 * l.pool) s × (((length code ≤ code_bound) × (st.made ≤ l.nodes)) × (Sized held.roots × (Front l.nodes (20 * l.pool) code st.made held s × (Searched l.nodes st.made (value_in held) s × Clean l.nodes s))))
  turn-asks c =
      let p = b.room in let h = b.handles in let k = G.count in let q = b.pool in
      ((p.0, omega arith, omega arith), ((c, b.made), ((omega arith, omega arith), (front l n code st s results b some held G R, (front-searched l n code st s results b some held G R, R.clean)))))

  module _ (under : st.turns < l.budget) where
    pub taken-asks : (l.pool ≤ 1024) × (st.head < l.pool) × (st.turns < 1000000) × (1 ≤ st.waiting)
    taken-asks = let u = b.budget in (b.pool, b.head, omega arith, some)

    module _ (s₁ : List ℕ) (r : t.Turned) (X : TurnTaken l.nodes (20 * l.pool) code st.made held s s₁ r) where
      long₀ : length (words s₁) ≡ length (words s)
      long₀ = (Z l n code st s results b some held G under s₁ r X R).long

      room₀ : AllRoom l.nodes l.pool s₁
      room₀ = let p = b.room in let k = long₀ in (p.0, p.1, omega arith)

      pub few₀ : (count : ℕ) → r.what ≡ Split count → count ≤ 32
      unfolding took_of
      few₀ count w =
          let h = H l n code st s results b some held G R in
          let p = took l n code st s results b some held G under s₁ r X R in
          let a = store-stands R.book R.fine h.k h.sound (store_of l.nodes st.made s) (held_in l.nodes s held) h.stands l.nodes (room_bound h.room) in
          let c = alts-length l.nodes (20 * l.pool) held.roots.n count s₁ in
          let d = split-few (m.turn (compile R.book) h.k) (subst (After h.stands.world (store_of l.nodes st.made s) (m.turn (compile R.book) h.k)) (sym p ∙ ap (took_of l.nodes (20 * l.pool) held s s₁ r) w) a) (machine-few R.book R.accepted R.fine h.k h.sound) in
          omega arith

      module _ (st₁ : State) (i : st₁ ≡ after_turn l.pool st) where
        head₁ : (st₁.head < l.pool) × (st₁.waiting < l.pool)
        head₁ =
            let h = b.head in let w = b.waiting in
            let p = place_inside l.pool st.head 1 h (omega arith) in
            let a : st₁.head ≡ place_of l.pool st.head 1 = ap (λ (x : State). x.head) i in
            let c : st₁.waiting ≡ st.waiting - 1 = ap (λ (x : State). x.waiting) i in
            (omega arith, omega arith)

        pub went-asks : (top : ℕ) → AllRoom l.nodes l.pool s₁ × (((st₁.head < l.pool) × (st₁.waiting < l.pool)) × (Sized held.roots × (held.roots.n ≡ n)))
        went-asks top = let h = b.handles in let k = G.count in (room₀, (head₁, ((omega arith, omega arith), k)))

        pub split-asks : (count : ℕ) → r.what ≡ Split count → AllRoom l.nodes l.pool s₁ × (((st₁.head < l.pool) × (st₁.waiting < l.pool) × (count ≤ 32)) × ((1 ≤ n) × (n ≤ 9) × (st₁.begun ≤ 32000001) × (st₁.split ≤ 1000000)))
        split-asks count w =
            let h = b.handles in let x = b.begun in let y = b.others in let u = b.budget in
            let a : st₁.begun ≡ st.begun = ap (λ (x : State). x.begun) i in
            let c : st₁.split ≡ st.split = ap (λ (x : State). x.split) i in
            (room₀, ((head₁.0, head₁.1, few₀ count w), (h.0, h.1, omega arith, omega arith)))

        pub value-asks : length held.roots.at ≡ 9 → r.what ≡ Wrote → Room l.nodes s₁ × (Reads (graph_of l.nodes s₁) (roots_of held.roots) × ((Clean l.nodes s₁ × (held.roots.n ≤ 9) × (st₁.turns ≤ 1000000) × (st₁.values ≤ 1000000)) × ((st₁.written ≤ l.results) × (l.results ≤ 65536) × (l.results ≤ length results))))
        value-asks nine w =
            let h = b.handles in let k = G.count in let p = b.room in let q = long₀ in let y = b.others in let u = b.budget in
            let a : st₁.turns ≡ st.turns + 1 = ap (λ (x : State). x.turns) i in
            let c : st₁.values ≡ st.values = ap (λ (x : State). x.values) i in
            let d : st₁.written ≡ st.written = ap (λ (x : State). x.written) i in
            let v = b.written in
            ((p.0, omega arith), (value-reads l n code st s results b some held G under s₁ r X R nine w, (((Z l n code st s results b some held G under s₁ r X R).clean, omega arith, omega arith, omega arith), (omega arith, b.most, b.lent))))

        pub end-asks : (st₁.failed ≤ 1000000) × (st₁.misfits ≤ 1000000)
        end-asks =
            let y = b.others in let u = b.budget in
            let a : st₁.failed ≡ st.failed = ap (λ (x : State). x.failed) i in
            let c : st₁.misfits ≡ st.misfits = ap (λ (x : State). x.misfits) i in
            (omega arith, omega arith)
