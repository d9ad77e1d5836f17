-- A turn on the store stands for the turn of the machine's definition, of any accepted book.
-- Here, in order: how the code's end finishes the turn; a turn with any bound; with any bound that is at least the size of the computation's own graph.
-- Assumes nothing.
use Prim.Native.Nat.{ℕ, ◌+◌, ◌-◌, ◌≤◌}
use native.Mathlib.Omega.{arith}
use mathlib.Core.Path.{◌≡◌, refl, sym, ap, ◌∙◌, subst}
use mathlib.Core.Logic.{◌⊎◌, inl, inr}
use mathlib.Core.Option.{Option, none, some}
use mathlib.Core.List.{List, Memᴰ}
use lib.ListN.{length, length-set}
use lib.Seq.{get_or-set_other}
use Rattle.standing.specs.Stands.{World, Ours, Stands, Outside, Short, After, after-goes, after-splits, after-value, after-ended, after-lost, after-full}
use Rattle.book.specs.Syntax.{Symbol, Book}
use Rattle.heap.specs.Graph.{Graph, var, fwd, node, Comp}
use Rattle.heap.proofs.Laws.Alike.{rep-keep, each_keep}
use Rattle.engine.specs.Turn.{forward, alternatives, sizes, Turned}
use Rattle.engine.specs.Compile.{Program, compile}
use Rattle.engine.specs.Machine.{Kept, with_graph, turn_within, turn_on, Stop, demand, becomes, parts, fails, misfits, broken, full, Held, Told, stopped, own, held_of}
use Rattle.heap.specs.Store.{Store, take1}
use Rattle.standing.specs.Shared.{pour_all, finish, store_turn}
use Rattle.agreement.proofs.Agree.{Tidy, Sound, turns, turn_on-bound, turn-bound}
use Rattle.standing.proofs.Grows.{Grows, Stops, stops-demand, stops-becomes, stops-parts, stops-fails, stops-misfits, stops-broken, stops-full, Over}
use Rattle.standing.proofs.Step.{Tolds, same_bytes, same_stop, turn-alike}
use Rattle.agreement.proofs.Fine.{Takes}
use Rattle.agreement.proofs.Calls.{FineBook}
use Rattle.standing.proofs.Stands.{becomes-stands, outside-then, spread, spread-full}
use Rattle.engine.specs.Machine as Machine

module _ (Fine : Symbol → ℕ → Type 0) (m : Program) (g : Graph) (v : ℕ) (ws N₀ : List ℕ) (μ : Store) (c' : Held) (S : Stands g (record { value = v; askers = ws; stack = N₀ }) μ c') where
  abbrev w : World
  w = S.world

  abbrev c₀ : Comp
  c₀ = record { graph = g; value = v; askers = ws }

  grown-outside : {g' : Graph} {μ' : Store} → Grows w g μ g' μ' → Outside μ μ'
  grown-outside o = record { nodes = o.frame; size = o.same_length; less = o.less; distinct = o.holds.distinct }

  finishes : (x : Stop Graph) (y : Stop Store) → Tidy Fine c₀ x → Stops w g μ x y → After w μ (Machine.finish c₀ x) (finish c' y)
  unfolding Machine.finish finish with_graph forward Machine.parted
  finishes x y t (stops-demand o e) = after-lost
  finishes x y t (stops-becomes {h = h} {k = k} {r = r} {r' = r'} {N = N} {N' = N'} {g' = g'} {μ' = μ'} o hk rr e) =
      after-goes (becomes-stands {Fine = Fine} o.world g' μ' o.holds h k hk r r' rr t (record { value = v; askers = ws; stack = N }) (record { value = c'.value; askers = c'.askers; stack = N' })
      (record { value = rep-keep o.wider v c'.value S.helds.value; askers = each_keep o.wider ws c'.askers S.helds.askers; stack = e }))
      o.new
      (record {
        nodes = λ x nq nf. nodes' o k (o.holds.alike.right h k hk) r' x nq nf;
        size = (length-set μ'.nodes k (fwd r') ∙ o.same_length);
        less = o.less;
        distinct = o.holds.distinct;
      })
      (let i = o.count in let j = o.longer in let z : length g' - length g + length μ'.free ≡ length μ.free = omega arith in z)
    where
      nodes' : {g' : Graph} {μ' : Store} (o : Grows w g μ g' μ') (k : ℕ) → Ours o.world k → (r' x : ℕ) → ¬ (Ours (w) x) → ¬ (Memᴰ x μ.free) → node (forward μ'.nodes k r') x ≡ node μ.nodes x
      nodes' {μ' = μ'} o k q r' x nq nf = (get_or-set_other μ'.nodes k x (fwd r') var (λ e. both (o.new k q) e) ∙ o.frame x nf)
        where
          both : Ours (w) k ⊎ Memᴰ k μ.free → x ≡ k → ⊥
          both (inl a) e = nq (subst (Ours (w)) (sym e) a)
          both (inr a) e = nf (subst (λ (z : ℕ). Memᴰ z μ.free) (sym e) a)
  finishes x y t (stops-parts {h = h} {k = k} {ks = ks} {ks' = ks'} {g' = g'} {μ' = μ'} o hk e) = go (pour_all μ' c' k ks') refl
    where
      go : (z : Option (Store × List Held)) → pour_all μ' c' k ks' ≡ z → After w μ (Machine.finish c₀ (parts h ks g')) (finish c' (parts k ks' μ'))
      go none q =
          let i = spread-full Fine o.world g' v c'.value ws c'.askers c'.stack h k hk ks ks' μ' o.holds (rep-keep o.wider v c'.value S.helds.value) (each_keep o.wider ws c'.askers S.helds.askers) e t q in
          let j = o.count in let l = o.longer in
          rw (q, finish) (after-full {x = Machine.finish c₀ (parts h ks g')} (omega arith))
      go (some p) q =
          let I = spread Fine o.world g' v c'.value ws c'.askers c'.stack h k hk ks ks' μ' o.holds (rep-keep o.wider v c'.value S.helds.value) (each_keep o.wider ws c'.askers S.helds.askers) e t p.0 p.1 q in
          rw (q, finish) ((after-splits {n = length g' - length g + sizes (alternatives (record { graph = g'; value = v; askers = ws }) h ks)} (record { own = I.own; pool = I.pool; new = λ x z. o.less x (I.new x z); outside = outside-then (grown-outside o) I.outside; count = (let i = I.count in let j = o.count in let l = o.longer in omega arith) })))
  finishes x y t (stops-fails o) = after-ended
  finishes x y t (stops-misfits o) = after-ended
  finishes x y t stops-broken = after-lost
  finishes x y t (stops-full v) = after-full (short x t v)
    where
      short : (x : Stop Graph) → Tidy Fine c₀ x → Over (length g + length μ.free) x → Short (length μ.free) (Machine.finish c₀ x)
      short (demand N g') t v = tt
      short (becomes h r N g') t v = omega arith
      short (parts h ks g') t v = omega arith
      short (fails g') t v = let e : length g' ≡ length g = ap length t in absurd (omega arith)
      short (misfits g') t v = let e : length g' ≡ length g = ap length t in absurd (omega arith)
      short broken t v = tt
      short full t v = tt

  -- A turn on the store stands for a turn on the computation's own graph.
  pub turn-stands : (n : ℕ) → ((x : Stop Graph) → turn_on (λ x. x) own n m g (record { value = v; askers = ws; stack = N₀ }) ≡ stopped x → Tidy Fine c₀ x)
      → After w μ (turn_within n m (record { comp = c₀; stack = N₀ })) (store_turn n m μ c')
  unfolding turn_within store_turn
  turn-stands n t = go (turn_on (λ x. x) own n m g c) (turn_on (λ μ. μ.nodes) take1 n m μ c') refl refl (turn-alike m w g μ S.holds n c c' S.helds)
    where
      c : Held
      c = record { value = v; askers = ws; stack = N₀ }

      go : (a : Told Graph) (b : Told Store) → turn_on (λ x. x) own n m g c ≡ a → turn_on (λ μ. μ.nodes) take1 n m μ c' ≡ b → Tolds w g μ a b → After w μ (turn_within n m (record { comp = c₀; stack = N₀ })) (store_turn n m μ c')
      go a b p q same_bytes = rw (p, q, turn_within, store_turn) after-value
      go a b p q (same_stop {x = x} {y = y} z) = rw (p, q, turn_within, store_turn) (finishes x y (t x p) z)

module _ (book : Book) (B : FineBook book) (k : Kept) (s : Sound book B k.comp k.stack) (μ : Store) (c : Held) (S : Stands k.comp.graph (held_of k) μ c) where
  -- the bound on the store may be any that is at least the size of the computation's own graph
  pub store-stands : (n : ℕ) → length k.comp.graph ≤ n → After S.world μ (Machine.turn (compile book) k) (store_turn n (compile book) μ c)
  store-stands n l =
      subst (λ (x : Turned Kept). After S.world μ x (store_turn n (compile book) μ c)) (turn-bound book B k.comp.graph k.comp.value k.comp.askers s.whole n l k.stack s.chain)
      (turn-stands (Takes (compile book)) (compile book) k.comp.graph k.comp.value k.comp.askers k.stack μ c S n
      (λ x e. (turns book B k.comp.graph k.comp.value k.comp.askers s.whole k.stack s.chain).1 x (sym (turn_on-bound book B k.comp.graph k.comp.value k.comp.askers s.whole n l k.stack s.chain) ∙ e)))
