-- The calls that are walked, one behind the other.
-- Here, in order: how code ended; the model call by call; what stays; the loop's facts, before each call and at its end.
-- Assumes nothing.
use Prim.Native.Nat.{ℕ, suc, ◌+◌, ◌-◌, ◌≤◌, ◌<◌}
use native.Mathlib.Omega.{arith}
use native.Mathlib.Numerals.{add-one}
use mathlib.Core.Path.{◌≡◌, refl, sym, ap, ◌∙◌, subst}
use mathlib.Core.Logic.{◌⊎◌, inl, inr}
use mathlib.Core.List.{List, [], ◌∷◌, Memᴰ}
use lib.ListN.{length, get_or, take, drop}
use lib.Seq.{get_or-set_other, get_or-take}
use Rattle.heap.specs.Build.{up_from}
use Rattle.heap.specs.Graph.{Graph, var, node}
use Rattle.heap.specs.Store.{Store}
use Rattle.engine.specs.Compile.{Program, compile}
use Rattle.engine.specs.Machine as m
use Rattle.standing.specs.Stands.{Ours}
use Rattle.store.specs.Regions.{Memory, graph_of, links_of, store_of, Did, set_link}
use Rattle.store.specs.declared.NodeNo.{NodeNo}
use Rattle.store.proofs.Laws.{length-graph}
use Rattle.alternatives.proofs.Steps.{made-taken, nodes-are}
use Rattle.machine.specs.Tables.{Space}
use Rattle.pool.specs.Ring.{SameLinks}
use Rattle.machine.specs.View.{stack_of, stop_of}
use Rattle.machine.specs.Contract.{Kept, Fine}
use Rattle.machine.specs.Drive.{drive_on, top_stop, Topped}
use Rattle.machine.specs.declared.Regs.{Regs}
use Rattle.machine.specs.declared.Ended.{Ended}
use Rattle.machine.specs.declared.Stop.{Stop}
use Rattle.machine.specs.declared.Stop.TheVariants.{Demand, Becomes, Parts, Fails, Misfits, Broken, Full}
use Rattle.turns.specs.Calls.{Stacked, Calls, CallLinks, HitCall, Driven}
use Rattle.seek.specs.Path.{CallAt}
use Rattle.turns.proofs.Stops.{demands-call, becomes-call}
use Rattle.turns.proofs.Climbing.{stacked-demand, stacked-distinct, stacked-few, stacked-ours}
use Rattle.turns.proofs.Rooms.{low-top}
use Rattle.machine.proofs.Frames.{kept_then, has_kept}
use Rattle.turns.proofs.Links.{stack-links, stack_push}

-- no call is demanded
abbrev NoDemand : m.Stop Store → Type 0
NoDemand (m.demand N μ) = ⊥
NoDemand (m.becomes h r N μ) = Unit
NoDemand (m.parts h ks μ) = Unit
NoDemand (m.fails μ) = Unit
NoDemand (m.misfits μ) = Unit
NoDemand m.broken = Unit
NoDemand m.full = Unit

no-demand : (L base : ℕ) (s : List ℕ) (r : Regs) (x : Stop) → ((h : NodeNo) → x ≡ Demand h → ⊥) → NoDemand (stop_of L base s r x)
unfolding stop_of
no-demand L base s r (Demand k) e = absurd (e k refl)
no-demand L base s r (Becomes k j) e = tt
no-demand L base s r (Parts k) e = tt
no-demand L base s r Fails e = tt
no-demand L base s r Misfits e = tt
no-demand L base s r Broken e = tt
no-demand L base s r Full e = tt

-- the model, call by call
module _ (p : Program) where
  drive-next : (n : ℕ) (N : List ℕ) (μ : Store) (M : List ℕ) (μ' : Store) → top_stop p N μ ≡ m.demand M μ' → drive_on (suc n) p N μ ≡ drive_on n p M μ'
  unfolding top_stop m.drive
  drive-next n [] μ M μ' e = cc
  drive-next n (t ∷ N) μ M μ' e = rw (e, m.drive)

  drive-ends : (n : ℕ) (N : List ℕ) (μ : Store) (x : m.Stop Store) → NoDemand x → top_stop p N μ ≡ x → drive_on (suc n) p N μ ≡ x
  unfolding top_stop m.drive
  drive-ends n [] μ x d e = e
  drive-ends n (t ∷ N) μ (m.demand M μ') d e = absurd d
  drive-ends n (t ∷ N) μ (m.becomes h r M μ') d e = rw (e, m.drive)
  drive-ends n (t ∷ N) μ (m.parts h ks μ') d e = rw (e, m.drive)
  drive-ends n (t ∷ N) μ (m.fails μ') d e = rw (e, m.drive)
  drive-ends n (t ∷ N) μ (m.misfits μ') d e = rw (e, m.drive)
  drive-ends n (t ∷ N) μ m.broken d e = rw (e, m.drive)
  drive-ends n (t ∷ N) μ m.full d e = rw (e, m.drive)

  drive-over : (N : List ℕ) (μ : Store) → drive_on 0 p N μ ≡ m.broken
  unfolding m.drive
  drive-over N μ = refl

-- what stays
kept-link : {L base made h v : ℕ} {s s' : List ℕ} → Did L s s' (set_link h v) → Kept L base made s s'
kept-link {L} {base} {made} d = record {
  nodes = ap (λ (x : Memory). take made x.graph) d.is;
  marks = ap (λ (x : Memory). x.marks) d.is;
  list = ap (λ (x : Memory). x.list) d.is;
  places = ap (λ (x : Memory). x.places) d.is;
  frames = ap (λ (x : Memory). x.frames) d.is;
  before = ap (λ (x : Memory). take (base + 2440) x.rest) d.is;
  behind = ap (λ (x : Memory). drop (base + 3016) x.rest) d.is;
  long = d.long;
}

-- a node that was made
pub row_kept : (L base made : ℕ) (s s' : List ℕ) → Kept L base made s s' → (y : ℕ) → y < made → node (graph_of L s') y ≡ node (graph_of L s) y
row_kept L base made s s' K y lt = sym (get_or-take made (graph_of L s') y var lt) ∙ ap (λ (g : Graph). node g y) K.nodes ∙ get_or-take made (graph_of L s) y var lt

-- the store by its graph
pub store-graph : (L k : ℕ) (s s' : List ℕ) → graph_of L s' ≡ graph_of L s → store_of L k s' ≡ store_of L k s
unfolding store_of
store-graph L k s s' e = ap (λ (g : Graph). record { nodes = g; free = up_from k (L - k) }) e

module _ (L base : ℕ) (code : List ℕ) (n top made : ℕ) (s₀ : List ℕ) where
  module _ (C : Calls L base code top made s₀) where
    abbrev p : Program
    p = compile C.book

    -- before each call
    pub record Driving (s : List ℕ) (t k left : ℕ) : Type 0 where
      pub onward : drive_on n p (stack_of L s₀ top) (store_of L made s₀) ≡ drive_on left p (stack_of L s t) (store_of L k s)
      pub stack : Stacked C.book C.graph C.value C.world (store_of L made s₀) (store_of L k s) (stack_of L s t)
      pub links : CallLinks L made C.world s₀ s
      pub deep : (x : ℕ) → Memᴰ x (stack_of L s₀ top) → Memᴰ x (stack_of L s t) × (get_or (links_of L s) x 0 ≡ get_or (links_of L s₀) x 0)

    pub driving-over : {s : List ℕ} {t k left : ℕ} → Driving s t k left → (r : Regs) → left ≤ 0 → stop_of L base s r Broken ≡ drive_on n p (stack_of L s₀ top) (store_of L made s₀)
    unfolding stop_of
    driving-over {s} {t} {k} {left} D r h = sym (D.onward ∙ ap (λ (j : ℕ). drive_on j p (stack_of L s t) (store_of L k s)) (let e : left ≡ 0 = omega arith in e) ∙ drive-over p (stack_of L s t) (store_of L k s))

    module _ {s : List ℕ} {t k left : ℕ} (D : Driving s t k left) (K : Kept L base made s₀ s) (more : made ≤ k) {s₁ : List ℕ} {a : Ended} (T : Topped L base code t k s s₁ a) where
      stops : stop_of L base s₁ a.regs a.stop ≡ top_stop p (stack_of L s t) (store_of L k s)
      stops = T.is p (has_kept K p C.tables) C.coded (low-top C.book C.fine C.accepted C.graph C.good C.value (stack_of L s t) D.stack)

      pub driving-ends : 0 < left → ((h : NodeNo) → a.stop ≡ Demand h → ⊥) → stop_of L base s₁ a.regs a.stop ≡ drive_on n p (stack_of L s₀ top) (store_of L made s₀)
      driving-ends h e =
          let q : left ≡ suc (left - 1) = omega arith in
          sym (drive-ends p (left - 1) (stack_of L s t) (store_of L k s) (stop_of L base s₁ a.regs a.stop) (no-demand L base s₁ a.regs a.stop e) (sym stops))
          ∙ ap (λ (j : ℕ). drive_on j p (stack_of L s t) (store_of L k s)) (sym q)
          ∙ sym D.onward

      -- what is to become a forward is a call
      pub driving-hit : HitCall L s₁ a.stop
      unfolding stop_of
      driving-hit = go a.stop stops
        where
          go : (x : Stop) → stop_of L base s₁ a.regs x ≡ top_stop p (stack_of L s t) (store_of L k s) → HitCall L s₁ x
          go (Demand h) e = tt
          go (Becomes h j) e = subst (λ (z : Graph). CallAt z h.0) (nodes-are L a.regs.made s₁) (becomes-call C.book C.graph C.value (stack_of L s t) D.stack h.0 j.0 (stack_of L s₁ a.regs.top) (store_of L a.regs.made s₁) (sym e))
          go (Parts h) e = tt
          go Fails e = tt
          go Misfits e = tt
          go Broken e = tt
          go Full e = tt

      pub driving-links : CallLinks L made C.world s₀ s₁
      driving-links x h o = ap (λ (l : List ℕ). get_or l x 0) T.links ∙ D.links x h o

      -- the entries that were there keep their links
      pub driving-deep : SameLinks (links_of L s₀) (links_of L s₁) (stack_of L s₀ top)
      driving-deep x w = ap (λ (l : List ℕ). get_or l x 0) T.links ∙ (D.deep x w).1

      module _ (room : Space L base s₀) (h : NodeNo) (e : a.stop ≡ Demand h) where
        abbrev N : List ℕ
        N = stack_of L s t

        top-is : top_stop p N (store_of L k s) ≡ m.demand (h.0 ∷ N) (store_of L a.regs.made s₁)
        unfolding stop_of
        top-is = sym stops ∙ ap (stop_of L base s₁ a.regs) e ∙ ap (λ (z : List ℕ). m.demand (h.0 ∷ z) (store_of L a.regs.made s₁)) (ap (stack_of L s₁) T.top ∙ stack-links L s s₁ t T.links)

        stack₁ : Stacked C.book C.graph C.value C.world (store_of L made s₀) (store_of L a.regs.made s₁) (h.0 ∷ N)
        unfolding top_stop
        stack₁ = go (stack_of L s t) D.stack top-is
          where
            go : (M : List ℕ) → Stacked C.book C.graph C.value C.world (store_of L made s₀) (store_of L k s) M → top_stop p M (store_of L k s) ≡ m.demand (h.0 ∷ N) (store_of L a.regs.made s₁)
                → Stacked C.book C.graph C.value C.world (store_of L made s₀) (store_of L a.regs.made s₁) (h.0 ∷ N)
            go [] S q = absurd S.each
            go (y ∷ M) S q = stacked-demand C.book C.fine C.graph C.good C.value y M S (h.0 ∷ N) (store_of L a.regs.made s₁) q

        long : length (store_of L a.regs.made s₁).nodes ≡ L
        long = ap length (nodes-are L a.regs.made s₁) ∙ length-graph L s₁

        ours : Ours stack₁.world h.0
        ours = stacked-ours C.book C.fine C.graph C.good C.value stack₁ h.0 (Memᴰ.head refl)

        pub driving-inside : h.0 < L
        driving-inside = let i = stack₁.holds.in_q h.0 ours in let j = long in omega arith

        module _ {s₂ : List ℕ} (d : Did L s₁ s₂ (set_link h.0 t)) where
          pushed : stack_of L s₂ (suc h.0) ≡ h.0 ∷ N
          pushed =
              let same : stack_of L s₁ t ≡ stack_of L s t = stack-links L s s₁ t T.links in
              let few = stacked-few C.book C.fine C.graph C.good C.value stack₁ in
              let apart = (stacked-distinct C.book C.fine C.graph C.good C.value stack₁).0 in
              let j = long in let i = ap length same in
              stack_push L s₁ s₂ h.0 t (let a = T.kept.long in let b = K.long in omega arith) driving-inside d (λ w. apart h.0 (subst (Memᴰ h.0) same w) refl) (omega arith)
              ∙ ap (λ (z : List ℕ). h.0 ∷ z) same

          stored : store_of L a.regs.made s₂ ≡ store_of L a.regs.made s₁
          stored = store-graph L a.regs.made s₁ s₂ (ap (λ (x : Memory). x.graph) d.is)

          -- the call that is walked instead was one before, if it was made
          called : (x : ℕ) → x < made → x ≡ h.0 → CallAt (graph_of L s₀) x
          called x lt q =
              let y : CallAt (graph_of L s₁) x = subst (CallAt (graph_of L s₁)) (sym q) (subst (λ (z : Graph). CallAt z h.0) (nodes-are L a.regs.made s₁) (demands-call p N (store_of L k s) h.0 N (store_of L a.regs.made s₁) top-is)) in
              (y.0, y.1, sym (row_kept L base made s₀ s₁ (kept_then {k' = k} more K T.kept) x lt) ∙ y.2)

          apart_from : (x : ℕ) → x < made → ¬ (Ours C.world x × CallAt (graph_of L s₀) x) → Ours C.world h.0 ⊎ Memᴰ h.0 (store_of L made s₀).free → x ≡ h.0 → ⊥
          apart_from x lt o (inl u) q = o (subst (Ours C.world) (sym q) u, called x lt q)
          apart_from x lt o (inr u) q = made-taken L made x s₀ lt h.0 u q

          pub driving-next : (left' : ℕ) → left ≡ left' + 1 → Driving s₂ (h.0 + 1) a.regs.made left'
          driving-next left' one = subst (λ (j : ℕ). Driving s₂ j a.regs.made left') (sym (add-one h.0)) (record {
            onward = D.onward ∙ ap (λ (j : ℕ). drive_on j p N (store_of L k s)) q ∙ drive-next p left' N (store_of L k s) (h.0 ∷ N) (store_of L a.regs.made s₁) top-is ∙ ap (λ (z : List ℕ). drive_on left' p z (store_of L a.regs.made s₁)) (sym pushed) ∙ ap (drive_on left' p (stack_of L s₂ (suc h.0))) (sym stored);
            stack = subst (λ (z : Store). Stacked C.book C.graph C.value C.world (store_of L made s₀) z (stack_of L s₂ (suc h.0))) (sym stored) (subst (Stacked C.book C.graph C.value C.world (store_of L made s₀) (store_of L a.regs.made s₁)) (sym pushed) stack₁);
            links = λ x i o. ap (λ (z : Memory). get_or z.links x 0) d.is ∙ get_or-set_other (links_of L s₁) h.0 x t 0 (λ u. apart_from x i o (stack₁.new h.0 ours) u) ∙ driving-links x i o;
            deep = λ x w. (subst (Memᴰ x) (sym pushed) (Memᴰ.tail (D.deep x w).0), ap (λ (z : Memory). get_or z.links x 0) d.is ∙ get_or-set_other (links_of L s₁) h.0 x t 0 ((stacked-distinct C.book C.fine C.graph C.good C.value stack₁).0 x (D.deep x w).0) ∙ driving-deep x w);
          })
            where
              q : left ≡ suc left'
              q = omega arith

  -- what the loop keeps besides
  pub driving-kept : {s s₁ s₂ : List ℕ} {t k : ℕ} {a : Ended} {h v : ℕ} → Kept L base made s₀ s → made ≤ k → Topped L base code t k s s₁ a → Did L s₁ s₂ (set_link h v) → Kept L base made s₀ s₂
  driving-kept {t = t} {k = k} {a = a} K more T d = kept_then more K (kept_then {k' = a.regs.made} T.made T.kept (kept-link d))

  -- what `drive` promises: of a call whose code ends with no other call, and of the last call that may be walked
  pub driven-ends : {s s₁ : List ℕ} {t k left : ℕ} {a : Ended} → ((C : Calls L base code top made s₀) → Driving C s t k left) → Kept L base made s₀ s → made ≤ k → Topped L base code t k s s₁ a → 0 < left → ((h : NodeNo) → a.stop ≡ Demand h → ⊥) → Driven L base code n top made s₀ s₁ a
  driven-ends D K more T some e = record {
    is = λ C. driving-ends C (D C) K more T some e;
    links = λ C. driving-links C (D C) K more T;
    hit = λ C. driving-hit C (D C) K more T;
    deep = λ C. driving-deep C (D C) K more T;
    kept = kept_then more K T.kept;
    more = let k = T.made in omega arith;
    fine = T.fine;
  }

  pub driven-over : {s : List ℕ} {t k left : ℕ} → ((C : Calls L base code top made s₀) → Driving C s t k left) → Kept L base made s₀ s → made ≤ k → left ≤ 0 → (r : Regs) → Fine r → made ≤ r.made → Driven L base code n top made s₀ s (record { regs = r; stop = Broken })
  driven-over D K more none r fine made' = record {
    is = λ C. driving-over C (D C) r none;
    links = λ C. (D C).links;
    hit = λ C. tt;
    deep = λ C x w. ((D C).deep x w).1;
    kept = K;
    more = made';
    fine = fine;
  }
