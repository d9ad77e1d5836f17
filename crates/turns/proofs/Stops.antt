-- Where a call's code ends on the store: a call that is walked instead, and a call that becomes a forward, are calls there.
-- Here, in order: how code may end; the instructions' own tests; an instruction; code; a call that becomes a forward.
-- Assumes nothing.
use Prim.Native.Nat.{ℕ, zero, suc}
use mathlib.Core.Path.{◌≡◌, refl, sym, ap, ◌∙◌, subst}
use mathlib.Core.Bool.{Bool, true, false}
use mathlib.Core.Option.{Option, none, some}
use mathlib.Core.List.{List, [], ◌∷◌}
use lib.ListN.{length, get_or, get_elem?, take, drop}
use lib.Dec.{leb}
use Rattle.book.specs.Syntax.{Book, con, fun}
use Rattle.heap.specs.Graph.{Graph, Node, cell, var, fwd, node, follow, look}
use Rattle.heap.specs.Store.{Store, take1}
use Rattle.heap.proofs.Laws.Alike.{rep-look, leads-keep, leads-follow, leads-end}
use Rattle.engine.specs.Code.{Instr, load, branch, go, push, pop, make_anon, store_var, make_var, make_term, replace, narrow, choice, fail, wrong, decode, width}
use Rattle.engine.specs.Compile.{Program, compile}
use Rattle.engine.specs.Machine as m
use Rattle.standing.specs.Stands.{World, Ours}
use Rattle.standing.proofs.Grows.{Stops, stops-becomes}
use Rattle.standing.proofs.Step.{top-alike}
use Rattle.machine.specs.Drive.{top_stop}
use Rattle.seek.specs.Path.{CallAt}
use Rattle.turns.specs.Calls.{Stacked}

abbrev nodes_in : Store → Graph
nodes_in μ = μ.nodes

-- with the stack N: the call that is walked instead is one; the call that becomes a forward is where the stack's top leads to
abbrev EndsWell : List ℕ → m.Stop Store → Type 0
EndsWell N (m.demand M μ) = (h : ℕ) (M' : List ℕ) → M ≡ h ∷ M' → CallAt μ.nodes h
EndsWell N (m.becomes h r M μ) = (t : ℕ) × (get_elem? N 0 ≡ some t) × (h ≡ follow μ.nodes t)
EndsWell N (m.parts h ks μ) = Unit {0}
EndsWell N (m.fails μ) = Unit {0}
EndsWell N (m.misfits μ) = Unit {0}
EndsWell N m.broken = Unit {0}
EndsWell N m.full = Unit {0}

-- and the stack stays until then
abbrev GoesWell : List ℕ → m.Step Store → Type 0
GoesWell N (m.on (m.st I M R T F μ)) = M ≡ N
GoesWell N (m.ends x) = EndsWell N x

-- the instructions' own tests
need-well : (N : List ℕ) (o : Option ℕ) (k : ℕ → m.Step Store) → ((x : ℕ) → o ≡ some x → GoesWell N (k x)) → GoesWell N (m.need o k)
unfolding m.need
need-well N none k f = tt
need-well N (some x) k f = f x refl

when-well : (N : List ℕ) (b : Bool) (x : m.Step Store) → GoesWell N x → GoesWell N (m.when b x)
unfolding m.when
when-well N true x f = f
when-well N false x f = tt

made-well : (N : List ℕ) (o : Option (Store × ℕ)) (k : Store → ℕ → m.Step Store) → ((μ : Store) (x : ℕ) → GoesWell N (k μ x)) → GoesWell N (m.made o k)
unfolding m.made
made-well N none k f = tt
made-well N (some p) k f = f p.0 p.1

module _ (p : Program) where
  branch-well : (t r : ℕ) (x : Node) (I N : List ℕ) (R : Option ℕ) (T F : List ℕ) (μ : Store) → look μ.nodes r ≡ x → GoesWell N (m.on_branch nodes_in take1 p t r x (m.st I N R T F μ))
  unfolding m.on_branch look
  branch-well t r (cell (fun f) hs) I N R T F μ e = λ h M q. (let u : follow μ.nodes r ≡ h = cc in (f, hs, ap (node μ.nodes) (sym u) ∙ e))
  branch-well t r (cell (con c) hs) I N R T F μ e = go (m.arm_of p t c) refl
    where
      go : (o : Option ℕ) → m.arm_of p t c ≡ o → GoesWell N (m.on_branch nodes_in take1 p t r (cell (con c) hs) (m.st I N R T F μ))
      go none q = rw (q, m.on_branch) tt
      go (some j) q = rw (q, m.on_branch) refl
  branch-well t r var I N R T F μ e = refl
  branch-well t r (fwd k) I N R T F μ e = tt

  -- an instruction
  run-well : (i : Instr) (I N : List ℕ) (R : Option ℕ) (T F : List ℕ) (μ : Store) → GoesWell N (m.run nodes_in take1 p i (m.st I N R T F μ))
  unfolding m.run
  run-well (load ps) I N R T F μ = need-well N (get_elem? N 0) _ (λ t e. need-well N (m.at μ.nodes t ps) _ (λ h q. refl))
  run-well (branch t) I N R T F μ = need-well N R _ (λ r e. branch-well t r (look μ.nodes r) I N R T F μ refl)
  run-well (go o) I N R T F μ = tt
  run-well push I N R T F μ = need-well N R _ (λ r e. refl)
  run-well pop I N R T F μ = need-well N (get_elem? T 0) _ (λ r e. refl)
  run-well make_anon I N R T F μ = made-well N (take1 μ var) _ (λ μ' k. refl)
  run-well (store_var v) I N R T F μ = when-well N (leb v (length F)) _ (made-well N (take1 μ var) _ (λ μ' k. refl))
  run-well (make_var v) I N R T F μ = need-well N (get_elem? F v) _ (λ k e. refl)
  run-well (make_term s) I N R T F μ = when-well N (leb (m.arity_of p s) (length T)) _ (made-well N (take1 μ (cell s (take (m.arity_of p s) T))) _ (λ μ' k. refl))
  run-well replace I N R T F μ = need-well N (get_elem? N 0) _ (λ t e. need-well N R _ (λ r q. (t, e, refl)))
  run-well narrow I N R T F μ = need-well N R _ (λ r e. tt)
  run-well choice I N R T F μ = need-well N (get_elem? N 0) _ (λ t e. tt)
  run-well fail I N R T F μ = tt
  run-well wrong I N R T F μ = tt

  -- code
  exec-well : (n : ℕ) (I N : List ℕ) (R : Option ℕ) (T F : List ℕ) (μ : Store) → EndsWell N (m.exec nodes_in take1 n p (m.st I N R T F μ))
  unfolding m.exec m.step
  exec-well zero I N R T F μ = tt
  exec-well (suc n) I N R T F μ = go (m.run nodes_in take1 p (decode I) (m.st (drop (width (decode I)) I) N R T F μ)) refl (λ I' R' T' F' μ'. exec-well n I' N R' T' F' μ')
    where
      go : (x : m.Step Store) → m.run nodes_in take1 p (decode I) (m.st (drop (width (decode I)) I) N R T F μ) ≡ x → ((I' : List ℕ) (R' : Option ℕ) (T' F' : List ℕ) (μ' : Store) → EndsWell N (m.exec nodes_in take1 n p (m.st I' N R' T' F' μ')))
          → EndsWell N (m.exec nodes_in take1 (suc n) p (m.st I N R T F μ))
      go (m.on (m.st I' M R' T' F' μ')) e ih =
          let q : M ≡ N = subst (GoesWell N) e (run-well (decode I) (drop (width (decode I)) I) N R T F μ) in
          rw (e, m.exec) (subst (λ (l : List ℕ). EndsWell N (m.exec nodes_in take1 n p (m.st I' l R' T' F' μ'))) (sym q) (ih I' R' T' F' μ'))
      go (m.ends y) e ih = rw (e, m.exec) (subst (GoesWell N) e (run-well (decode I) (drop (width (decode I)) I) N R T F μ))

  top-well : (x : Node) (N : List ℕ) (μ : Store) → EndsWell N (m.on_top nodes_in take1 p x N μ)
  unfolding m.on_top
  top-well (cell (fun f) hs) N μ = exec-well (length p.code) (drop (get_or p.starts f 0) p.code) N none [] [] μ
  top-well (cell (con c) hs) N μ = tt
  top-well var N μ = tt
  top-well (fwd k) N μ = tt

  -- a call that is walked instead
  pub demands-call : (N : List ℕ) (μ : Store) (h : ℕ) (M : List ℕ) (μ' : Store) → top_stop p N μ ≡ m.demand (h ∷ M) μ' → CallAt μ'.nodes h
  unfolding top_stop
  demands-call [] μ h M μ' e = cc
  demands-call (t ∷ N) μ h M μ' e = subst (EndsWell (t ∷ N)) e (top-well (look μ.nodes t) (t ∷ N) μ) h M refl

  -- code runs for a call only
  runs_call : (x : Node) (N : List ℕ) (μ : Store) (h r : ℕ) (M : List ℕ) (μ' : Store) → m.on_top nodes_in take1 p x N μ ≡ m.becomes h r M μ' → (f : ℕ) × (hs : List ℕ) × (x ≡ cell (fun f) hs)
  unfolding m.on_top
  runs_call (cell (fun f) hs) N μ h r M μ' e = (f, hs, refl)
  runs_call (cell (con c) hs) N μ h r M μ' e = cc
  runs_call var N μ h r M μ' e = cc
  runs_call (fwd k) N μ h r M μ' e = cc

-- a call that becomes a forward: where the stack's top leads to, which is a call and stays one while nodes are made
module _ (book : Book) (g : Graph) (v : ℕ) where
  stays-call : {w₀ : World} {μ₀ μ : Store} (t : ℕ) (N : List ℕ) (C : Stacked book g v w₀ μ₀ μ (t ∷ N)) (h r : ℕ) (M : List ℕ) (μ' : Store) (y : m.Stop Graph) → Stops C.world g μ y (m.becomes h r M μ')
      → CallAt μ.nodes (follow μ.nodes t) → h ≡ follow μ'.nodes t → CallAt μ'.nodes h
  stays-call {μ = μ} t N C h r M μ' y (stops-becomes o a b c) (f, hs, e) q =
      let l = leads-keep μ'.nodes (λ x i. i) (λ x i. o.frame x (λ u. C.holds.idle x u i)) C.each.0.right in
      let same : follow μ'.nodes t ≡ C.each.0.to = leads-follow (λ x. Ours C.world x) μ'.nodes C.each.0.to l in
      let was : follow μ.nodes t ≡ C.each.0.to = leads-follow (λ x. Ours C.world x) μ.nodes C.each.0.to C.each.0.right in
      let ours = (leads-end (λ x. Ours C.world x) μ.nodes C.each.0.to C.each.0.right).0 in
      (f, hs, ap (node μ'.nodes) (q ∙ same) ∙ o.frame C.each.0.to (λ u. C.holds.idle C.each.0.to u ours) ∙ ap (node μ.nodes) (sym was) ∙ e)

  pub becomes-call : {w₀ : World} {μ₀ μ : Store} (N : List ℕ) (C : Stacked book g v w₀ μ₀ μ N) (h r : ℕ) (M : List ℕ) (μ' : Store) → top_stop (compile book) N μ ≡ m.becomes h r M μ' → CallAt μ'.nodes h
  unfolding top_stop look
  becomes-call [] C h r M μ' e = absurd C.each
  becomes-call {μ = μ} (t ∷ N) C h r M μ' e =
      let p : Program = compile book in
      let w = subst (EndsWell (t ∷ N)) e (top-well p (look μ.nodes t) (t ∷ N) μ) in
      let c = runs_call p (look μ.nodes t) (t ∷ N) μ h r M μ' e in
      let u : t ≡ w.0 = cc in
      stays-call t N C h r M μ' (m.on_top (λ x. x) m.own p (look g C.top) (C.top ∷ C.rest) g)
      (subst (Stops C.world g μ (m.on_top (λ x. x) m.own p (look g C.top) (C.top ∷ C.rest) g)) e (top-alike p C.world g μ C.holds (C.top ∷ C.rest) (t ∷ N) C.each (look g C.top) (look μ.nodes t) (rep-look C.holds.alike C.top t C.each.0)))
      c
      (w.2 ∙ ap (follow μ'.nodes) (sym u))
