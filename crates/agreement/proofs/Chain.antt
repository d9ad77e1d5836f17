-- The kept stack: each call on it is what the walk from the top of the value comes to.
-- Assumes nothing.
use Prim.Native.Nat.{ℕ, zero, suc, ◌≤◌, ◌<◌}
use native.Mathlib.Nat.{not-suc-le-zero, le_trans}
use native.Mathlib.Omega.{arith}
use mathlib.Core.Path.{◌≡◌, refl, sym, ap, ◌∙◌}
use mathlib.Core.Logic.{◌⊎◌, inl, inr, ◌≢◌}
use mathlib.Core.Option.{some}
use mathlib.Core.List.{List, [], ◌∷◌}
use lib.ListN.{length, get_or}
use Rattle.book.specs.Syntax.{con, fun, Book}
use Rattle.heap.specs.Graph.{Graph, Node, cell, var, fwd, look, follow, first_call, Comp}
use Rattle.heap.proofs.Laws.Good.{Good, follow-ends, follow-real}
use Rattle.heap.proofs.Laws.Forward.{Keeps, Call, look-follow}
use Rattle.heap.proofs.Laws.First.{found}
use Rattle.engine.specs.Plain.{Reached, demands, narrows, rewrites, fails, misfits, stuck, walk, walk_call, no_func, step_at, turn_within, turn}
use Rattle.engine.specs.Compile.{compile}
use Rattle.engine.specs.Machine.{settle}
use Rattle.agreement.proofs.Fine.{Takes}
use Rattle.agreement.proofs.Trees.{get_d-mem}
use Rattle.agreement.proofs.Calls.{FineBook, known-call, call-arity, walk_call-fun, args-length, arg_positions}
use Rattle.agreement.proofs.Demand.{Low, Demanded, tree-demands, Proper, tree-proper}

-- The lowest is the first call of the value v, and each other what the one below it demands: as far as they are calls still, which only the top may not be.
abbrev pub Chain : Book → Graph → ℕ → List ℕ → Type 0
Chain book g v [] = Unit
Chain book g v (h ∷ []) = (h < length g) × (Call g h → first_call (length g) g v ≡ some (follow g h))
Chain book g v (h ∷ k ∷ N) = (h < length g) × (Call g h → walk_call book g k ≡ demands (follow g h)) × Call g k × Chain book g v (k ∷ N)

pub chain-top : (book : Book) (g : Graph) (v h : ℕ) (N : List ℕ) → Chain book g v (h ∷ N) → h < length g
chain-top book g v h [] c = c.0
chain-top book g v h (k ∷ N) c = c.0

demands-call : (book : Book) (g : Graph) (h k : ℕ) → walk_call book g h ≡ demands k → Call g h
unfolding walk_call
demands-call book g h k w = go (look g h) refl
  where
    not_stuck : walk_call book g h ≡ stuck → ⊥
    not_stuck e = let z : ◌≡◌ {A = ℕ} 0 1 = cc in omega arith

    go : (x : Node) → look g h ≡ x → Call g h
    go (cell (fun f) hs) e = (f, hs, e)
    go (cell (con c) hs) e = absurd (not_stuck (rw (e, walk_call)))
    go var e = absurd (not_stuck (rw (e, walk_call)))
    go (fwd x) e = absurd (not_stuck (rw (e, walk_call)))

module _ (book : Book) (B : FineBook book) (g : Graph) (G : Good (Takes (compile book)) g) where
  -- what a call demands lies further down
  pub call-demands : (h : ℕ) (c : Call g h) → h < length g → (k : ℕ) → walk_call book g h ≡ demands k
      → Demanded (compile book) g G (G.rank (follow g h)) k (λ g'. walk (get_or book.funcs c.0 no_func).tree book.types g' c.1)
  unfolding compile
  call-demands h (f, hs, e) i k w =
      tree-demands (compile book) g G (G.rank (follow g h)) (get_or book.funcs f no_func).tree (arg_positions (get_or book.funcs f no_func).arity) (B.trees f (known-call book B g G h f hs e)) hs
      (call-arity book B g G h f hs e ∙ sym (args-length _)) low k (sym (walk_call-fun book g h f hs e) ∙ w)
    where
      low : Low (compile book) g G (G.rank (follow g h)) hs
      low j p = G.kid (follow g h) (get_or hs j 0) (follow-ends G h i).inside (unfold look in (rw e (get_d-mem hs j 0 p)))

  -- what is known of the end of a call's walk
  pub call-proper : (h : ℕ) → Call g h → h < length g → Proper (compile book) g G (G.rank (follow g h)) (walk_call book g h)
  unfolding compile
  call-proper h (f, hs, e) i =
      rw (walk_call-fun book g h f hs e)
      (tree-proper (compile book) g G (G.rank (follow g h)) (get_or book.funcs f no_func).tree (arg_positions (get_or book.funcs f no_func).arity) (B.trees f (known-call book B g G h f hs e)) hs
      (call-arity book B g G h f hs e ∙ sym (args-length _)) low)
    where
      low : Low (compile book) g G (G.rank (follow g h)) hs
      low j p = G.kid (follow g h) (get_or hs j 0) (follow-ends G h i).inside (unfold look in (rw e (get_d-mem hs j 0 p)))

  pub step-demands : (n : ℕ) (c : Comp) (h k : ℕ) → walk_call book c.graph h ≡ demands k → step_at (suc n) book c h ≡ step_at n book c k
  unfolding step_at
  step-demands n c h k e = rw (e, step_at)

  -- enough is enough
  pub step-fuel : (n m h v : ℕ) (askers : List ℕ) → h < length g → G.rank h < n → G.rank h < m → step_at n book (record { graph = g; value = v; askers = askers }) h ≡ step_at m book (record { graph = g; value = v; askers = askers }) h
  unfolding step_at
  step-fuel zero m h v askers i p q = absurd (not-suc-le-zero p)
  step-fuel (suc n) zero h v askers i p q = absurd (not-suc-le-zero q)
  step-fuel (suc n) (suc m) h v askers i p q = go (λ k. step-fuel n m k v askers) (walk_call book g h) refl
    where
      C : Comp
      C = record { graph = g; value = v; askers = askers }

      go : ((k : ℕ) → k < length g → G.rank k < n → G.rank k < m → step_at n book C k ≡ step_at m book C k) → (x : Reached) → walk_call book g h ≡ x → step_at (suc n) book C h ≡ step_at (suc m) book C h
      go ih (demands k) e =
          let D = call-demands h (demands-call book g h k e) i k e in
          let E = (follow-ends G h i).lower in
          let l = D.lower in
          step-demands n C h k e ∙ ih k D.inside (omega arith) (omega arith) ∙ sym (step-demands m C h k e)
      go ih (narrows x t) e = rw (e, step_at)
      go ih (rewrites rs slots) e = rw (e, step_at)
      go ih fails e = rw (e, step_at)
      go ih misfits e = rw (e, step_at)
      go ih stuck e = rw (e, step_at)

  -- the walk from the top of the value comes to the top of the stack
  module _ (v : ℕ) (askers : List ℕ) where
    abbrev C₀ : Comp
    C₀ = record { graph = g; value = v; askers = askers }

    pub chain-turn : (N : List ℕ) (h : ℕ) → Chain book g v (h ∷ N) → Call g h → turn book C₀ ≡ step_at (length g) book C₀ (follow g h)
    unfolding turn turn_within
    chain-turn [] h (i, f) c = rw (f c, turn_within)
    chain-turn (k ∷ N) h (i, f, ck, ch) c =
        let ik = chain-top book g v k N ch in
        let Ek = follow-ends G k ik in
        let r = follow-real G (follow g k) Ek.inside Ek.real in
        let w : walk_call book g (follow g k) ≡ demands (follow g h) = same-call (follow g k) k r ∙ f c in
        let D = call-demands k ck ik (follow g h) (f c) in
        let l : G.rank (follow g h) < G.rank (follow g k) = D.lower in
        let a : G.rank (follow g k) < length g = G.low (follow g k) Ek.inside in
        chain-turn N k ch ck
        ∙ step-fuel (length g) (suc (length g)) (follow g k) v askers Ek.inside a (omega arith)
        ∙ step-demands (length g) C₀ (follow g k) (follow g h) w
      where
        same-call : (x y : ℕ) → follow g x ≡ follow g y → walk_call book g x ≡ walk_call book g y
        same-call x y e = unfold walk_call in (rw (look-follow g x y e, walk_call))

  -- the stack stays a chain when a call at its top, or one of lower rank, is made a forward
  pub chain-kept : (N : List ℕ) (t h v : ℕ) (g' : Graph) → v < length g → Keeps h g g' → Call g t → G.rank h ≤ G.rank (follow g t) → Chain book g v (t ∷ N) → Chain book g' v (t ∷ N)
  chain-kept [] t h v g' iv K ct l (i, f) = (
    le_trans i K.more,
    λ c. (let F = found g G (length g) v iv (G.low v iv) (follow g t) (f ct) in
        let y = K.follows t i in
        let b = G.low v iv in
        let m = K.more in
        F.kept h g' K (c.0, c.1, sym (look-follow g' t (follow g t) y) ∙ c.2) (length g') (omega arith) ∙ ap some (sym y)),
  )
  chain-kept (k ∷ N) t h v g' iv K ct l (i, f, ck, ch) =
      let ik = chain-top book g v k N ch in
      let D = call-demands k ck ik (follow g t) (f ct) in
      let lo : G.rank (follow g t) < G.rank (follow g k) = D.lower in
      let y = K.follows t i in
      let n : follow g k ≢ h = λ e. (let z = ap G.rank e in omega arith) in
      let s : look g' k ≡ cell (fun ck.0) ck.1 = K.others k ik n (cell (fun ck.0) ck.1) ck.2 in (
        le_trans i K.more,
        (λ c. walk_call-fun book g' k ck.0 ck.1 s ∙ D.kept h g' K (c.0, c.1, sym (look-follow g' t (follow g t) y) ∙ c.2) ∙ ap demands (sym y)),
        (ck.0, ck.1, s),
        chain-kept N k h v g' iv K ck (omega arith) ch,
      )

  -- what is on top once the settled are popped
  abbrev pub Settled : ℕ → List ℕ → Type 0
  Settled v N = (N ≡ []) ⊎ ((h : ℕ) × (M : List ℕ) × (N ≡ h ∷ M) × Call g h × Chain book g v (h ∷ M))

  pub settle-chain : (v : ℕ) (N : List ℕ) → Chain book g v N → Settled v (settle g N)
  unfolding settle
  settle-chain v [] c = inl refl
  settle-chain v (h ∷ []) c = go (look g h) refl
    where
      go : (x : Node) → look g h ≡ x → Settled v (settle g (h ∷ []))
      go (cell (fun f) hs) e = rw (e, settle) (inr (h, [], refl, (f, hs, e), c))
      go (cell (con x) hs) e = rw (e, settle) (inl refl)
      go var e = rw (e, settle) (inl refl)
      go (fwd x) e = rw (e, settle) (inl refl)
  settle-chain v (h ∷ k ∷ N) c = go (look g h) refl (settle-chain v (k ∷ N) c.3)
    where
      go : (x : Node) → look g h ≡ x → Settled v (settle g (k ∷ N)) → Settled v (settle g (h ∷ k ∷ N))
      go (cell (fun f) hs) e d = rw (e, settle) (inr (h, k ∷ N, refl, (f, hs, e), c))
      go (cell (con x) hs) e d = rw (e, settle) d
      go var e d = rw (e, settle) d
      go (fwd x) e d = rw (e, settle) d
