-- The machine on the store does what it does on a computation's own graph.
-- Here, in order: one instruction; what was made is never unmade; the code of a call; the calls that are walked instead; a turn up to its step.
-- Assumes nothing.
use Prim.Native.Nat.{ℕ, zero, suc, ◌+◌, ◌<◌}
use native.Mathlib.Omega.{arith}
use mathlib.Core.Path.{◌≡◌, refl, sym, ap, subst}
use mathlib.Core.List.{List, [], ◌∷◌, reverse}
use mathlib.Core.Option.{Option, none, some}
use mathlib.Core.Bool.{Bool, true, false}
use lib.ListN.{length, get_or, get_elem?, take, drop, length-append}
use lib.Dec.{leb}
use Rattle.heap.specs.Alike.{Each, Mirror}
use Rattle.heap.specs.Place.{here}
use Rattle.book.specs.Syntax.{Symbol, con, fun}
use Rattle.heap.specs.Graph.{Graph, Node, cell, var, fwd, node, look, follow, first_call, write_each}
use Rattle.heap.proofs.Laws.Alike.{Maybe, rep-follow, rep-look, reals, rep-end}
use Rattle.heap.proofs.Laws.Shape.{each-length, first-same, write_same}
use Rattle.engine.specs.Code.{Instr, load, branch, go, push, pop, make_anon, store_var, make_var, make_term, replace, narrow, choice, fail, wrong, decode, width}
use Rattle.engine.specs.Compile.{Program}
use Rattle.engine.specs.Machine.{arity_of, arm_of, jump, settle, State, st, Stop, demand, becomes, parts, fails, misfits, broken, full, Step, on, ends, at, need, when, made, on_branch, run, step, exec, on_top, drive, Held, Told, told, stopped, on_first, on_stack, turn_on, own}
use Rattle.heap.specs.Store.{Store, take1}
use Rattle.standing.specs.Stands.{World, Rel, Dom, Ours, Reps, Holds, Helds}
use Rattle.standing.proofs.Grows.{Grows, States, Over, OverStep, Stops, stops-demand, stops-becomes, stops-parts, stops-fails, stops-misfits, stops-broken, stops-full, Steps, steps_on, steps-ends, steps-full, grows_none, grows_then, maybe-get, each_take, each-drop, each-reverse, each-put, at-alike, need-alike, when-alike, made_alike, state-keep}

module _ (m : Program) (w : World) (N : List ℕ) (R : Option ℕ) (T F : List ℕ) (g : Graph) (N' : List ℕ) (R' : Option ℕ) (T' F' : List ℕ) (μ : Store) where
  abbrev s : Graph
  s = μ.nodes

  abbrev Fits : List ℕ → Type 0
  Fits I = States w I N R T F g I N' R' T' F' μ

  module _ (I : List ℕ) (S : Fits I) where
    abbrev none' : Grows w g μ g μ
    none' = grows_none w g μ S.holds

    -- on with other code
    jump-on : (J : List ℕ) → Steps w g μ (on (st J N R T F g)) (on (st J N' R' T' F' μ))
    jump-on J = steps_on none' (record { code = refl; stack = S.stack; current = S.current; terms = S.terms; vars = S.vars; holds = S.holds })

    cells : (t r r' : ℕ) → Reps w g s r r' → (y z : Symbol) (hs ks : List ℕ) → y ≡ z
        → Steps w g μ (on_branch (λ x. x) own m t r (cell y hs) (st I N R T F g)) (on_branch (λ μ. μ.nodes) take1 m t r' (cell z ks) (st I N' R' T' F' μ))
    unfolding on_branch
    cells t r r' q (con c) (con d) hs ks e = let u : d ≡ c = cc in rw u (go (arm_of m t c))
      where
        go : (o : Option ℕ) → Steps w g μ (elim o [ some j ↦ on (st (jump m I (suc j)) N R T F g) | none ↦ ends (misfits g) ]) (elim o [ some j ↦ on (st (jump m I (suc j)) N' R' T' F' μ) | none ↦ ends (misfits μ) ])
        go none = steps-ends (stops-misfits none')
        go (some j) = jump-on (jump m I (suc j))
    cells t r r' q (con c) (fun d) hs ks e = let z : ◌≡◌ {A = ℕ} 0 1 = cc in absurd (omega arith)
    cells t r r' q (fun c) (con d) hs ks e = let z : ◌≡◌ {A = ℕ} 0 1 = cc in absurd (omega arith)
    cells t r r' q (fun c) (fun d) hs ks e = steps-ends (stops-demand {N = follow g r ∷ N} {N' = follow s r' ∷ N'} none' (ended, S.stack))
      where
        ended : Reps w g s (follow g r) (follow s r')
        ended = rep-end S.holds.alike r r' q

    branches : (t r r' : ℕ) → Reps w g s r r' → (x y : Node) → Mirror (Rel (w)) (Dom (w)) (Ours (w)) g s x y
        → Steps w g μ (on_branch (λ x. x) own m t r x (st I N R T F g)) (on_branch (λ μ. μ.nodes) take1 m t r' y (st I N' R' T' F' μ))
    branches t r r' q (cell y hs) (cell z ks) (e, _) = cells t r r' q y z hs ks e
    branches t r r' q (cell y hs) var e = absurd e
    branches t r r' q (cell y hs) (fwd j) e = absurd e
    branches t r r' q var (cell z ks) e = absurd e
    branches t r r' q var var e = unfold on_branch in jump-on (jump m I 0)
    branches t r r' q var (fwd j) e = absurd e
    branches t r r' q (fwd j) y e = absurd e

    -- one instruction
    run-alike : (i : Instr) → Steps w g μ (run (λ x. x) own m i (st I N R T F g)) (run (λ μ. μ.nodes) take1 m i (st I N' R' T' F' μ))
    unfolding run take1
    run-alike (load p) = need-alike w g μ (Reps w g s) (get_elem? N 0) (get_elem? N' 0) (maybe-get (Reps w g s) N N' S.stack 0) _ _ (λ t t' q.
        need-alike w g μ (Reps w g s) (at g t p) (at s t' p) (at-alike S.holds p t t' q) _ _ (λ h k u. steps_on none' (record { code = refl; stack = S.stack; current = u; terms = S.terms; vars = S.vars; holds = S.holds })))
    run-alike (branch t) = need-alike w g μ (Reps w g s) R R' S.current _ _ (λ r r' q. branches t r r' q (look g r) (look s r') (rep-look S.holds.alike r r' q))
    run-alike (go o) = steps-ends stops-broken
    run-alike push = need-alike w g μ (Reps w g s) R R' S.current _ _ (λ r r' q. steps_on none' (record { code = refl; stack = S.stack; current = S.current; terms = (q, S.terms); vars = S.vars; holds = S.holds }))
    run-alike pop = need-alike w g μ (Reps w g s) (get_elem? T 0) (get_elem? T' 0) (maybe-get (Reps w g s) T T' S.terms 0) _ _ (λ r r' q. steps_on none' (record { code = refl; stack = S.stack; current = q; terms = each-drop (Reps w g s) 1 T T' S.terms; vars = S.vars; holds = S.holds }))
    run-alike make_anon = made_alike w g s μ.free S.holds var var tt _ _ (λ b g h p. p) (λ g' μ' o h k q.
        (let Z = state-keep S o in steps_on o (record { code = refl; stack = Z.stack; current = Z.current; terms = (q, Z.terms); vars = Z.vars; holds = Z.holds })))
    run-alike (store_var v) = when-alike w g μ (leb v (length F)) (leb v (length F')) (ap (leb v) (each-length (Reps w g s) F F' S.vars)) _ _ (made_alike w g s μ.free S.holds var var tt _ _ (λ b g h p. p) (λ g' μ' o h k q.
        (let Z = state-keep S o in steps_on o (record { code = refl; stack = Z.stack; current = Z.current; terms = Z.terms; vars = each-put (Reps o.world g' μ'.nodes) F F' Z.vars v h k q; holds = Z.holds }))))
    run-alike (make_var v) = need-alike w g μ (Reps w g s) (get_elem? F v) (get_elem? F' v) (maybe-get (Reps w g s) F F' S.vars v) _ _ (λ h k q. steps_on none' (record { code = refl; stack = S.stack; current = S.current; terms = (q, S.terms); vars = S.vars; holds = S.holds }))
    run-alike (make_term y) =
        let n = arity_of m y in
        when-alike w g μ (leb n (length T)) (leb n (length T')) (ap (leb n) (each-length (Reps w g s) T T' S.terms)) _ _
        (made_alike w g s μ.free S.holds (cell y (take n T)) (cell y (take n T')) (refl, each_take (Reps w g s) n T T' S.terms) _ _ (λ b g h p. p) (λ g' μ' o h k q.
        (let Z = state-keep S o in steps_on o (record { code = refl; stack = Z.stack; current = Z.current; terms = (q, each-drop (Reps o.world g' μ'.nodes) n T T' Z.terms); vars = Z.vars; holds = Z.holds }))))
    run-alike replace = need-alike w g μ (Reps w g s) (get_elem? N 0) (get_elem? N' 0) (maybe-get (Reps w g s) N N' S.stack 0) _ _ (λ t t' q.
        need-alike w g μ (Reps w g s) R R' S.current _ _ (λ r r' u. steps-ends (stops-becomes {N = N} {N' = N'} none' (rep-follow S.holds.alike t t' q) u S.stack)))
    run-alike narrow = need-alike w g μ (Reps w g s) R R' S.current _ _ (λ r r' q. steps-ends (stops-parts {ks = reverse T} {ks' = reverse T'} none' (rep-follow S.holds.alike r r' q) (each-reverse (Reps w g s) T T' S.terms)))
    run-alike choice = need-alike w g μ (Reps w g s) (get_elem? N 0) (get_elem? N' 0) (maybe-get (Reps w g s) N N' S.stack 0) _ _ (λ t t' q.
        steps-ends (stops-parts {ks = reverse T} {ks' = reverse T'} none' (rep-follow S.holds.alike t t' q) (each-reverse (Reps w g s) T T' S.terms)))
    run-alike fail = steps-ends (stops-fails none')
    run-alike wrong = steps-ends stops-broken

-- what was reached after nodes were made was reached from before
stops_then : {w : World} {g : Graph} {μ : Store} {g' : Graph} {μ' : Store} (a : Grows w g μ g' μ') {x : Stop Graph} {y : Stop Store} → Stops a.world g' μ' x y → Stops w g μ x y
stops_then a (stops-demand {N = N} {N' = N'} o e) = stops-demand {N = N} {N' = N'} (grows_then a o) e
stops_then a (stops-becomes {N = N} {N' = N'} o r q e) = stops-becomes {N = N} {N' = N'} (grows_then a o) r q e
stops_then a (stops-parts {ks = ks} {ks' = ks'} o r e) = stops-parts {ks = ks} {ks' = ks'} (grows_then a o) r e
stops_then a (stops-fails o) = stops-fails (grows_then a o)
stops_then a (stops-misfits o) = stops-misfits (grows_then a o)
stops_then a stops-broken = stops-broken
stops_then {g = g} {μ} {g'} {μ'} a (stops-full {x = x} v) = stops-full (subst (λ (b : ℕ). Over b x) a.count v)

-- what was made is never unmade
module _ (m : Program) where
  over-need : (b : ℕ) (o : Option ℕ) (f : ℕ → Step Graph) → ((h : ℕ) → OverStep b (f h)) → OverStep b (need o f)
  unfolding need
  over-need b none f v = tt
  over-need b (some x) f v = v x

  over-when : (b : ℕ) (t : Bool) (x : Step Graph) → OverStep b x → OverStep b (when t x)
  unfolding when
  over-when b true x v = v
  over-when b false x v = tt

  over-branch : (b t r : ℕ) (x : Node) (I N : List ℕ) (R : Option ℕ) (T F : List ℕ) (g : Graph) → b < length g → OverStep b (on_branch (λ x. x) own m t r x (st I N R T F g))
  unfolding on_branch
  over-branch b t r (cell (fun f) hs) I N R T F g v = v
  over-branch b t r (cell (con c) hs) I N R T F g v = at_place (arm_of m t c)
    where
      at_place : (o : Option ℕ) → OverStep b (elim o [ some j ↦ on (st (jump m I (suc j)) N R T F g) | none ↦ ends (misfits g) ])
      at_place none = v
      at_place (some j) = v
  over-branch b t r var I N R T F g v = v
  over-branch b t r (fwd k) I N R T F g v = tt

  over-run : (b : ℕ) (i : Instr) (I N : List ℕ) (R : Option ℕ) (T F : List ℕ) (g : Graph) → b < length g → OverStep b (run (λ x. x) own m i (st I N R T F g))
  unfolding run own made
  over-run b (load p) I N R T F g v = over-need b (get_elem? N 0) _ (λ t. over-need b (at g t p) _ (λ h. v))
  over-run b (branch t) I N R T F g v = over-need b R _ (λ r. over-branch b t r (look g r) I N R T F g v)
  over-run b (go o) I N R T F g v = tt
  over-run b push I N R T F g v = over-need b R _ (λ r. v)
  over-run b pop I N R T F g v = over-need b (get_elem? T 0) _ (λ r. v)
  over-run b make_anon I N R T F g v = rw (length-append g (var ∷ [])) (omega arith)
  over-run b (store_var x) I N R T F g v = over-when b (leb x (length F)) _ (rw (length-append g (var ∷ [])) (omega arith))
  over-run b (make_var x) I N R T F g v = over-need b (get_elem? F x) _ (λ k. v)
  over-run b (make_term y) I N R T F g v = over-when b (leb (arity_of m y) (length T)) _ (rw (length-append g (cell y (take (arity_of m y) T) ∷ [])) (omega arith))
  over-run b replace I N R T F g v = over-need b (get_elem? N 0) _ (λ t. over-need b R _ (λ r. v))
  over-run b narrow I N R T F g v = over-need b R _ (λ r. v)
  over-run b choice I N R T F g v = over-need b (get_elem? N 0) _ (λ t. v)
  over-run b fail I N R T F g v = v
  over-run b wrong I N R T F g v = tt

  over-state : (n b : ℕ) (I N : List ℕ) (R : Option ℕ) (T F : List ℕ) (g : Graph) → b < length g → Over b (exec (λ x. x) own n m (st I N R T F g))
  unfolding exec step
  over-state zero b I N R T F g v = tt
  over-state (suc n) b I N R T F g v = at-step (over-state n b) (run (λ x. x) own m (decode I) (st (drop (width (decode I)) I) N R T F g)) (over-run b (decode I) (drop (width (decode I)) I) N R T F g v)
    where
      at-step : ((I N : List ℕ) (R : Option ℕ) (T F : List ℕ) (g : Graph) → b < length g → Over b (exec (λ x. x) own n m (st I N R T F g))) → (x : Step Graph) → OverStep b x → Over b (elim x [ on s ↦ exec (λ x. x) own n m s | ends y ↦ y ])
      at-step ih (on (st I N R T F g)) v = ih I N R T F g v
      at-step ih (ends y) v = v

  over-exec : (n b : ℕ) (x : Step Graph) → OverStep b x → Over b (elim x [ on s ↦ exec (λ x. x) own n m s | ends y ↦ y ])
  over-exec n b (on (st I N R T F g)) v = over-state n b I N R T F g v
  over-exec n b (ends y) v = v

  over-top : (b : ℕ) (x : Node) (N : List ℕ) (g : Graph) → b < length g → Over b (on_top (λ x. x) own m x N g)
  unfolding on_top
  over-top b (cell (fun f) hs) N g v = over-state (length m.code) b (drop (get_or m.starts f 0) m.code) N none [] [] g v
  over-top b (cell (con c) hs) N g v = tt
  over-top b var N g v = tt
  over-top b (fwd k) N g v = tt

  over-drive : (n b : ℕ) (N : List ℕ) (g : Graph) → b < length g → Over b (drive (λ x. x) own n m N g)
  unfolding drive
  over-drive zero b N g v = tt
  over-drive (suc n) b [] g v = tt
  over-drive (suc n) b (t ∷ N) g v = at-stop (over-drive n b) (on_top (λ x. x) own m (look g t) (t ∷ N) g) (over-top b (look g t) (t ∷ N) g v)
    where
      at-stop : ((N : List ℕ) (g : Graph) → b < length g → Over b (drive (λ x. x) own n m N g)) → (x : Stop Graph) → Over b x
          → Over b (elim x [ demand N' g' ↦ drive (λ x. x) own n m N' g' | becomes h r N' g' ↦ becomes h r N' g' | parts h ks g' ↦ parts h ks g' | fails g' ↦ fails g' | misfits g' ↦ misfits g' | broken ↦ broken | full ↦ full ])
      at-stop ih (demand N g) v = ih N g v
      at-stop ih (becomes h r N g) v = v
      at-stop ih (parts h ks g) v = v
      at-stop ih (fails g) v = v
      at-stop ih (misfits g) v = v
      at-stop ih broken v = tt
      at-stop ih full v = tt

  over-driven : (n b : ℕ) (x : Stop Graph) → Over b x
      → Over b (elim x [ demand N' g' ↦ drive (λ x. x) own n m N' g' | becomes h r N' g' ↦ becomes h r N' g' | parts h ks g' ↦ parts h ks g' | fails g' ↦ fails g' | misfits g' ↦ misfits g' | broken ↦ broken | full ↦ full ])
  over-driven n b (demand N g) v = over-drive n b N g v
  over-driven n b (becomes h r N g) v = v
  over-driven n b (parts h ks g) v = v
  over-driven n b (fails g) v = v
  over-driven n b (misfits g) v = v
  over-driven n b broken v = tt
  over-driven n b full v = tt

module _ (m : Program) where
  abbrev exec₁ : ℕ → State Graph → Stop Graph
  exec₁ n = exec (λ x. x) own n m

  abbrev exec₂ : ℕ → State Store → Stop Store
  exec₂ n = exec (λ μ. μ.nodes) take1 n m

  -- one instruction of the code
  pub step-alike : (w : World) (I N : List ℕ) (R : Option ℕ) (T F : List ℕ) (g : Graph) (I' N' : List ℕ) (R' : Option ℕ) (T' F' : List ℕ) (μ : Store) → States w I N R T F g I' N' R' T' F' μ
      → Steps w g μ (step (λ x. x) own m (st I N R T F g)) (step (λ μ. μ.nodes) take1 m (st I' N' R' T' F' μ))
  unfolding step
  step-alike w I N R T F g I' N' R' T' F' μ S =
      rw (sym S.code) (run-alike m w N R T F g N' R' T' F' μ (drop (width (decode I)) I) (record { code = refl; stack = S.stack; current = S.current; terms = S.terms; vars = S.vars; holds = S.holds }) (decode I))

  exec-alike : (n : ℕ) (w : World) (I N : List ℕ) (R : Option ℕ) (T F : List ℕ) (g : Graph) (I' N' : List ℕ) (R' : Option ℕ) (T' F' : List ℕ) (μ : Store) → States w I N R T F g I' N' R' T' F' μ
      → Stops w g μ (exec₁ n (st I N R T F g)) (exec₂ n (st I' N' R' T' F' μ))
  unfolding exec
  exec-alike zero w I N R T F g I' N' R' T' F' μ S = stops-broken
  exec-alike (suc n) w I N R T F g I' N' R' T' F' μ S = go (exec-alike n) (step (λ x. x) own m (st I N R T F g)) (step (λ μ. μ.nodes) take1 m (st I' N' R' T' F' μ)) refl refl (step-alike w I N R T F g I' N' R' T' F' μ S)
    where
      go : ((w : World) (I N : List ℕ) (R : Option ℕ) (T F : List ℕ) (g : Graph) (I' N' : List ℕ) (R' : Option ℕ) (T' F' : List ℕ) (μ : Store) → States w I N R T F g I' N' R' T' F' μ
          → Stops w g μ (exec₁ n (st I N R T F g)) (exec₂ n (st I' N' R' T' F' μ)))
          → (x : Step Graph) (y : Step Store) → step (λ x. x) own m (st I N R T F g) ≡ x → step (λ μ. μ.nodes) take1 m (st I' N' R' T' F' μ) ≡ y → Steps w g μ x y
          → Stops w g μ (exec₁ (suc n) (st I N R T F g)) (exec₂ (suc n) (st I' N' R' T' F' μ))
      go ih x y p q (steps_on {I = I₁} {N = N₁} {R = R₁} {T = T₁} {F = F₁} {g' = g₁} {I' = I₂} {N' = N₂} {R' = R₂} {T' = T₂} {F' = F₂} {μ' = μ₂} o Z) = rw (p, q, exec) (stops_then o (ih o.world I₁ N₁ R₁ T₁ F₁ g₁ I₂ N₂ R₂ T₂ F₂ μ₂ Z))
      go ih x y p q (steps-ends z) = rw (p, q, exec) z
      go ih x y p q (steps-full v) = rw (p, q, exec) (stops-full (over-exec m n (length g + length μ.free) x v))

  pub top-alike : (w : World) (g : Graph) (μ : Store) → Holds w g μ → (N N' : List ℕ) → Each (Reps w g μ.nodes) N N' → (x y : Node) → Mirror (Rel (w)) (Dom (w)) (Ours (w)) g μ.nodes x y
      → Stops w g μ (on_top (λ x. x) own m x N g) (on_top (λ μ. μ.nodes) take1 m y N' μ)
  unfolding on_top
  top-alike w g μ H N N' e (cell y hs) (cell z ks) (q, _) = cells₁ y z q
    where
      cells₁ : (y z : Symbol) → y ≡ z → Stops w g μ (on_top (λ x. x) own m (cell y hs) N g) (on_top (λ μ. μ.nodes) take1 m (cell z ks) N' μ)
      cells₁ (con c) (con d) q = stops-broken
      cells₁ (con c) (fun d) q = let z : ◌≡◌ {A = ℕ} 0 1 = cc in absurd (omega arith)
      cells₁ (fun c) (con d) q = let z : ◌≡◌ {A = ℕ} 0 1 = cc in absurd (omega arith)
      cells₁ (fun c) (fun d) q =
          let u : d ≡ c = cc in
          rw u (exec-alike (length m.code) w (drop (get_or m.starts c 0) m.code) N none [] [] g (drop (get_or m.starts c 0) m.code) N' none [] [] μ
          (record { code = refl; stack = e; current = tt; terms = tt; vars = tt; holds = H }))
  top-alike w g μ H N N' e (cell y hs) var q = absurd q
  top-alike w g μ H N N' e (cell y hs) (fwd j) q = absurd q
  top-alike w g μ H N N' e var (cell z ks) q = absurd q
  top-alike w g μ H N N' e var var q = stops-broken
  top-alike w g μ H N N' e var (fwd j) q = absurd q
  top-alike w g μ H N N' e (fwd j) y q = absurd q

  abbrev drive₁ : ℕ → List ℕ → Graph → Stop Graph
  drive₁ n = drive (λ x. x) own n m

  abbrev drive₂ : ℕ → List ℕ → Store → Stop Store
  drive₂ n = drive (λ μ. μ.nodes) take1 n m

  pub drive-alike : (n : ℕ) (w : World) (g : Graph) (μ : Store) → Holds w g μ → (N N' : List ℕ) → Each (Reps w g μ.nodes) N N' → Stops w g μ (drive₁ n N g) (drive₂ n N' μ)
  unfolding drive
  drive-alike zero w g μ H N N' e = stops-broken
  drive-alike (suc n) w g μ H [] [] e = stops-broken
  drive-alike (suc n) w g μ H [] (k ∷ N') e = absurd e
  drive-alike (suc n) w g μ H (h ∷ N) [] e = absurd e
  drive-alike (suc n) w g μ H (h ∷ N) (k ∷ N') e =
      go (drive-alike n) (on_top (λ x. x) own m (look g h) (h ∷ N) g) (on_top (λ μ. μ.nodes) take1 m (look μ.nodes k) (k ∷ N') μ) refl refl
      (top-alike w g μ H (h ∷ N) (k ∷ N') e (look g h) (look μ.nodes k) (rep-look H.alike h k e.0))
    where
      go : ((w : World) (g : Graph) (μ : Store) → Holds w g μ → (N N' : List ℕ) → Each (Reps w g μ.nodes) N N' → Stops w g μ (drive₁ n N g) (drive₂ n N' μ))
          → (x : Stop Graph) (y : Stop Store) → on_top (λ x. x) own m (look g h) (h ∷ N) g ≡ x → on_top (λ μ. μ.nodes) take1 m (look μ.nodes k) (k ∷ N') μ ≡ y → Stops w g μ x y
          → Stops w g μ (drive₁ (suc n) (h ∷ N) g) (drive₂ (suc n) (k ∷ N') μ)
      go ih x y p q (stops-demand {N = N₁} {N' = N₂} {g' = g₁} {μ' = μ₁} o z) = rw (p, q, drive) (stops_then o (ih o.world g₁ μ₁ o.holds N₁ N₂ z))
      go ih x y p q (stops-becomes {N = N₁} {N' = N₂} o r z u) = rw (p, q, drive) (stops-becomes {N = N₁} {N' = N₂} o r z u)
      go ih x y p q (stops-parts {ks = ks₁} {ks' = ks₂} o r z) = rw (p, q, drive) (stops-parts {ks = ks₁} {ks' = ks₂} o r z)
      go ih x y p q (stops-fails o) = rw (p, q, drive) (stops-fails o)
      go ih x y p q (stops-misfits o) = rw (p, q, drive) (stops-misfits o)
      go ih x y p q stops-broken = rw (p, q, drive) stops-broken
      go ih x y p q (stops-full v) = rw (p, q, drive) (stops-full (over-driven m n (length g + length μ.free) x v))

pub data Tolds (w : World) (g : Graph) (μ : Store) : Told Graph → Told Store → Type 0 where
  same_bytes : {b : List ℕ} → Tolds w g μ (told b) (told b)
  same_stop : {x : Stop Graph} {y : Stop Store} → Stops w g μ x y → Tolds w g μ (stopped x) (stopped y)

module _ (m : Program) (w : World) (g : Graph) (μ : Store) (H : Holds w g μ) where
  -- numbers that are related stand for one another
  pub rel-rep : (x y : ℕ) → Rel w x y → Reps w g μ.nodes x y
  rel-rep x y r = let b = reals (Rel w) (Dom w) (Ours w) g μ.nodes (node g x) (node μ.nodes y) (H.alike.mirror x y r) in
      record { from = x; to = y; same = r; left = here (H.alike.left x y r) refl b.0; right = here (H.alike.right x y r) refl b.1 }

  pub settle-alike : (N N' : List ℕ) → Each (Reps w g μ.nodes) N N' → Each (Reps w g μ.nodes) (settle g N) (settle μ.nodes N')
  unfolding settle
  settle-alike [] [] e = tt
  settle-alike [] (k ∷ N') e = absurd e
  settle-alike (h ∷ N) [] e = absurd e
  settle-alike (h ∷ N) (k ∷ N') (e, es) = go (settle-alike N N' es) (look g h) (look μ.nodes k) refl refl (rep-look H.alike h k e)
    where
      Goal : Type 0
      Goal = Each (Reps w g μ.nodes) (settle g (h ∷ N)) (settle μ.nodes (k ∷ N'))

      cells₂ : Each (Reps w g μ.nodes) (settle g N) (settle μ.nodes N') → (y z : Symbol) (hs ks : List ℕ) → look g h ≡ cell y hs → look μ.nodes k ≡ cell z ks → y ≡ z → Goal
      cells₂ ih (con c) (con d) hs ks p q a = rw (p, q, settle) ih
      cells₂ ih (con c) (fun d) hs ks p q a = let z : ◌≡◌ {A = ℕ} 0 1 = cc in absurd (omega arith)
      cells₂ ih (fun c) (con d) hs ks p q a = let z : ◌≡◌ {A = ℕ} 0 1 = cc in absurd (omega arith)
      cells₂ ih (fun c) (fun d) hs ks p q a = rw (p, q, settle) (e, es)

      go : Each (Reps w g μ.nodes) (settle g N) (settle μ.nodes N') → (x y : Node) → look g h ≡ x → look μ.nodes k ≡ y → Mirror (Rel (w)) (Dom (w)) (Ours (w)) g μ.nodes x y → Goal
      go ih (cell y hs) (cell z ks) p q (a, _) = cells₂ ih y z hs ks p q a
      go ih (cell y hs) var p q m = absurd m
      go ih (cell y hs) (fwd j) p q m = absurd m
      go ih var (cell z ks) p q m = absurd m
      go ih var var p q m = rw (p, q, settle) ih
      go ih var (fwd j) p q m = absurd m
      go ih (fwd j) y p q m = absurd m

  bytes-alike : (n : ℕ) (hs ks : List ℕ) → Each (Reps w g μ.nodes) hs ks → write_each n g hs ≡ write_each n μ.nodes ks
  unfolding write_each
  bytes-alike n [] [] e = refl
  bytes-alike n [] (k ∷ ks) e = absurd e
  bytes-alike n (h ∷ hs) [] e = absurd e
  bytes-alike n (h ∷ hs) (k ∷ ks) (e, es) = let a = (write_same H.alike H.in_p H.in_q n [] [] tt h k e).1 in let b = bytes-alike n hs ks es in cc

  -- a turn_on up to its step, whatever the code
  pub turn-alike : (n : ℕ) (c c' : Held) → Helds w g μ.nodes c c' → Tolds w g μ (turn_on (λ x. x) own n m g c) (turn_on (λ μ. μ.nodes) take1 n m μ c')
  unfolding turn_on
  turn-alike n c c' h = on-stack (settle g c.stack) (settle μ.nodes c'.stack) (settle-alike c.stack c'.stack h.stack)
    where
      on-first : (o o' : Option ℕ) → Maybe (Rel (w)) o o' → Tolds w g μ (on_first (λ x. x) own n m g c o) (on_first (λ μ. μ.nodes) take1 n m μ c' o')
      on-first none none e = unfold on_first in (rw (bytes-alike n (c.value ∷ c.askers) (c'.value ∷ c'.askers) (h.value, h.askers)) same_bytes)
      on-first none (some k) e = absurd e
      on-first (some x) none e = absurd e
      on-first (some x) (some y) e = unfold on_first in (same_stop (drive-alike m n w g μ H (x ∷ []) (y ∷ []) (rel-rep x y e, tt)))

      on-stack : (N N' : List ℕ) → Each (Reps w g μ.nodes) N N' → Tolds w g μ (on_stack (λ x. x) own n m g c N) (on_stack (λ μ. μ.nodes) take1 n m μ c' N')
      on-stack [] [] e = unfold on_stack in (on-first (first_call n g c.value) (first_call n μ.nodes c'.value) (first-same H.alike H.in_p H.in_q n c.value c'.value h.value))
      on-stack [] (k ∷ N') e = absurd e
      on-stack (x ∷ N) [] e = absurd e
      on-stack (x ∷ N) (y ∷ N') e = unfold on_stack in (same_stop (drive-alike m n w g μ H (x ∷ N) (y ∷ N') e))
