-- A turn of the machine does what a turn read plainly from the book does, with any bound that suffices.
-- Assumes nothing.
use Prim.Native.Nat.{ℕ, zero, suc, ◌≤◌, ◌<◌}
use native.Mathlib.Nat.{not-suc-le-zero, le_of_suc-le-suc}
use native.Mathlib.Omega.{arith}
use mathlib.Core.Path.{◌≡◌, refl, sym, ap, ◌∙◌, subst}
use mathlib.Core.Logic.{◌⊎◌, inl, inr}
use mathlib.Core.Option.{Option, none, some}
use mathlib.Core.List.Memᴰ
use mathlib.Core.List.{List, [], ◌∷◌, map, append-nil, Memᴰ}
use lib.ListN.{length, get_or, length-set}
use Rattle.book.specs.Syntax.{Symbol, Right, Book, first_con, cons_of}
use Rattle.heap.specs.Graph.{Graph, fwd, look, follow, first_call, Comp, copy, write_each}
use Rattle.heap.specs.Build.{build_right}
use Rattle.heap.proofs.Laws.Good.{Good, follow-ends, follow-real}
use Rattle.heap.proofs.Laws.Forward.{good-forward, Keeps, keeps, Call, look-follow}
use Rattle.heap.proofs.Laws.First.{found}
use Rattle.heap.proofs.Laws.Bound.{first-bound, bytes-bound}
use Rattle.heap.proofs.Laws.Copies.{Whole, copy-whole}
use Rattle.engine.specs.Turn.{Turned, goes, splits, value, ended, lost, Ending, failed, misfit, forward, alternatives}
use Rattle.engine.specs.Plain as Plain
use Rattle.engine.specs.Plain.{Reached, demands, narrows, rewrites, fails, misfits, stuck, walk_call, instances, build_rights, applied, step_at}
use Rattle.engine.specs.Compile.{Program, compile}
use Rattle.engine.specs.Machine as Machine
use Rattle.engine.specs.Machine.{Kept, from_start, with_graph, settle, Stop, Held, finish, turn_within, turn_on, told, stopped, own, drive, on_top, turn, on_stack, on_first}
use Rattle.agreement.proofs.Fine.{Takes}
use Rattle.agreement.proofs.Simulate.{Grown}
use Rattle.agreement.proofs.Rights.{grown-right, grown-rights, grown-instances}
use Rattle.agreement.proofs.Trees.{stop_of, rule_stop, follow-grown}
use Rattle.agreement.proofs.Calls.{FineBook, call-runs}
use Rattle.agreement.proofs.Demand.{Low, Proper}
use Rattle.agreement.proofs.Builds.{Hd, Back, right-made, rights-made, instances-made, numbered-at, back-self, behind}
use Rattle.agreement.proofs.Chain.{Chain, chain-top, call-demands, call-proper, step-demands, chain-turn, chain-kept, Settled, settle-chain}

abbrev NoDemand : Stop Graph → Type 0
NoDemand (Machine.demand N g) = ⊥
NoDemand (Machine.becomes h r N g) = Unit
NoDemand (Machine.parts h ks g) = Unit
NoDemand (Machine.fails g) = Unit
NoDemand (Machine.misfits g) = Unit
NoDemand Machine.broken = Unit
NoDemand Machine.full = Unit

module _ (n : ℕ) (m : Program) (t : ℕ) (N : List ℕ) (g : Graph) where
  drive-demand : (N' : List ℕ) (g' : Graph) → on_top (λ x. x) own m (look g t) (t ∷ N) g ≡ Machine.demand N' g' → drive (λ x. x) own (suc n) m (t ∷ N) g ≡ drive (λ x. x) own n m N' g'
  unfolding drive
  drive-demand N' g' e = rw (e, drive)

  drive-stop : (x : Stop Graph) → NoDemand x → on_top (λ x. x) own m (look g t) (t ∷ N) g ≡ x → drive (λ x. x) own (suc n) m (t ∷ N) g ≡ x
  unfolding drive
  drive-stop (Machine.demand N' g') d e = absurd d
  drive-stop (Machine.becomes h r N' g') d e = rw (e, drive)
  drive-stop (Machine.parts h ks g') d e = rw (e, drive)
  drive-stop (Machine.fails g') d e = rw (e, drive)
  drive-stop (Machine.misfits g') d e = rw (e, drive)
  drive-stop Machine.broken d e = rw (e, drive)
  drive-stop Machine.full d e = rw (e, drive)

module _ (n : ℕ) (book : Book) (c : Comp) (h : ℕ) where
  pub step-narrows : (v t : ℕ) → walk_call book c.graph h ≡ narrows v t → step_at (suc n) book c h ≡ Plain.parted c v (instances (first_con book.types t) (cons_of book.types t) c.graph)
  unfolding step_at
  step-narrows v t e = rw (e, step_at)

  pub step-rewrites : (rs : List Right) (slots : List ℕ) → walk_call book c.graph h ≡ rewrites rs slots → step_at (suc n) book c h ≡ applied c h rs slots
  unfolding step_at
  step-rewrites rs slots e = rw (e, step_at)

  pub step-fails : walk_call book c.graph h ≡ fails → step_at (suc n) book c h ≡ ended failed
  unfolding step_at
  step-fails e = rw (e, step_at)

  pub step-misfits : walk_call book c.graph h ≡ misfits → step_at (suc n) book c h ≡ ended misfit
  unfolding step_at
  step-misfits e = rw (e, step_at)

abbrev NotLost : Turned Kept → Type 0
NotLost (goes c n) = Unit
NotLost (splits cs n) = Unit
NotLost (value b) = Unit
NotLost (ended e) = Unit
NotLost lost = ⊥

-- the code is a compiler's
abbrev Clear : Stop Graph → Type 0
Clear (Machine.demand N g) = Unit
Clear (Machine.becomes h r N g) = Unit
Clear (Machine.parts h ks g) = Unit
Clear (Machine.fails g) = Unit
Clear (Machine.misfits g) = Unit
Clear Machine.broken = ⊥
Clear Machine.full = Unit

-- a bound that suffices gives what a larger one gives
drive-bound : (m : Program) (n n' : ℕ) (N : List ℕ) (g : Graph) → n ≤ n' → Clear (drive (λ x. x) own n m N g) → drive (λ x. x) own n' m N g ≡ drive (λ x. x) own n m N g
unfolding drive
drive-bound m zero n' N g l f = absurd f
drive-bound m (suc n) zero N g l f = absurd (not-suc-le-zero l)
drive-bound m (suc n) (suc n') [] g l f = refl
drive-bound m (suc n) (suc n') (t ∷ N) g l f = go (drive-bound m n n') (on_top (λ x. x) own m (look g t) (t ∷ N) g) refl
  where
    go : ((N : List ℕ) (g : Graph) → n ≤ n' → Clear (drive (λ x. x) own n m N g) → drive (λ x. x) own n' m N g ≡ drive (λ x. x) own n m N g) → (x : Stop Graph) → on_top (λ x. x) own m (look g t) (t ∷ N) g ≡ x
        → drive (λ x. x) own (suc n') m (t ∷ N) g ≡ drive (λ x. x) own (suc n) m (t ∷ N) g
    go ih (Machine.demand N' g') e = rw (e, drive) (ih N' g' (le_of_suc-le-suc l) (rw (e, drive) at f))
    go ih (Machine.becomes h r N' g') e = rw (e, drive)
    go ih (Machine.parts h ks g') e = rw (e, drive)
    go ih (Machine.fails g') e = rw (e, drive)
    go ih (Machine.misfits g') e = rw (e, drive)
    go ih Machine.broken e = rw (e, drive)
    go ih Machine.full e = rw (e, drive)

module _ (book : Book) (c : Comp) where
  pub plain-none : first_call (length c.graph) c.graph c.value ≡ none → Plain.turn book c ≡ value (write_each (length c.graph) c.graph (c.value ∷ c.askers))
  unfolding Plain.turn Plain.turn_within
  plain-none e = rw (e, Plain.turn_within)

  pub plain-some : (h : ℕ) → first_call (length c.graph) c.graph c.value ≡ some h → Plain.turn book c ≡ step_at (length c.graph) book c h
  unfolding Plain.turn Plain.turn_within
  plain-some h e = rw (e, Plain.turn_within)

-- what agreement with the plain reading gives: the step leaves no cycle, and nothing was made for nothing
abbrev pub Tidy : (Symbol → ℕ → Type 0) → Comp → Stop Graph → Type 0
Tidy Fine c (Machine.demand N g) = Unit
Tidy Fine c (Machine.becomes h r N g) = Good Fine (forward g h r)
Tidy Fine c (Machine.parts h ks g) = (r : ℕ) → Memᴰ r ks → Whole Fine (record { graph = forward g h r; value = c.value; askers = c.askers })
Tidy Fine c (Machine.fails g) = g ≡ c.graph
Tidy Fine c (Machine.misfits g) = g ≡ c.graph
Tidy Fine c Machine.broken = Unit
Tidy Fine c Machine.full = Unit

pub same-walk : (book : Book) (g : Graph) (x y : ℕ) → follow g x ≡ follow g y → walk_call book g x ≡ walk_call book g y
unfolding walk_call
same-walk book g x y e = rw (look-follow g x y e, walk_call)

module _ (book : Book) (B : FineBook book) where
  abbrev m : Program
  m = compile book

  -- a computation of the machine that is as it should be
  pub record Sound (c : Comp) (N : List ℕ) : Type 0 where
    pub whole : Whole (Takes m) c
    pub chain : Chain book c.graph c.value N

  -- the same computations, with stacks or without
  abbrev pub Pools : List Comp → List Kept → Type 0
  Pools [] [] = Unit
  Pools [] (k ∷ ks) = ⊥
  Pools (c ∷ cs) [] = ⊥
  Pools (c ∷ cs) (k ∷ ks) = (k.comp ≡ c) × Sound c k.stack × Pools cs ks

  pub data Same : Turned Comp → Turned Kept → Type 0 where
    same-goes : {c : Comp} {k : Kept} {n : ℕ} → k.comp ≡ c → Sound c k.stack → Same (goes c n) (goes k n)
    same-splits : {cs : List Comp} {ks : List Kept} {n : ℕ} → Pools cs ks → Same (splits cs n) (splits ks n)
    same-value : {b : List ℕ} → Same (value b) (value b)
    same_ended : {e : Ending} → Same (ended e) (ended e)

  same-found : (x : Turned Comp) (y : Turned Kept) → Same x y → NotLost y
  same-found _ _ (same-goes q s) = tt
  same-found _ _ (same-splits q) = tt
  same-found _ _ same-value = tt
  same-found _ _ same_ended = tt

  -- new computations have an empty stack
  pools-start : (cs : List Comp) → ((c : Comp) → Memᴰ c cs → Whole (Takes m) c) → Pools cs (map from_start cs)
  unfolding from_start
  pools-start [] W = tt
  pools-start (c ∷ cs) W = (refl, record { whole = W c (Memᴰ.head refl); chain = tt }, pools-start cs (λ c w. W c (Memᴰ.tail w)))

  -- the alternatives for node h of g, over g', which has the terms ks behind g
  module _ (g : Graph) (v : ℕ) (askers : List ℕ) (W : Whole (Takes m) (record { graph = g; value = v; askers = askers })) (h : ℕ) (i : h < length g) where
    abbrev G : Good (Takes m) g
    G = W.good

    abbrev P : ℕ → Type 0
    P k = G.rank k < G.rank h

    pub forward-whole : (g' : Graph) → Grown g g' → Back m P (length g) g' → (r : ℕ) → Hd m P (length g) g' r → Whole (Takes m) (record { graph = forward g' h r; value = v; askers = askers })
    unfolding forward
    forward-whole g' (new, e) b r d = record {
      good = rw e (good-forward G new h r (behind m g G h i g' (new, e) b r d));
      value_in = (let l = b.long in let a = W.value_in in rw (length-set g' h (fwd r)) (omega arith));
      askers-in = λ k u. (let l = b.long in let a = W.askers-in k u in rw (length-set g' h (fwd r)) (omega arith));
    }

    alts-whole : (g' : Graph) → Grown g g' → Back m P (length g) g' → (ks : List ℕ) → ((k : ℕ) → Memᴰ k ks → Hd m P (length g) g' k)
        → (c : Comp) → Memᴰ c (alternatives (record { graph = g'; value = v; askers = askers }) h ks) → Whole (Takes m) c
    unfolding alternatives
    alts-whole g' w b [] d c u = absurd (Memᴰ.not-nil u)
    alts-whole g' w b (k ∷ ks) d c u = go (alts-whole g' w b ks (λ k u. d k (Memᴰ.tail u)) c) (Memᴰ.cases_cons u)
      where
        c₁ : Comp
        c₁ = record { graph = forward g' h k; value = v; askers = askers }

        go : (Memᴰ c (alternatives (record { graph = g'; value = v; askers = askers }) h ks) → Whole (Takes m) c)
            → (c ≡ copy c₁) ⊎ Memᴰ c (alternatives (record { graph = g'; value = v; askers = askers }) h ks) → Whole (Takes m) c
        go ih (inl e) = rw e (copy-whole (Takes m) c₁ (forward-whole g' w b k (d k (Memᴰ.head refl))))
        go ih (inr u) = ih u

    -- alternatives come out alike
    pub same-parted : (g' : Graph) → Grown g g' → Back m P (length g) g' → (ks : List ℕ) → ((k : ℕ) → Memᴰ k ks → Hd m P (length g) g' k)
        → Same (Plain.parted (record { graph = g; value = v; askers = askers }) h (g', ks)) (Machine.parted (record { graph = g; value = v; askers = askers }) h ks g')
    unfolding Plain.parted Machine.parted with_graph
    same-parted g' w b ks d = same-splits (pools-start (alternatives (record { graph = g'; value = v; askers = askers }) h ks) (alts-whole g' w b ks d))

  module _ (g : Graph) (v : ℕ) (askers : List ℕ) (W : Whole (Takes m) (record { graph = g; value = v; askers = askers })) where
    abbrev C₁ : Comp
    C₁ = record { graph = g; value = v; askers = askers }

    abbrev G₁ : Good (Takes m) g
    G₁ = W.good

    -- the same step, and a tidy one
    abbrev Both : Turned Comp → Stop Graph → Type 0
    Both y x = Same y (finish C₁ x) × Tidy (Takes m) C₁ x

    -- the call at t, its code and its tree
    module _ (n t : ℕ) (N : List ℕ) (ch : Chain book g v (t ∷ N)) (ct : Call g t) (few : G₁.rank (follow g t) < suc n)
        (ih : (k : ℕ) → Chain book g v (k ∷ t ∷ N) → Call g k → G₁.rank (follow g k) < n → Both (step_at n book C₁ (follow g k)) (drive (λ x. x) own n m (k ∷ t ∷ N) g)) where
      abbrev h : ℕ
      h = follow g t

      it : t < length g
      it = chain-top book g v t N ch

      ih-in : h < length g
      ih-in = (follow-ends G₁ t it).inside

      Wk : walk_call book g h ≡ walk_call book g t
      Wk = same-walk book g h t (follow-real G₁ h ih-in (follow-ends G₁ t it).real)

      X : (x : Reached) → walk_call book g t ≡ x → on_top (λ x. x) own m (look g t) (t ∷ N) g ≡ stop_of m g t N x
      X x e = rw e at (call-runs book B g G₁ t ct.0 ct.1 N it ct.2)

      abbrev Goal : Type 0
      Goal = Both (step_at (suc n) book C₁ h) (drive (λ x. x) own (suc n) m (t ∷ N) g)

      self : Grown g g
      self = ([], sym (append-nil g))

      abbrev P₁ : ℕ → Type 0
      P₁ k = G₁.rank k < G₁.rank h

      slots-hd : (slots : List ℕ) → Low m g G₁ (G₁.rank h) slots → (i : ℕ) → i < length slots → Hd m P₁ (length g) g (get_or slots i 0)
      slots-hd slots L i q = let d = L i q in record { inside = d.0; allowed = λ u. d.1 }

      forward-keeps : (g' : Graph) (w : Grown g g') → Back m P₁ (length g) g' → (r : ℕ) → Hd m P₁ (length g) g' r → Keeps h g (forward g' h r)
      unfolding forward
      forward-keeps g' (new, e) b r d = rw e (keeps G₁ new h r (behind m g G₁ h ih-in g' (new, e) b r d) ct.0 ct.1 (unfold look in ct.2))

      on-rule : (rs : List Right) (slots : List ℕ) → walk_call book g t ≡ rewrites rs slots → Proper m g G₁ (G₁.rank h) (rewrites rs slots) → Goal
      unfolding stop_of rule_stop applied Plain.replaced with_graph finish
      on-rule [] slots e p = absurd p.0
      on-rule (r ∷ []) slots e p =
          let q = build_right r slots g in
          let w = grown-right g r slots g self in
          let M = right-made m P₁ (length g) (length slots) slots r p.1.0 g (slots-hd slots p.2) (back-self m P₁ g) in
          let x : on_top (λ x. x) own m (look g t) (t ∷ N) g ≡ Machine.becomes h q.1 (t ∷ N) q.0 = rw (follow-grown G₁ w t it) at (X (rewrites (r ∷ []) slots) e) in
          let F = forward-whole g v askers W h ih-in q.0 w M.0.back q.1 M.1 in
          rw (step-rewrites n book C₁ h (r ∷ []) slots (Wk ∙ e), drive-stop n m t N g (Machine.becomes h q.1 (t ∷ N) q.0) tt x) (
            same-goes refl (record {
              whole = F;
              chain = chain-kept book B g G₁ N t h v (forward q.0 h q.1) W.value_in (forward-keeps q.0 w M.0.back q.1 M.1) ct (omega arith) ch;
            }),
            F.good,
          )
      on-rule (r ∷ r' ∷ rs) slots e p =
          let q = build_rights (r ∷ r' ∷ rs) slots g in
          let w = grown-rights (r ∷ r' ∷ rs) g slots g self in
          let M = rights-made m P₁ (length g) (length slots) slots (r ∷ r' ∷ rs) p.1 g (slots-hd slots p.2) (back-self m P₁ g) in
          let x : on_top (λ x. x) own m (look g t) (t ∷ N) g ≡ Machine.parts h q.1 q.0 = rw (follow-grown G₁ w t it) at (X (rewrites (r ∷ r' ∷ rs) slots) e) in
          rw (step-rewrites n book C₁ h (r ∷ r' ∷ rs) slots (Wk ∙ e), drive-stop n m t N g (Machine.parts h q.1 q.0) tt x)
          (same-parted g v askers W h ih-in q.0 w M.0.back q.1 M.1, λ k u. forward-whole g v askers W h ih-in q.0 w M.0.back k (M.1 k u))

      on : (x : Reached) → walk_call book g t ≡ x → Proper m g G₁ (G₁.rank h) x → Goal
      unfolding stop_of compile finish
      on (demands k) e p =
          let D = call-demands book B g G₁ t ct it k e in
          let d = D.lower in
          rw (step-demands book B g G₁ n C₁ h k (Wk ∙ e), drive-demand n m t N g (k ∷ t ∷ N) g (X (demands k) e))
          (rw D.ended at (ih k (D.inside, (λ c. e ∙ ap demands (sym D.ended)), ct, ch) D.call (rw D.ended (omega arith))))
      on (narrows x τ) e p =
          let q = instances (first_con book.types τ) (cons_of book.types τ) g in
          let w = grown-instances (cons_of book.types τ) (first_con book.types τ) g g self in
          let M = instances-made m (λ k. G₁.rank k < G₁.rank x) (length g) (cons_of book.types τ) (first_con book.types τ) (numbered-at m τ) g (back-self m (λ k. G₁.rank k < G₁.rank x) g) in
          rw (step-narrows n book C₁ h x τ (Wk ∙ e), drive-stop n m t N g (Machine.parts x q.1 q.0) tt (X (narrows x τ) e))
          (same-parted g v askers W x p q.0 w M.0.back q.1 M.1, λ k u. forward-whole g v askers W x p q.0 w M.0.back k (M.1 k u))
      on (rewrites rs slots) e p = on-rule rs slots e p
      on fails e p = rw (step-fails n book C₁ h (Wk ∙ e), drive-stop n m t N g (Machine.fails g) tt (X fails e)) (same_ended, refl)
      on misfits e p = rw (step-misfits n book C₁ h (Wk ∙ e), drive-stop n m t N g (Machine.misfits g) tt (X misfits e)) (same_ended, refl)
      on stuck e p = absurd p

    -- the machine from the top of its stack, the plain reading from that call
    sim : (n t : ℕ) (N : List ℕ) → Chain book g v (t ∷ N) → Call g t → G₁.rank (follow g t) < n → Both (step_at n book C₁ (follow g t)) (drive (λ x. x) own n m (t ∷ N) g)
    sim zero t N ch ct few = absurd (not-suc-le-zero few)
    sim (suc n) t N ch ct few = on n t N ch ct few (λ k ch ck few. sim n k (t ∷ N) ch ck few) (walk_call book g t) refl (call-proper book B g G₁ t ct (chain-top book g v t N ch))

    -- a turn
    pub turns : (N : List ℕ) → Chain book g v N → Same (Plain.turn book C₁) (Machine.turn m (record { comp = C₁; stack = N })) × ((x : Stop Graph) → turn_on (λ x. x) own (length g) m g (record { value = v; askers = askers; stack = N }) ≡ stopped x → Tidy (Takes m) C₁ x)
    turns N ch = go (settle-chain book B g G₁ v N ch)
      where
        H : Held
        H = record { value = v; askers = askers; stack = N }

        Goal₁ : Type 0
        Goal₁ = Same (Plain.turn book C₁) (Machine.turn m (record { comp = C₁; stack = N })) × ((x : Stop Graph) → turn_on (λ x. x) own (length g) m g H ≡ stopped x → Tidy (Takes m) C₁ x)

        by-stop : (y : Turned Comp) (x : Stop Graph) → Plain.turn book C₁ ≡ y → turn_on (λ x. x) own (length g) m g H ≡ stopped x → Both y x → Goal₁
        by-stop y x p q (s, t) = (unfold Machine.turn turn_within in (rw (p, q, turn_within) s), λ z u. (let w : stopped x ≡ stopped z = sym q ∙ u in let e : x ≡ z = cc in subst (Tidy (Takes m) C₁) e t))

        by_value : Plain.turn book C₁ ≡ value (write_each (length g) g (v ∷ askers)) → turn_on (λ x. x) own (length g) m g H ≡ told (write_each (length g) g (v ∷ askers)) → Goal₁
        by_value p q = (unfold Machine.turn turn_within in (rw (p, q, turn_within) same-value), λ z u. (let w : told (write_each (length g) g (v ∷ askers)) ≡ stopped z = sym q ∙ u in let e : ◌≡◌ {A = ℕ} 0 1 = cc in absurd (omega arith)))

        first : settle g N ≡ [] → (o : Option ℕ) → first_call (length g) g v ≡ o → turn_on (λ x. x) own (length g) m g H ≡ on_first (λ x. x) own (length g) m g H o
        first s o e = unfold turn_on on_stack in (rw (s, e))

        on-first : settle g N ≡ [] → (o : Option ℕ) → first_call (length g) g v ≡ o → Goal₁
        on-first s none e = by_value (plain-none book C₁ e) (first s none e ∙ unfold on_first in refl)
        on-first s (some k) e =
            let F = found g G₁ (length g) v W.value_in (G₁.low v W.value_in) k e in
            by-stop (step_at (length g) book C₁ k) (drive (λ x. x) own (length g) m (k ∷ []) g) (plain-some book C₁ k e) (first s (some k) e ∙ unfold on_first in refl)
            (rw F.ended at (sim (length g) k [] (F.inside, λ c. e ∙ ap some (sym F.ended)) F.call (rw F.ended (G₁.low k F.inside))))

        go : Settled book B g G₁ v (settle g N) → Goal₁
        go (inl s) = on-first s (first_call (length g) g v) refl
        go (inr (h, M, s, c, k)) =
            by-stop (step_at (length g) book C₁ (follow g h)) (drive (λ x. x) own (length g) m (h ∷ M) g) (chain-turn book B g G₁ v askers M h k c) (unfold turn_on on_stack in (rw s))
            (sim (length g) h M k c (G₁.low (follow g h) (follow-ends G₁ h (chain-top book g v h M k)).inside))

    -- with any bound that is at least the graph's size
    clear : (x : Stop Graph) → NotLost (finish C₁ x) → Clear x
    unfolding finish
    clear (Machine.demand N g') f = tt
    clear (Machine.becomes h r N g') f = tt
    clear (Machine.parts h ks g') f = tt
    clear (Machine.fails g') f = tt
    clear (Machine.misfits g') f = tt
    clear Machine.broken f = f
    clear Machine.full f = tt

    sim-drive : (n : ℕ) → length g ≤ n → (t : ℕ) (N : List ℕ) → Chain book g v (t ∷ N) → Call g t → G₁.rank (follow g t) < length g → drive (λ x. x) own n m (t ∷ N) g ≡ drive (λ x. x) own (length g) m (t ∷ N) g
    sim-drive n l t N ch ct few =
        let s = sim (length g) t N ch ct few in
        let f = same-found (step_at (length g) book C₁ (follow g t)) (finish C₁ (drive (λ x. x) own (length g) m (t ∷ N) g)) s.0 in
        drive-bound m (length g) n (t ∷ N) g l (clear (drive (λ x. x) own (length g) m (t ∷ N) g) f)

    handles-in : (h : ℕ) → Memᴰ h (v ∷ askers) → h < length g
    handles-in h u = go (Memᴰ.cases_cons u)
      where
        go : (h ≡ v) ⊎ Memᴰ h askers → h < length g
        go (inl e) = rw e W.value_in
        go (inr w) = W.askers-in h w

    pub turn_on-bound : (n : ℕ) → length g ≤ n → (N : List ℕ) → Chain book g v N → turn_on (λ x. x) own n m g (record { value = v; askers = askers; stack = N }) ≡ turn_on (λ x. x) own (length g) m g (record { value = v; askers = askers; stack = N })
    unfolding turn_on on_stack on_first
    turn_on-bound n l N ch = go (settle-chain book B g G₁ v N ch)
      where
        H : Held
        H = record { value = v; askers = askers; stack = N }

        Goal₁ : Type 0
        Goal₁ = turn_on (λ x. x) own n m g H ≡ turn_on (λ x. x) own (length g) m g H

        first-n : first_call n g v ≡ first_call (length g) g v
        first-n = let i = G₁.low v W.value_in in first-bound g G₁ n (length g) v W.value_in (omega arith) i

        on-first : settle g N ≡ [] → (o : Option ℕ) → first_call (length g) g v ≡ o → Goal₁
        on-first s none e = rw (s, first-n, e) (ap told (bytes-bound g G₁ n l (v ∷ askers) handles-in))
        on-first s (some k) e =
            let F = found g G₁ (length g) v W.value_in (G₁.low v W.value_in) k e in
            rw (s, first-n, e) (ap stopped (sim-drive n l k [] (F.inside, λ c. e ∙ ap some (sym F.ended)) F.call (rw F.ended (G₁.low k F.inside))))

        go : Settled book B g G₁ v (settle g N) → Goal₁
        go (inl s) = on-first s (first_call (length g) g v) refl
        go (inr (t, M, s, c, k)) = rw s (ap stopped (sim-drive n l t M k c (G₁.low (follow g t) (follow-ends G₁ t (chain-top book g v t M k)).inside)))

    -- a turn gives the same with any bound that is at least the graph's size
    pub turn-bound : (n : ℕ) → length g ≤ n → (N : List ℕ) → Chain book g v N → turn_within n m (record { comp = C₁; stack = N }) ≡ Machine.turn m (record { comp = C₁; stack = N })
    unfolding Machine.turn turn_within
    turn-bound n l N ch = rw (turn_on-bound n l N ch, turn_within)
