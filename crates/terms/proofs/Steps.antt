-- Running an instruction keeps room on the pre-term stack, over any memory.
-- Here, in order: when the code goes on; an instruction that goes on; a step; room behind it; what each instruction has room for.
-- Assumes nothing.
use Prim.Native.Nat.{ℕ, suc, ◌-◌, ◌≤◌, ◌<◌}
use native.Mathlib.Omega.{arith}
use mathlib.Core.Path.{◌≡◌, refl, sym, ap, ◌∙◌, subst}
use mathlib.Core.Bool.{Bool, true, false}
use mathlib.Core.Option.{Option, none, some}
use mathlib.Core.List.{List, ◌∷◌}
use lib.Dec.{leb, leb→le}
use lib.ListN.{length, get_elem?, take, drop, length-drop}
use Rattle.book.specs.Syntax.{Symbol, con, fun}
use Rattle.heap.specs.Graph.{Graph, Node, cell, var, fwd, look, follow}
use Rattle.engine.specs.Code.{Instr, load, branch, go, push, pop, make_anon, store_var, make_var, make_term, replace, narrow, choice, fail, wrong, decode, width}
use Rattle.engine.specs.Compile.{Program}
use Rattle.engine.specs.Machine.{State, st, Stop, Step, on, ends, broken, full, demand, misfits, at, put, arity_of, arm_of, jump, need, when, made, on_branch, run, step}
use Rattle.agreement.proofs.Arms.{arm-place}
use Rattle.agreement.proofs.Places.{placed}
use Rattle.terms.specs.Depth.{term_bound, code_left, pre_terms, Adds, Fit, Fits, Runs}

module _ {M : Type 0} where
  -- code that ends doesn't go on
  pub ends_on : (x : Stop M) (s : State M) → ends x ≡ on s → ⊥
  ends_on x s e = let z : ◌≡◌ {A = ℕ} 0 1 = ap number e in omega arith
    where
      number : Step M → ℕ
      number (on s) = 1
      number (ends x) = 0

  pub on-on : (s s' : State M) → on s ≡ on s' → s ≡ s'
  on-on s s' e = ap state e
    where
      state : Step M → State M
      state (on x) = x
      state (ends x) = s

  -- what was needed was there
  pub need-on : (o : Option ℕ) (k : ℕ → Step M) (s : State M) → need o k ≡ on s → (x : ℕ) × (o ≡ some x) × (k x ≡ on s)
  unfolding need
  need-on none k s e = absurd (ends_on broken s e)
  need-on (some x) k s e = (x, refl, e)

  pub when-on : (b : Bool) (x : Step M) (s : State M) → when b x ≡ on s → (b ≡ true) × (x ≡ on s)
  unfolding when
  when-on true x s e = (refl, e)
  when-on false x s e = absurd (ends_on broken s e)

  pub made-on : (o : Option (M × ℕ)) (k : M → ℕ → Step M) (s : State M) → made o k ≡ on s → (μ : M) × (h : ℕ) × (k μ h ≡ on s)
  unfolding made
  made-on none k s e = absurd (ends_on full s e)
  made-on (some p) k s e = (p.0, p.1, e)

module _ (m : Program) (next : List ℕ → ℕ → Type 0) (I : List ℕ) (t : ℕ) where
  -- an instruction that adds an entry leaves no more than there is room for
  pub fit-room : (i : Instr) → Adds i → Fit m i next I t → Fit m i (λ I' t'. t' ≤ term_bound) I t
  unfolding Fit
  fit-room (load p) a f = absurd a
  fit-room (branch y) a f = absurd a
  fit-room (go o) a f = tt
  fit-room push a f = (f.0, f.0)
  fit-room pop a f = absurd a
  fit-room make_anon a f = (f.0, f.0)
  fit-room (store_var v) a f = absurd a
  fit-room (make_var v) a f = (f.0, f.0)
  fit-room (make_term y) a f = λ q. ((f q).0, (f q).0)
  fit-room replace a f = tt
  fit-room narrow a f = tt
  fit-room choice a f = tt
  fit-room fail a f = tt
  fit-room wrong a f = tt

  -- nor does any other that begins with no more
  pub fit_stays : (i : Instr) → t ≤ term_bound → Fit m i next I t → Fit m i (λ I' t'. t' ≤ term_bound) I t
  unfolding Fit
  fit_stays (load p) l f = l
  fit_stays (branch y) l f = (l, λ j q. l)
  fit_stays (go o) l f = tt
  fit_stays push l f = (f.0, f.0)
  fit_stays pop l f = omega arith
  fit_stays make_anon l f = (f.0, f.0)
  fit_stays (store_var v) l f = l
  fit_stays (make_var v) l f = (f.0, f.0)
  fit_stays (make_term y) l f = λ q. ((f q).0, (f q).0)
  fit_stays replace l f = tt
  fit_stays narrow l f = tt
  fit_stays choice l f = tt
  fit_stays fail l f = tt
  fit_stays wrong l f = tt

-- room before the instruction at hand
module _ (m : Program) (n : ℕ) (I : List ℕ) (t : ℕ) (f : Fits m (suc n) I t) where
  pub room-push : decode I ≡ push → t < term_bound
  unfolding Fits Fit
  room-push e = (rw e at f).0

  pub room-anon : decode I ≡ make_anon → t < term_bound
  unfolding Fits Fit
  room-anon e = (rw e at f).0

  pub room-var : (v : ℕ) → decode I ≡ make_var v → t < term_bound
  unfolding Fits Fit
  room-var v e = (rw e at f).0

  pub room-term : (y : Symbol) → decode I ≡ make_term y → arity_of m y ≤ t → t - arity_of m y < term_bound
  unfolding Fits Fit
  room-term y e q = ((rw e at f) q).0

module _ {M : Type 0} (graph : M → Graph) (make : M → Node → Option (M × ℕ)) (m : Program) where
  -- the code and the entries that an instruction goes on with are those that it has room for
  module _ (next : List ℕ → ℕ → Type 0) (I N : List ℕ) (R : Option ℕ) (T F : List ℕ) (μ : M) (s : State M) where
    abbrev Goes : Type 0
    Goes = next (code_left s) (length (pre_terms s))

    goes : (J N' : List ℕ) (R' : Option ℕ) (T' F' : List ℕ) (μ' : M) → on (st J N' R' T' F' μ') ≡ on s → (t : ℕ) → length T' ≡ t → next J t → Goes
    goes J N' R' T' F' μ' e t l f = subst (λ x. next (code_left x) (length (pre_terms x))) (on-on (st J N' R' T' F' μ') s e) (rw l f)

    arm-fits : (y c : ℕ) (o : Option ℕ) → arm_of m y c ≡ o → (let x : Step M = elim o [ some j ↦ on (st (jump m I (suc j)) N R T F μ) | none ↦ ends (misfits μ) ] in x ≡ on s)
        → Fit m (branch y) next I (length T) → Goes
    unfolding Fit
    arm-fits y c none a e f = absurd (ends_on (misfits μ) s e)
    arm-fits y c (some j) a e f = goes (jump m I (suc j)) N R T F μ e (length T) refl (f.1 j (placed m.types y c j (sym (arm-place m y c) ∙ a)).small)

    branch_fits : (y r : ℕ) (x : Node) → on_branch graph make m y r x (st I N R T F μ) ≡ on s → Fit m (branch y) next I (length T) → Goes
    unfolding Fit on_branch
    branch_fits y r (cell (fun g) hs) e f = absurd (ends_on (demand (follow (graph μ) r ∷ N) μ) s e)
    branch_fits y r (cell (con c) hs) e f = arm-fits y c (arm_of m y c) refl e f
    branch_fits y r var e f = goes (jump m I 0) N R T F μ e (length T) refl f.0
    branch_fits y r (fwd k) e f = absurd (ends_on broken s e)

    pub run_fits : (i : Instr) → run graph make m i (st I N R T F μ) ≡ on s → Fit m i next I (length T) → Goes
    unfolding Fit run
    run_fits (load p) e f =
        let a = need-on (get_elem? N 0) _ s e in
        let b = need-on (at (graph μ) a.0 p) _ s a.2 in
        goes I N (some b.0) T F μ b.2 (length T) refl f
    run_fits (branch y) e f = let a = need-on R _ s e in branch_fits y a.0 (look (graph μ) a.0) a.2 f
    run_fits (go o) e f = absurd (ends_on broken s e)
    run_fits push e f = let a = need-on R _ s e in goes I N R (a.0 ∷ T) F μ a.2 (suc (length T)) refl f.1
    run_fits pop e f = let a = need-on (get_elem? T 0) _ s e in goes I N (some a.0) (drop 1 T) F μ a.2 (length T - 1) (length-drop 1 T) f
    run_fits make_anon e f = let a = made-on (make μ var) _ s e in goes I N R (a.1 ∷ T) F a.0 a.2 (suc (length T)) refl f.1
    run_fits (store_var v) e f =
        let a = when-on (leb v (length F)) _ s e in
        let b = made-on (make μ var) _ s a.1 in
        goes I N R T (put F v b.1) b.0 b.2 (length T) refl f
    run_fits (make_var v) e f = let a = need-on (get_elem? F v) _ s e in goes I N R (a.0 ∷ T) F μ a.2 (suc (length T)) refl f.1
    run_fits (make_term y) e f =
        let a = when-on (leb (arity_of m y) (length T)) _ s e in
        let b = made-on (make μ (cell y (take (arity_of m y) T))) _ s a.1 in
        let l : arity_of m y ≤ length T = leb→le (arity_of m y) (length T) (rw a.0 tt) in
        goes I N R (b.1 ∷ drop (arity_of m y) T) F b.0 b.2 (suc (length T - arity_of m y)) (ap suc (length-drop (arity_of m y) T)) (f l).1
    run_fits replace e f =
        let a = need-on (get_elem? N 0) _ s e in
        let b = need-on R _ s a.2 in
        absurd (ends_on _ s b.2)
    run_fits narrow e f = let a = need-on R _ s e in absurd (ends_on _ s a.2)
    run_fits choice e f = let a = need-on (get_elem? N 0) _ s e in absurd (ends_on _ s a.2)
    run_fits fail e f = absurd (ends_on _ s e)
    run_fits wrong e f = absurd (ends_on broken s e)

  -- a step keeps room for the instructions that are left
  pub fits-step : (n : ℕ) (s s' : State M) → step graph make m s ≡ on s' → Fits m (suc n) (code_left s) (length (pre_terms s)) → Fits m n (code_left s') (length (pre_terms s'))
  unfolding step Fits
  fits-step n (st I N R T F μ) s' e f = run_fits (λ I' t'. Fits m n I' t') (drop (width (decode I)) I) N R T F μ s' (decode I) e f

  -- and for any number of them
  pub runs-step : (s s' : State M) → step graph make m s ≡ on s' → Runs m (code_left s) (length (pre_terms s)) → Runs m (code_left s') (length (pre_terms s'))
  runs-step s s' e f n = fits-step n s s' e (f (suc n))

  -- what is on the stack behind an instruction that adds an entry has room
  pub fits-room : (n : ℕ) (s s' : State M) → step graph make m s ≡ on s' → Fits m (suc n) (code_left s) (length (pre_terms s)) → Adds (decode (code_left s)) → length (pre_terms s') ≤ term_bound
  unfolding step Fits
  fits-room n (st I N R T F μ) s' e f a =
      run_fits (λ I' t'. t' ≤ term_bound) (drop (width (decode I)) I) N R T F μ s' (decode I) e (fit-room m (λ I' t'. Fits m n I' t') (drop (width (decode I)) I) (length T) (decode I) a f)

  -- and behind any other, if it had before
  pub fits-stays : (n : ℕ) (s s' : State M) → step graph make m s ≡ on s' → Fits m (suc n) (code_left s) (length (pre_terms s)) → length (pre_terms s) ≤ term_bound → length (pre_terms s') ≤ term_bound
  unfolding step Fits
  fits-stays n (st I N R T F μ) s' e f l =
      run_fits (λ I' t'. t' ≤ term_bound) (drop (width (decode I)) I) N R T F μ s' (decode I) e (fit_stays m (λ I' t'. Fits m n I' t') (drop (width (decode I)) I) (length T) (decode I) l f)
