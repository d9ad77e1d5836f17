-- The free-variable registers stay within a byte's numbers.
-- Here, in order: registers with one more set; the variable that is read; an instruction, STOREVAR among them; a step.
-- Assumes nothing.
use Prim.Native.Nat.{ℕ, zero, suc, ◌-◌, ◌≤◌, ◌<◌}
use native.Mathlib.Omega.{arith}
use mathlib.Core.Path.{◌≡◌, refl, ap, subst}
use mathlib.Core.Bool.{Bool, true, false}
use mathlib.Core.Option.{Option, none, some}
use mathlib.Core.List.{List, [], ◌∷◌}
use lib.Dec.{leb, leb→le}
use lib.ListN.{length, get_or, get_elem?, take, drop, length-append, length-drop}
use lib.Seq.{length-take-le}
use Rattle.book.specs.Syntax.{con, fun}
use Rattle.heap.specs.Graph.{Graph, Node, cell, var, fwd, look, follow}
use Rattle.engine.specs.Code.{Instr, load, branch, go, push, pop, make_anon, store_var, make_var, make_term, replace, narrow, choice, fail, wrong, bodies, decode, width}
use Rattle.engine.specs.Compile.{Program}
use Rattle.engine.specs.Machine.{State, st, Step, on, ends, broken, demand, misfits, at, put, arity_of, arm_of, jump, on_branch, run, step}
use Rattle.terms.specs.Depth.{var_bound, code_left, registers}
use Rattle.terms.proofs.Steps.{ends_on, on-on, need-on, when-on, made-on}

pub put-length : (F : List ℕ) (v k n : ℕ) → v ≤ length F → v < n → length F ≤ n → length (put F v k) ≤ n
unfolding put
put-length F v k n p q l = rw (length-append, length-take-le v F p, length-drop (suc v) F) (omega arith)

-- the variable of a STOREVAR
stored : Instr → ℕ
stored (load p) = 0
stored (branch y) = 0
stored (go o) = 0
stored push = 0
stored pop = 0
stored make_anon = 0
stored (store_var v) = v
stored (make_var v) = 0
stored (make_term y) = 0
stored replace = 0
stored narrow = 0
stored choice = 0
stored fail = 0
stored wrong = 0

body-stored : (k : ℕ) (b : List ℕ) → stored (get_or bodies k (λ b. wrong) b) ≤ get_or b 0 0
unfolding stored
body-stored zero b = omega arith
body-stored (suc zero) b = omega arith
body-stored (suc (suc zero)) b = omega arith
body-stored (suc (suc (suc zero))) b = omega arith
body-stored (suc (suc (suc (suc zero)))) b = omega arith
body-stored (suc (suc (suc (suc (suc zero))))) b = omega arith
body-stored (suc (suc (suc (suc (suc (suc zero)))))) b = omega arith
body-stored (suc (suc (suc (suc (suc (suc (suc zero))))))) b = omega arith
body-stored (suc (suc (suc (suc (suc (suc (suc (suc zero)))))))) b = omega arith
body-stored (suc (suc (suc (suc (suc (suc (suc (suc (suc zero))))))))) b = omega arith
body-stored (suc (suc (suc (suc (suc (suc (suc (suc (suc (suc zero)))))))))) b = omega arith
body-stored (suc (suc (suc (suc (suc (suc (suc (suc (suc (suc (suc zero))))))))))) b = omega arith
body-stored (suc (suc (suc (suc (suc (suc (suc (suc (suc (suc (suc (suc zero)))))))))))) b = omega arith
body-stored (suc (suc (suc (suc (suc (suc (suc (suc (suc (suc (suc (suc (suc k))))))))))))) b = omega arith

decode-stored : (I : List ℕ) → stored (decode I) ≤ get_or I 1 0
unfolding stored decode
decode-stored [] = omega arith
decode-stored (k ∷ b) = go (leb 0x30 k) refl
  where
    go : (c : Bool) → leb 0x30 k ≡ c → stored (decode (k ∷ b)) ≤ get_or b 0 0
    go true e = rw (e, decode) (body-stored (k - 0x30) b)
    go false e = rw (e, decode) (omega arith)

-- the variable of the STOREVAR that bytes begin with is the second of them, or lower
pub stored-byte : (I : List ℕ) (v : ℕ) → decode I ≡ store_var v → get_or I 1 0 < var_bound → v < var_bound
unfolding stored
stored-byte I v e b = let h : stored (decode I) ≤ get_or I 1 0 = decode-stored I in let z : stored (decode I) ≡ v = ap stored e in omega arith

module _ {M : Type 0} (graph : M → Graph) (make : M → Node → Option (M × ℕ)) (m : Program) where
  module _ (n : ℕ) (I N : List ℕ) (R : Option ℕ) (T F : List ℕ) (μ : M) (s : State M) (l : length F ≤ n) where
    keeps : (J N' : List ℕ) (R' : Option ℕ) (T' F' : List ℕ) (μ' : M) → on (st J N' R' T' F' μ') ≡ on s → length F' ≤ n → length (registers s) ≤ n
    keeps J N' R' T' F' μ' e p = subst (λ x. length (registers x) ≤ n) (on-on (st J N' R' T' F' μ') s e) p

    arm-keeps : (o : Option ℕ) → (let x : Step M = elim o [ some j ↦ on (st (jump m I (suc j)) N R T F μ) | none ↦ ends (misfits μ) ] in x ≡ on s) → length (registers s) ≤ n
    arm-keeps none e = absurd (ends_on (misfits μ) s e)
    arm-keeps (some j) e = keeps (jump m I (suc j)) N R T F μ e l

    branch_keeps : (y r : ℕ) (x : Node) → on_branch graph make m y r x (st I N R T F μ) ≡ on s → length (registers s) ≤ n
    unfolding on_branch
    branch_keeps y r (cell (fun g) hs) e = absurd (ends_on (demand (follow (graph μ) r ∷ N) μ) s e)
    branch_keeps y r (cell (con c) hs) e = arm-keeps (arm_of m y c) e
    branch_keeps y r var e = keeps (jump m I 0) N R T F μ e l
    branch_keeps y r (fwd k) e = absurd (ends_on broken s e)

    -- an instruction leaves no more registers than there were, or than its variable asks for
    run-keeps : (i : Instr) → run graph make m i (st I N R T F μ) ≡ on s → stored i < n → length (registers s) ≤ n
    unfolding run stored
    run-keeps (load p) e q =
        let a = need-on (get_elem? N 0) _ s e in
        let b = need-on (at (graph μ) a.0 p) _ s a.2 in
        keeps I N (some b.0) T F μ b.2 l
    run-keeps (branch y) e q = let a = need-on R _ s e in branch_keeps y a.0 (look (graph μ) a.0) a.2
    run-keeps (go o) e q = absurd (ends_on broken s e)
    run-keeps push e q = let a = need-on R _ s e in keeps I N R (a.0 ∷ T) F μ a.2 l
    run-keeps pop e q = let a = need-on (get_elem? T 0) _ s e in keeps I N (some a.0) (drop 1 T) F μ a.2 l
    run-keeps make_anon e q = let a = made-on (make μ var) _ s e in keeps I N R (a.1 ∷ T) F a.0 a.2 l
    run-keeps (store_var v) e q =
        let a = when-on (leb v (length F)) _ s e in
        let b = made-on (make μ var) _ s a.1 in
        keeps I N R T (put F v b.1) b.0 b.2 (put-length F v b.1 n (leb→le v (length F) (rw a.0 tt)) q l)
    run-keeps (make_var v) e q = let a = need-on (get_elem? F v) _ s e in keeps I N R (a.0 ∷ T) F μ a.2 l
    run-keeps (make_term y) e q =
        let a = when-on (leb (arity_of m y) (length T)) _ s e in
        let b = made-on (make μ (cell y (take (arity_of m y) T))) _ s a.1 in
        keeps I N R (b.1 ∷ drop (arity_of m y) T) F b.0 b.2 l
    run-keeps replace e q =
        let a = need-on (get_elem? N 0) _ s e in
        let b = need-on R _ s a.2 in
        absurd (ends_on _ s b.2)
    run-keeps narrow e q = let a = need-on R _ s e in absurd (ends_on _ s a.2)
    run-keeps choice e q = let a = need-on (get_elem? N 0) _ s e in absurd (ends_on _ s a.2)
    run-keeps fail e q = absurd (ends_on _ s e)
    run-keeps wrong e q = absurd (ends_on broken s e)

  -- STOREVAR leaves no more registers than there were, or than its variable asks for
  pub vars-room : (n v : ℕ) (s s' : State M) → run graph make m (store_var v) s ≡ on s' → v < n → length (registers s) ≤ n → length (registers s') ≤ n
  unfolding stored
  vars-room n v (st I N R T F μ) s' e q l = run-keeps n I N R T F μ s' l (store_var v) e q

  -- a step keeps the registers within a byte's numbers, where the code is bytes
  pub vars-step : (s s' : State M) → step graph make m s ≡ on s' → get_or (code_left s) 1 0 < var_bound → length (registers s) ≤ var_bound → length (registers s') ≤ var_bound
  unfolding step
  vars-step (st I N R T F μ) s' e b l = let h = decode-stored I in run-keeps var_bound (drop (width (decode I)) I) N R T F μ s' l (decode I) e (omega arith)
