-- Laws of the instructions: what each function's answer is, by what it read and wrote.
-- Assumes nothing.
use Prim.Native.Nat.{ℕ, suc, ◌+◌, ◌-◌, ◌*◌, ◌<◌}
use mathlib.Core.Path.{◌≡◌, refl, ap, sym, ◌∙◌}
use mathlib.Core.Option as pure
use mathlib.Core.Option.{none, some}
use mathlib.Core.List.{List}
use lib.ListN.{get_or, get_elem?, drop}
use lib.Seq.{get_or-drop}
use native.Mathlib.Omega.{arith}
use Rattle.heap.specs.Graph.{Node, node, follow, look}
use Rattle.heap.specs.Store.{Store, take1}
use Rattle.store.specs.Rows.{seen}
use Rattle.store.specs.Regions.{graph_of, rest_of, store_of}
use Rattle.store.proofs.Laws.{seen-var, seen-con, seen-call, seen-fwd}
use Rattle.engine.specs.Code as c
use Rattle.engine.specs.Compile.{Program}
use Rattle.engine.specs.Machine as m
use Rattle.book.specs.declared.ConNo.{ConNo}
use Rattle.book.specs.declared.FunNo.{FunNo}
use Rattle.store.specs.declared.NodeNo.{NodeNo}
use Rattle.store.specs.declared.Seen.{Seen}
use Rattle.store.specs.declared.Seen.TheVariants.{Var, Con, Call, Fwd}
use Rattle.machine.specs.Tables.{Has, terms_at}
use Rattle.machine.specs.View.{stack_of, pre_terms, free_vars, cur_of, cur_of, state_of, stop_of, ran_of, arm_is}
use Rattle.machine.specs.Contract.{run_on, Fine, Went, ByTables}
use Rattle.machine.proofs.Walking.{elem-none}
use Rattle.machine.proofs.Registers.{length-terms, terms-drop, terms-first, top-none, top-some}
use Rattle.machine.proofs.Frames.{frame-regs, frame_same}
use Rattle.machine.specs.declared.Regs.{Regs}
use Rattle.machine.specs.declared.Stop.{Stop}
use Rattle.machine.specs.declared.Stop.TheVariants.{Demand, Becomes, Parts, Fails, Misfits, Broken}
use Rattle.std.specs.Prelude.{Option, Some, None, Ok, Err}

-- a state by its parts
pub state-is : {I I' N N' T T' F F' : List ℕ} {R R' : pure.Option ℕ} {μ μ' : Store} → I ≡ I' → N ≡ N' → R ≡ R' → T ≡ T' → F ≡ F' → μ ≡ μ' → m.st I N R T F μ ≡ m.st I' N' R' T' F' μ'
state-is a b c d e f = λ i. m.st (a i) (b i) (c i) (d i) (e i) (f i)

module _ (L base : ℕ) (code : List ℕ) (r : Regs) (s : List ℕ) (fine : Fine r) where
  -- nothing is written, and the code ends
  pub ended : {f : Program → m.Step Store} (x : Stop) → ((p : Program) → Has p base (rest_of L s) → p.code ≡ code → m.ends (stop_of L base s r x) ≡ f p) → Went L base code r s s (Err (record { regs = r; stop = x })) f
  unfolding ran_of
  ended x e = record { is = λ p h q room. e p h q; frame = frame_same fine }

  -- LOAD
  pub load-empty : (q : List ℕ) → r.top ≡ 0 → Went L base code r s s (Err (record { regs = r; stop = Broken })) (λ p. run_on p (c.load q) (state_of L base code r s))
  unfolding stop_of state_of m.run m.need
  load-empty q e = ended Broken (λ p h u. sym (rw (top-none L s r.top e)))

  pub load-lost : (q : List ℕ) (k : Option NodeNo) → 0 < r.top → cur_of k ≡ m.at (graph_of L s) (r.top - 1) q → k ≡ None → Went L base code r s s (Err (record { regs = r; stop = Broken })) (λ p. run_on p (c.load q) (state_of L base code r s))
  unfolding stop_of state_of store_of cur_of m.run m.need
  load-lost q k t e z = let e' : m.at (graph_of L s) (r.top - 1) q ≡ none = sym e ∙ ap cur_of z in ended Broken (λ p h u. sym (rw (top-some L s r.top t, e')))

  pub load_found : (q : List ℕ) (k : Option NodeNo) (n : NodeNo) → 0 < r.top → cur_of k ≡ m.at (graph_of L s) (r.top - 1) q → k ≡ Some n
      → Went L base code r s s (Ok (record { pc = r.pc; top = r.top; cur = Some n; terms = r.terms; vars = r.vars; made = r.made })) (λ p. run_on p (c.load q) (state_of L base code r s))
  unfolding ran_of state_of store_of cur_of m.run m.need
  load_found q k n t e z =
      let e' : m.at (graph_of L s) (r.top - 1) q ≡ some n.0 = sym e ∙ ap cur_of z in
      record { is = λ p h u room. sym (rw (top-some L s r.top t, e')); frame = frame-regs refl (omega arith) fine }

  -- REPLACE, NARROW, CHOICE
  pub replace-empty : r.top ≡ 0 → Went L base code r s s (Err (record { regs = r; stop = Broken })) (λ p. run_on p c.replace (state_of L base code r s))
  unfolding stop_of state_of m.run m.need
  replace-empty e = ended Broken (λ p h u. sym (rw (top-none L s r.top e)))

  pub replace-lost : 0 < r.top → r.cur ≡ None → Went L base code r s s (Err (record { regs = r; stop = Broken })) (λ p. run_on p c.replace (state_of L base code r s))
  unfolding stop_of state_of cur_of m.run m.need
  replace-lost t e = ended Broken (λ p h u. sym (rw (top-some L s r.top t, e)))

  pub replace-is : (a n : NodeNo) → 0 < r.top → r.cur ≡ Some n → a.0 ≡ follow (graph_of L s) (r.top - 1) → Went L base code r s s (Err (record { regs = r; stop = Becomes a n })) (λ p. run_on p c.replace (state_of L base code r s))
  unfolding stop_of state_of store_of cur_of m.run m.need
  replace-is a n t e ea = ended (Becomes a n) (λ p h u. sym (rw (top-some L s r.top t, e, ← ea)))

  pub narrow-lost : r.cur ≡ None → Went L base code r s s (Err (record { regs = r; stop = Broken })) (λ p. run_on p c.narrow (state_of L base code r s))
  unfolding stop_of state_of cur_of m.run m.need
  narrow-lost e = ended Broken (λ p h u. sym (rw e))

  pub narrow-is : (a n : NodeNo) → r.cur ≡ Some n → a.0 ≡ follow (graph_of L s) n.0 → Went L base code r s s (Err (record { regs = r; stop = Parts a })) (λ p. run_on p c.narrow (state_of L base code r s))
  unfolding stop_of state_of store_of cur_of m.run m.need
  narrow-is a n e ea = ended (Parts a) (λ p h u. sym (rw (e, ← ea)))

  pub choice-empty : r.top ≡ 0 → Went L base code r s s (Err (record { regs = r; stop = Broken })) (λ p. run_on p c.choice (state_of L base code r s))
  unfolding stop_of state_of m.run m.need
  choice-empty e = ended Broken (λ p h u. sym (rw (top-none L s r.top e)))

  pub choice-is : (a : NodeNo) → 0 < r.top → a.0 ≡ follow (graph_of L s) (r.top - 1) → Went L base code r s s (Err (record { regs = r; stop = Parts a })) (λ p. run_on p c.choice (state_of L base code r s))
  unfolding stop_of state_of store_of m.run m.need
  choice-is a t ea = ended (Parts a) (λ p h u. sym (rw (top-some L s r.top t, ← ea)))

  -- FAIL, GO and what is no instruction
  pub fail-is : Went L base code r s s (Err (record { regs = r; stop = Fails })) (λ p. run_on p c.fail (state_of L base code r s))
  unfolding stop_of state_of m.run
  fail-is = ended Fails (λ p h u. refl)

  pub go-is : (o : ℕ) → Went L base code r s s (Err (record { regs = r; stop = Broken })) (λ p. run_on p (c.go o) (state_of L base code r s))
  unfolding stop_of state_of m.run
  go-is o = ended Broken (λ p h u. refl)

  pub wrong-is : Went L base code r s s (Err (record { regs = r; stop = Broken })) (λ p. run_on p c.wrong (state_of L base code r s))
  unfolding stop_of state_of m.run
  wrong-is = ended Broken (λ p h u. refl)

  -- POP
  pub pop-empty : r.terms ≡ 0 → Went L base code r s s (Err (record { regs = r; stop = Broken })) (λ p. run_on p c.pop (state_of L base code r s))
  unfolding stop_of state_of pre_terms m.run m.need
  pop-empty e = ended Broken (λ p h u. sym (rw (elem-none (pre_terms L base s r.terms) 0 (rw (length-terms r.terms (drop (base + terms_at) (rest_of L s))) (omega arith)))))

  pub pop-is : (n : NodeNo) → 0 < r.terms → n.0 ≡ get_or (rest_of L s) (base + terms_at + (r.terms - 1)) 0
      → Went L base code r s s (Ok (record { pc = r.pc; top = r.top; cur = Some n; terms = r.terms - 1; vars = r.vars; made = r.made })) (λ p. run_on p c.pop (state_of L base code r s))
  unfolding ran_of state_of pre_terms cur_of m.run m.need
  pop-is n t e =
      let first : get_elem? (pre_terms L base s r.terms) 0 ≡ some n.0 = terms-first r.terms (drop (base + terms_at) (rest_of L s)) t ∙ ap some (get_or-drop (base + terms_at) (rest_of L s) (r.terms - 1) 0 ∙ sym e) in
      let rest : drop 1 (pre_terms L base s r.terms) ≡ pre_terms L base s (r.terms - 1) = terms-drop 1 r.terms (drop (base + terms_at) (rest_of L s)) (omega arith) in
      record { is = λ p h u room. sym (rw (first, rest)); frame = frame-regs refl (omega arith) (omega arith, fine.1) }

  -- BRANCH
  pub branch-lost : (t : ℕ) → r.cur ≡ None → Went L base code r s s (Err (record { regs = r; stop = Broken })) (λ p. run_on p (c.branch t) (state_of L base code r s))
  unfolding stop_of state_of cur_of m.run m.need
  branch-lost t e = ended Broken (λ p h u. sym (rw e))

  module _ (t : ℕ) (a n : NodeNo) (k : Seen) (e : r.cur ≡ Some n) (ea : a.0 ≡ follow (graph_of L s) n.0) (ek : k ≡ seen (node (graph_of L s) a.0)) where
    here : (x : Node) → node (graph_of L s) a.0 ≡ x → (p : Program) → run_on p (c.branch t) (state_of L base code r s) ≡ m.on_branch (λ (μ : Store). μ.nodes) take1 p t n.0 x (state_of L base code r s)
    unfolding state_of store_of cur_of m.run m.need look
    here x ex p = let f : node (graph_of L s) (follow (graph_of L s) n.0) ≡ x = ap (node (graph_of L s)) (sym ea) ∙ ex in rw e (rw f)

    pub branch-call : (y : FunNo) (z : ℕ) → k ≡ Call y z → Went L base code r s s (Err (record { regs = r; stop = Demand a })) (λ p. run_on p (c.branch t) (state_of L base code r s))
    unfolding stop_of state_of store_of m.on_branch
    branch-call y z e' = ended (Demand a) (λ p h u. sym (here _ (seen-call (node (graph_of L s) a.0) y z (sym e' ∙ ek)).0 p ∙ rw (← ea)))

    pub branch-fwd : (y : NodeNo) → k ≡ Fwd y → Went L base code r s s (Err (record { regs = r; stop = Broken })) (λ p. run_on p (c.branch t) (state_of L base code r s))
    unfolding stop_of state_of m.on_branch
    branch-fwd y e' = ended Broken (λ p h u. sym (here _ (seen-fwd (node (graph_of L s) a.0) y (sym e' ∙ ek)) p))

    pub branch-var : (j : ℕ) → k ≡ Var → j ≡ c.from_four (drop (5 * 0 + 1) (drop r.pc code))
        → Went L base code r s s (Ok (record { pc = j; top = r.top; cur = r.cur; terms = r.terms; vars = r.vars; made = r.made })) (λ p. run_on p (c.branch t) (state_of L base code r s))
    unfolding ran_of state_of m.on_branch m.jump
    branch-var j e' ej = record { is = λ p h u room. sym (here _ (seen-var (node (graph_of L s) a.0) (sym e' ∙ ek)) p ∙ rw (← ej, u)); frame = frame-regs refl (omega arith) fine }

    arm : (p : Program) (y : ConNo) (z : ℕ) (o : pure.Option ℕ) → k ≡ Con y z → m.arm_of p t y.0 ≡ o
        → run_on p (c.branch t) (state_of L base code r s) ≡ elim o [ some j ↦ m.on (m.st (m.jump p (drop r.pc code) (suc j)) (stack_of L s r.top) (cur_of r.cur) (pre_terms L base s r.terms) (free_vars L base s r.vars) (store_of L r.made s)) | none ↦ m.ends (m.misfits (store_of L r.made s)) ]
    unfolding state_of m.on_branch
    arm p y z none e' eo = here _ (seen-con (node (graph_of L s) a.0) y z (sym e' ∙ ek)).0 p ∙ rw (eo, m.on_branch)
    arm p y z (some j) e' eo = here _ (seen-con (node (graph_of L s) a.0) y z (sym e' ∙ ek)).0 p ∙ rw (eo, m.on_branch)

    pub branch-misfit : (y : ConNo) (z : ℕ) (w : Option ℕ) → k ≡ Con y z → ByTables base (rest_of L s) (λ p. arm_is w ≡ m.arm_of p t y.0) → w ≡ None
        → Went L base code r s s (Err (record { regs = r; stop = Misfits })) (λ p. run_on p (c.branch t) (state_of L base code r s))
    unfolding stop_of arm_is
    branch-misfit y z w e' b ew = ended Misfits (λ p h u. sym (arm p y z none e' (sym (b p h) ∙ ap arm_is ew)))

    pub branch-con : (y : ConNo) (z : ℕ) (w : Option ℕ) (i j : ℕ) → k ≡ Con y z → ByTables base (rest_of L s) (λ p. arm_is w ≡ m.arm_of p t y.0) → w ≡ Some i → j ≡ c.from_four (drop (5 * (i + 1) + 1) (drop r.pc code))
        → Went L base code r s s (Ok (record { pc = j; top = r.top; cur = r.cur; terms = r.terms; vars = r.vars; made = r.made })) (λ p. run_on p (c.branch t) (state_of L base code r s))
    unfolding ran_of state_of arm_is m.jump
    branch-con y z w i j e' b ew ej =
        let one : i + 1 ≡ suc i = omega arith in
        record { is = λ p h u room. sym (arm p y z (some i) e' (sym (b p h) ∙ ap arm_is ew) ∙ rw (← one, ← ej, u)); frame = frame-regs refl (omega arith) fine }
