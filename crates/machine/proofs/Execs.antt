-- Laws of code that runs: an operation, a step, at most n steps.
-- Assumes nothing.
use Prim.Native.Nat.{ℕ, zero, suc, ◌+◌, ◌-◌, ◌≤◌, ◌<◌}
use mathlib.Core.Path.{◌≡◌, refl, ap, sym, ◌∙◌, subst}
use mathlib.Core.List.{List}
use lib.ListN.{length, drop, drop_of_length-le}
use lib.Seq.{drop-drop}
use native.Mathlib.Omega.{arith}
use Rattle.heap.specs.Store.{Store}
use Rattle.store.specs.Regions.{rest_of}
use Rattle.engine.specs.Code as c
use Rattle.engine.specs.Compile.{Program}
use Rattle.engine.specs.Machine as m
use Rattle.machine.specs.Tables.{Has}
use Rattle.machine.specs.View.{state_of, stop_of, ran_of, after, op_of, width_of}
use Rattle.machine.specs.Contract.{run_on, step_on, exec_on, Fine, Frame, Roomy, Went, Low, Came}
use Rattle.machine.proofs.Codes.{width-op}
use Rattle.machine.proofs.Frames.{frame-regs, frame_then, has_kept, went-as, went-from}
use Rattle.machine.proofs.Runs.{ended}
use Rattle.machine.specs.declared.Regs.{Regs}
use Rattle.machine.specs.declared.Ended.{Ended}
use Rattle.machine.specs.declared.Op.{Op}
use Rattle.machine.specs.declared.Op.TheVariants.{Load, Branch, Go, Push, Pop, MakeAnon, StoreVar, MakeVar, MakeTerm, Replace, Narrow, Choice, Fail, Wrong}
use Rattle.machine.specs.declared.Stop.TheVariants.{Broken}
use Rattle.std.specs.Prelude.{Result, Ok, Err}

-- an operation by its constructor
pub as-op : (at : ℕ) {L base : ℕ} {code : List ℕ} {r : Regs} {s s' : List ℕ} {a : Result Regs Ended} {o op : Op} → op ≡ o → Went L base code r s s' a (λ p. run_on p (op_of code at o) (state_of L base code r s)) → Went L base code r s s' a (λ p. run_on p (op_of code at op) (state_of L base code r s))
as-op at {L} {base} {code} {r} {s} e w = went-as (λ p h u. ap (λ (x : Op). run_on p (op_of code at x) (state_of L base code r s)) e) w

pub width_small : (o : Op) → width_of o ≤ 10
width_small (Load n) = omega arith
width_small (Branch t) = omega arith
width_small Go = omega arith
width_small Push = omega arith
width_small Pop = omega arith
width_small MakeAnon = omega arith
width_small (StoreVar v) = omega arith
width_small (MakeVar v) = omega arith
width_small (MakeTerm h) = omega arith
width_small Replace = omega arith
width_small Narrow = omega arith
width_small Choice = omega arith
width_small Fail = omega arith
width_small Wrong = omega arith

-- a step
module _ (L base : ℕ) (code : List ℕ) (r : Regs) (s : List ℕ) (fine : Fine r) where
  pub step_past : length code ≤ r.pc → Went L base code r s s (Err (record { regs = r; stop = Broken })) (λ p. step_on p (state_of L base code r s))
  unfolding stop_of state_of m.step m.run c.decode
  step_past h = ended L base code r s fine Broken (λ p q u. sym (rw (drop_of_length-le code h)))

  pub step_is : {s' : List ℕ} {a : Result Regs Ended} (op : Op) (w : ℕ) → op_of code r.pc op ≡ c.decode (drop r.pc code) → w ≡ width_of op
      → Went L base code (record { pc = r.pc + w; top = r.top; cur = r.cur; terms = r.terms; vars = r.vars; made = r.made }) s s' a (λ p. run_on p (op_of code r.pc op) (state_of L base code (record { pc = r.pc + w; top = r.top; cur = r.cur; terms = r.terms; vars = r.vars; made = r.made }) s))
      → Went L base code r s s' a (λ p. step_on p (state_of L base code r s))
  unfolding state_of m.step
  step_is op w e ew W =
      let v : c.width (op_of code r.pc op) ≡ w = width-op code r.pc op ∙ sym ew in
      went-from (frame-regs refl (omega arith) fine) (λ p h u. rw (← e, v, drop-drop w r.pc code)) W

-- at most n steps
exec-on : (left : ℕ) (p : Program) (x y : m.State Store) → 0 < left → step_on p x ≡ m.on y → exec_on left p x ≡ exec_on (left - 1) p y
unfolding m.exec
exec-on zero p x y h e = absurd (omega arith)
exec-on (suc l) p x y h e = let d : suc l - 1 ≡ l = omega arith in rw (e, d, m.exec)

exec-ends : (left : ℕ) (p : Program) (x : m.State Store) (y : m.Stop Store) → 0 < left → step_on p x ≡ m.ends y → exec_on left p x ≡ y
unfolding m.exec
exec-ends zero p x y h e = absurd (omega arith)
exec-ends (suc l) p x y h e = rw (e, m.exec)

low-now : (left : ℕ) (p : Program) (x : m.State Store) → 0 < left → Low left p x → Roomy (step_on p x)
unfolding Low
low-now zero p x h l = absurd (omega arith)
low-now (suc n) p x h l = l.0

low-next : (left : ℕ) (p : Program) (x y : m.State Store) → 0 < left → step_on p x ≡ m.on y → Low left p x → Low (left - 1) p y
unfolding Low
low-next zero p x y h e l = absurd (omega arith)
low-next (suc n) p x y h e l = let d : suc n - 1 ≡ n = omega arith in rw d (l.1 y e)

-- what is left of the run
pub record Along (L base : ℕ) (code : List ℕ) (r₀ : Regs) (n : ℕ) (s₀ s : List ℕ) (r : Regs) (left : ℕ) : Type 0 where
  pub is : (p : Program) → Has p base (rest_of L s₀) → p.code ≡ code → Low n p (state_of L base code r₀ s₀) → (exec_on left p (state_of L base code r s) ≡ exec_on n p (state_of L base code r₀ s₀)) × Low left p (state_of L base code r s)
  pub frame : Frame L base s₀ s r₀ r

module _ {L base : ℕ} {code : List ℕ} {r₀ : Regs} {n : ℕ} {s₀ : List ℕ} where
  module _ {s : List ℕ} {r : Regs} {left : ℕ} (A : Along L base code r₀ n s₀ s r left) where
    pub along-out : left ≤ 0 → Came L base code r₀ n s₀ s (record { regs = r; stop = Broken })
    unfolding stop_of m.exec
    along-out h = record { is = λ p q u l. go p q u l left refl h; frame = A.frame }
      where
        go : (p : Program) → Has p base (rest_of L s₀) → p.code ≡ code → Low n p (state_of L base code r₀ s₀) → (k : ℕ) → left ≡ k → k ≤ 0 → m.broken ≡ exec_on n p (state_of L base code r₀ s₀)
        go p q u l zero e z = ap (λ (i : ℕ). exec_on i p (state_of L base code r s)) (sym e) ∙ (A.is p q u l).0
        go p q u l (suc k) e z = absurd (omega arith)

    module _ {s' : List ℕ} {a : Result Regs Ended} (lt : 0 < left) (w : Went L base code r s s' a (λ p. step_on p (state_of L base code r s))) where
      told : (p : Program) → Has p base (rest_of L s₀) → p.code ≡ code → Low n p (state_of L base code r₀ s₀) → ran_of L base code s' a ≡ step_on p (state_of L base code r s)
      told p h u l = w.is p (has_kept A.frame.kept p h) u (low-now left p (state_of L base code r s) lt (A.is p h u l).1)

      pub along-on : (r' : Regs) (left' : ℕ) → left ≡ left' + 1 → a ≡ Ok r' → Along L base code r₀ n s₀ s' r' left'
      unfolding ran_of
      along-on r' left' one e = record {
        is = λ p h u l.
            let on : step_on p (state_of L base code r s) ≡ m.on (state_of L base code r' s') = sym (told p h u l) ∙ ap (ran_of L base code s') e in
            let d : left - 1 ≡ left' = omega arith in
            (ap (λ (i : ℕ). exec_on i p (state_of L base code r' s')) (sym d) ∙ sym (exec-on left p (state_of L base code r s) (state_of L base code r' s') lt on) ∙ (A.is p h u l).0, rw (← d) (low-next left p (state_of L base code r s) (state_of L base code r' s') lt on (A.is p h u l).1));
        frame = frame_then A.frame (subst (λ (x : Result Regs Ended). Frame L base s s' r (after x)) e w.frame);
      }

      pub along-ends : (x : Ended) → a ≡ Err x → Came L base code r₀ n s₀ s' x
      unfolding ran_of
      along-ends x e = record {
        is = λ p h u l.
            let end : step_on p (state_of L base code r s) ≡ m.ends (stop_of L base s' x.regs x.stop) = sym (told p h u l) ∙ ap (ran_of L base code s') e in
            sym (exec-ends left p (state_of L base code r s) (stop_of L base s' x.regs x.stop) lt end) ∙ (A.is p h u l).0;
        frame = frame_then A.frame (subst (λ (x : Result Regs Ended). Frame L base s s' r (after x)) e w.frame);
      }
