-- Laws of the call on the stack's top: its code.
-- Assumes nothing.
use Prim.Native.Nat.{ℕ, ◌-◌, ◌<◌}
use mathlib.Core.Path.{◌≡◌, refl, ap, sym, ◌∙◌, subst}
use mathlib.Core.Option.{none}
use mathlib.Core.List.{List, [], ◌∷◌}
use lib.ListN.{length, get_or, drop}
use native.Mathlib.Omega.{arith}
use Rattle.book.specs.Syntax.{con, fun}
use Rattle.heap.specs.Graph.{Node, cell, var, fwd, node, follow, look, args}
use Rattle.heap.specs.Store.{Store, take1}
use Rattle.store.specs.Rows.{seen}
use Rattle.store.specs.Regions.{graph_of, rest_of, store_of}
use Rattle.engine.specs.Compile.{Program}
use Rattle.engine.specs.Machine as m
use Rattle.book.specs.declared.FunNo.{FunNo}
use Rattle.store.specs.declared.Seen.{Seen}
use Rattle.machine.specs.View.{stack_of, pre_terms, terms_of, free_vars, cur_of, state_of, emptied, stop_of, called_of}
use Rattle.machine.specs.Contract.{Low, Came, ByTables, exec_on}
use Rattle.machine.specs.Drive.{top_stop, Topped}
use Rattle.machine.proofs.Frames.{kept_same}
use Rattle.machine.proofs.Stacks.{stack-cons, stack-nil}
use Rattle.machine.specs.declared.Regs.{Regs}
use Rattle.machine.specs.declared.Ended.{Ended}
use Rattle.std.specs.Prelude.{Option, Some, None}
use Rattle.machine.specs.declared.Stop.TheVariants.{Broken}

abbrev on_top_on : Program → Node → List ℕ → Store → m.Stop Store
on_top_on p x N μ = m.on_top (λ (μ : Store). μ.nodes) take1 p x N μ

-- the registers that a call's code starts with
abbrev pub at_place : ℕ → ℕ → ℕ → Regs
at_place pc t k = record { pc = pc; top = t; cur = None; terms = 0; vars = 0; made = k }

top-of : (p : Program) (N : List ℕ) (μ : Store) (t : ℕ) (N' : List ℕ) → N ≡ t ∷ N' → top_stop p N μ ≡ on_top_on p (look μ.nodes t) N μ
unfolding top_stop
top-of p N μ t N' e = rw e

top-nil : (p : Program) (N : List ℕ) (μ : Store) → N ≡ [] → top_stop p N μ ≡ m.broken
unfolding top_stop
top-nil p N μ e = rw e

-- what is no call has no code
no_code : (p : Program) (x : Node) (N : List ℕ) (μ : Store) → called_of (seen x) ≡ None → on_top_on p x N μ ≡ m.broken
unfolding seen m.on_top
no_code p (cell (con y) hs) N μ e = refl
no_code p (cell (fun y) hs) N μ e = cc
no_code p var N μ e = refl
no_code p (fwd y) N μ e = refl

a_call : (x : Node) (f : FunNo) → called_of (seen x) ≡ Some f → x ≡ cell (fun f.0) (args x)
unfolding seen args
a_call (cell (con y) hs) f e = cc
a_call (cell (fun y) hs) f e = cc
a_call var f e = cc
a_call (fwd y) f e = cc

module _ (L base : ℕ) (code : List ℕ) (t k : ℕ) (s : List ℕ) where
  pub topped-empty : t ≡ 0 → Topped L base code t k s s (record { regs = emptied t k; stop = Broken })
  unfolding stop_of
  topped-empty e = record { is = λ p h u l. sym (top-nil p (stack_of L s t) (store_of L k s) (stack-nil L s t e)); kept = kept_same; links = refl; top = refl; made = omega arith; fine = (omega arith, omega arith) }

  module _ (a : ℕ) (x : Seen) (c : Option FunNo) (lt : 0 < t) (ea : a ≡ follow (graph_of L s) (t - 1)) (ex : x ≡ seen (node (graph_of L s) a)) (ec : c ≡ called_of x) where
    seen-top : called_of (seen (look (graph_of L s) (t - 1))) ≡ c
    unfolding look
    seen-top = ap (λ (i : ℕ). called_of (seen (node (graph_of L s) i))) (sym ea) ∙ ap called_of (sym ex) ∙ sym ec

    at_top : (p : Program) → top_stop p (stack_of L s t) (store_of L k s) ≡ on_top_on p (look (graph_of L s) (t - 1)) (stack_of L s t) (store_of L k s)
    unfolding store_of
    at_top p = top-of p (stack_of L s t) (store_of L k s) (t - 1) _ (stack-cons L s t lt)

    pub topped-other : c ≡ None → Topped L base code t k s s (record { regs = emptied t k; stop = Broken })
    unfolding stop_of
    topped-other e = record {
      is = λ p h u l. sym (at_top p ∙ no_code p (look (graph_of L s) (t - 1)) (stack_of L s t) (store_of L k s) (seen-top ∙ e));
      kept = kept_same;
      links = refl;
      top = refl;
      made = omega arith;
      fine = (omega arith, omega arith);
    }

    pub topped-call : {s' : List ℕ} {e : Ended} (f : FunNo) (pc : ℕ) → c ≡ Some f → ByTables base (rest_of L s) (λ p. pc ≡ get_or p.starts f.0 0) → Came L base code (at_place pc t k) (length code) s s' e → Topped L base code t k s s' e
    unfolding state_of pre_terms terms_of free_vars cur_of store_of m.on_top
    topped-call f pc ef b C =
        let call : look (graph_of L s) (t - 1) ≡ cell (fun f.0) (args (look (graph_of L s) (t - 1))) = a_call (look (graph_of L s) (t - 1)) f (seen-top ∙ ef) in
        record {
          is = λ p h u l.
              let same : state_of L base code (at_place pc t k) s ≡ m.st (drop (get_or p.starts f.0 0) p.code) (stack_of L s t) none [] [] (store_of L k s) = rw (b p h, ← u) in
              let room : Low (length p.code) p (m.st (drop (get_or p.starts f.0 0) p.code) (stack_of L s t) none [] [] (store_of L k s)) = l f.0 _ (t - 1) _ (stack-cons L s t lt) call in
              C.is p h u (subst (λ (x : m.State Store). Low (length code) p x) (sym same) (subst (λ (w : List ℕ). Low (length w) p (m.st (drop (get_or p.starts f.0 0) p.code) (stack_of L s t) none [] [] (store_of L k s))) u room))
              ∙ ap (exec_on (length code) p) same
              ∙ ap (λ (w : List ℕ). exec_on (length w) p (m.st (drop (get_or p.starts f.0 0) p.code) (stack_of L s t) none [] [] (store_of L k s))) (sym u)
              ∙ sym (at_top p ∙ ap (λ (x : Node). on_top_on p x (stack_of L s t) (store_of L k s)) call);
          kept = C.frame.kept;
          links = C.frame.links;
          top = C.frame.top;
          made = C.frame.made;
          fine = C.frame.fine;
        }
