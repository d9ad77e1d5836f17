-- Laws of the instructions that write: a term pushed, a node made, a register set.
-- Assumes nothing.
use Prim.Native.Nat.{ℕ, ◌+◌, ◌-◌, ◌*◌, ◌≤◌, ◌<◌}
use mathlib.Core.Path.{◌≡◌, refl, ap, sym, ◌∙◌, subst}
use mathlib.Core.Logic.{◌⊎◌, inl, inr}
use mathlib.Core.Option.{some}
use mathlib.Core.List.{List, ◌∷◌}
use lib.ListN.{length, get_or, get_elem?, take, drop, set, length-drop, length-take}
use lib.Seq.{drop-set-add, drop-set-lt, take-set-le, get_or-take, get_or-drop, length-take-le}
use lib.Dec.{ltb}
use mathlib.Core.Bool.{Bool, true, false}
use Rattle.std.proofs.Common.{max}
use borrow.Author.Tests.{le-leb, lt-leb, ltb-true, ltb-false}
use native.Mathlib.Omega.{arith}
use Rattle.mem.specs.Words.{words}
use Rattle.book.specs.Syntax.{Symbol}
use Rattle.heap.specs.Graph.{Node, cell, var}
use Rattle.store.specs.Regions.{graph_of, links_of, rest_of, store_of, Memory, Did, set_node, set_rest}
use Rattle.store.proofs.Writes.{make-is, make-none, length_rest}
use Rattle.store.proofs.Laying.{Laying, lay-end}
use Rattle.engine.specs.Code as c
use Rattle.engine.specs.Machine as m
use Rattle.machine.specs.Tables.{Space, vars_at, terms_at, term_bound}
use Rattle.machine.specs.View.{stack_of, terms_of, pre_terms, free_vars, cur_of, state_of, stop_of, ran_of}
use Rattle.machine.specs.Contract.{run_on, pushed, Fine, Frame, Roomy, Went, ByTables}
use Rattle.machine.proofs.Walking.{elem-some, elem-none}
use Rattle.machine.proofs.Registers.{length-terms, terms-push, terms-drop, terms-get, put_next, put-there}
use Rattle.machine.proofs.Frames.{frame_same, kept-node, kept-rest, kept_then, went-as, went-from}
use Rattle.machine.proofs.Runs.{ended, state-is}
use Rattle.machine.specs.declared.Regs.{Regs}
use Rattle.machine.specs.declared.Ended.{Ended}
use Rattle.machine.specs.declared.Stop.TheVariants.{Broken, Full}
use Rattle.std.specs.Prelude.{Some, None, Result, Ok, Err}
use Rattle.store.specs.declared.NodeNo.{NodeNo}

length-pre : (L base : ℕ) (s : List ℕ) (k : ℕ) → length (pre_terms L base s k) ≡ k
unfolding pre_terms
length-pre L base s k = length-terms k (drop (base + terms_at) (rest_of L s))

length_part : (L base j : ℕ) (s : List ℕ) → 16 * L + base + 3016 ≤ length (words s) → j ≤ 3016 → 3016 - j ≤ length (drop (base + j) (rest_of L s))
length_part L base j s room h = rw (length-drop, length_rest) (omega arith)

-- a cell laid from the top of the pre-term stack
pub length-top : (L base terms count : ℕ) (s : List ℕ) → count ≤ terms → length (take count (pre_terms L base s terms)) ≡ count
length-top L base terms count s h = length-take-le count (pre_terms L base s terms) (rw (length-pre L base s terms) h)

module _ (L base terms count j k : ℕ) (s₀ s : List ℕ) (o : Laying L k (take count (pre_terms L base s₀ terms)) j s₀ s) where
  pub lay-word : (v : ℕ) → j < count → count ≤ terms → v ≡ get_or (rest_of L s) (base + terms_at + (terms - 1 - j)) 0 → v ≡ get_or (take count (pre_terms L base s₀ terms)) j 0
  unfolding pre_terms
  lay-word v h few e =
      let rest : rest_of L s ≡ rest_of L s₀ = ap (λ (m : Memory). m.rest) o.did.is in
      e
      ∙ ap (λ (l : List ℕ). get_or l (base + terms_at + (terms - 1 - j)) 0) rest
      ∙ sym (get_or-drop (base + terms_at) (rest_of L s₀) (terms - 1 - j) 0)
      ∙ sym (terms-get j terms (drop (base + terms_at) (rest_of L s₀)) (omega arith))
      ∙ sym (get_or-take count (terms_of terms (drop (base + terms_at) (rest_of L s₀))) j 0 h)

  pub laid-is : (y : Symbol) (zs r : List ℕ) → k < L → count ≤ terms → count ≤ j → Did L r s₀ (set_node k (cell y zs)) → Did L r s (set_node k (cell y (take count (pre_terms L base r terms))))
  unfolding pre_terms
  laid-is y zs r lt few all d =
      let rest : rest_of L s₀ ≡ rest_of L r = ap (λ (m : Memory). m.rest) d.is in
      subst (λ (l : List ℕ). Did L r s (set_node k (cell y (take count (terms_of terms (drop (base + terms_at) l)))))) rest (lay-end L k (take count (pre_terms L base s₀ terms)) j s₀ s lt o y zs r (rw (length-top L base terms count s₀ few) all) d)

-- a term pushed
module _ (L base : ℕ) (code : List ℕ) (r : Regs) (s : List ℕ) (fine : Fine r) (v : ℕ) where
  pub push-full : term_bound ≤ r.terms → Went L base code r s s (Err (record { regs = r; stop = Broken })) (λ p. pushed v (state_of L base code r s))
  unfolding pushed Roomy state_of
  push-full h = record { is = λ p q u room. absurd (omega (arith, length-pre L base s r.terms)); frame = frame_same fine }

  pub push_goes : {s' : List ℕ} → Space L base s → r.terms < term_bound → Did L s s' (set_rest (base + terms_at + r.terms) v)
      → Went L base code r s s' (Ok (record { pc = r.pc; top = r.top; cur = r.cur; terms = r.terms + 1; vars = r.vars; made = r.made })) (λ p. pushed v (state_of L base code r s))
  unfolding pushed ran_of state_of stack_of pre_terms free_vars store_of
  push_goes {s'} sp lt d =
      let links : links_of L s' ≡ links_of L s = ap (λ (m : Memory). m.links) d.is in
      let graph : graph_of L s' ≡ graph_of L s = ap (λ (m : Memory). m.graph) d.is in
      let rest : rest_of L s' ≡ set (rest_of L s) (base + terms_at + r.terms) v = ap (λ (m : Memory). m.rest) d.is in
      let terms : pre_terms L base s' (r.terms + 1) ≡ v ∷ pre_terms L base s r.terms =
      rw (rest, drop-set-add (base + terms_at) (rest_of L s) r.terms v) (terms-push r.terms v (drop (base + terms_at) (rest_of L s)) (omega (arith, length_part L base terms_at s sp.2 (omega arith)))) in
      let far : base + terms_at + r.terms ≡ base + vars_at + (256 + r.terms) = omega arith in
      let vars : free_vars L base s' r.vars ≡ free_vars L base s r.vars =
      rw (rest, far, drop-set-add (base + vars_at) (rest_of L s) (256 + r.terms) v) (take-set-le r.vars (drop (base + vars_at) (rest_of L s)) (256 + r.terms) v (omega arith)) in
      record {
        is = λ p q u room. ap m.on (state-is refl (rw links) refl terms vars (rw graph));
        frame = record { kept = kept-rest d (omega arith) (omega arith); links = links; top = refl; made = omega arith; fine = (omega arith, fine.1) };
      }

-- PUSH and MAKEVAR
module _ (L base : ℕ) (code : List ℕ) (r : Regs) (s : List ℕ) (fine : Fine r) where
  pub push-lost : r.cur ≡ None → Went L base code r s s (Err (record { regs = r; stop = Broken })) (λ p. run_on p c.push (state_of L base code r s))
  unfolding stop_of state_of cur_of m.run m.need
  push-lost e = ended L base code r s fine Broken (λ p h u. sym (rw e))

  pub push-is : {s' : List ℕ} {a : Result Regs Ended} (n : NodeNo) → r.cur ≡ Some n → Went L base code r s s' a (λ p. pushed n.0 (state_of L base code r s)) → Went L base code r s s' a (λ p. run_on p c.push (state_of L base code r s))
  unfolding state_of pushed cur_of m.run m.need
  push-is n e w = went-as (λ p h u. rw e) w

  pub var-lost : (v : ℕ) → r.vars ≤ v → Went L base code r s s (Err (record { regs = r; stop = Broken })) (λ p. run_on p (c.make_var v) (state_of L base code r s))
  unfolding stop_of state_of free_vars m.run m.need
  var-lost v h = ended L base code r s fine Broken (λ p q u. sym (rw (elem-none (free_vars L base s r.vars) v (rw length-take (omega arith)))))

  pub var-is : {s' : List ℕ} {a : Result Regs Ended} (v k : ℕ) → Space L base s → v < r.vars → k ≡ get_or (rest_of L s) (base + vars_at + v) 0 → Went L base code r s s' a (λ p. pushed k (state_of L base code r s)) → Went L base code r s s' a (λ p. run_on p (c.make_var v) (state_of L base code r s))
  unfolding state_of pushed free_vars m.run m.need
  var-is v k sp h e w =
      let long : length (take r.vars (drop (base + vars_at) (rest_of L s))) ≡ r.vars = length-take-le r.vars (drop (base + vars_at) (rest_of L s)) (omega (arith, length_part L base vars_at s sp.2 (omega arith))) in
      let found : get_elem? (free_vars L base s r.vars) v ≡ some k =
      elem-some (take r.vars (drop (base + vars_at) (rest_of L s))) v (rw long h)
      ∙ ap some (get_or-take r.vars (drop (base + vars_at) (rest_of L s)) v 0 h ∙ get_or-drop (base + vars_at) (rest_of L s) v 0 ∙ sym e) in
      went-as (λ p q u. rw found) w

-- a node made
module _ (L base : ℕ) (code : List ℕ) (r : Regs) (s : List ℕ) (fine : Fine r) where
  pub anon-full : L ≤ r.made → Went L base code r s s (Err (record { regs = r; stop = Full })) (λ p. run_on p c.make_anon (state_of L base code r s))
  unfolding stop_of state_of m.run m.made
  anon-full h = ended L base code r s fine Full (λ p q u. sym (rw (make-none L r.made var s h)))

  -- the registers with one more node, and fewer terms
  abbrev pub more : ℕ → Regs
  more k = record { pc = r.pc; top = r.top; cur = r.cur; terms = k; vars = r.vars; made = r.made + 1 }

  pub made-frame : {s' : List ℕ} {x : Node} (k : ℕ) → k ≤ term_bound → Did L s s' (set_node r.made x) → Frame L base s s' r (more k)
  made-frame k h d = record { kept = kept-node d (omega arith); links = ap (λ (m : Memory). m.links) d.is; top = refl; made = omega arith; fine = (h, fine.1) }

  made-state : {s' : List ℕ} {x : Node} (k : ℕ) → Did L s s' (set_node r.made x) → state_of L base code (more k) s' ≡ m.st (drop r.pc code) (stack_of L s r.top) (cur_of r.cur) (pre_terms L base s k) (free_vars L base s r.vars) (store_of L (r.made + 1) s')
  unfolding state_of stack_of pre_terms free_vars
  made-state {s'} k d =
      let links : links_of L s' ≡ links_of L s = ap (λ (m : Memory). m.links) d.is in
      let rest : rest_of L s' ≡ rest_of L s = ap (λ (m : Memory). m.rest) d.is in
      state-is refl (rw links) refl (rw rest) (rw rest) refl

  pub anon-is : {s' s'' : List ℕ} {a : Result Regs Ended} → r.made < L → Did L s s' (set_node r.made var)
      → Went L base code (more r.terms) s' s'' a (λ p. pushed r.made (state_of L base code (more r.terms) s')) → Went L base code r s s'' a (λ p. run_on p c.make_anon (state_of L base code r s))
  unfolding pushed m.run m.made state_of
  anon-is {s'} h d w = went-from (made-frame r.terms fine.0 d) (λ p q u. rw (make-is L r.made var s s' h d) (sym (ap (pushed r.made) (made-state r.terms d)))) w

  -- MAKETERM
  module _ (y : Symbol) (n : ℕ) (b : ByTables base (rest_of L s) (λ p. n ≡ m.arity_of p y)) where
    pub term-lost : (8 < n) ⊎ ((n ≤ 8) × (r.terms < n)) → Went L base code r s s (Err (record { regs = r; stop = Broken })) (λ p. run_on p (c.make_term y) (state_of L base code r s))
    unfolding stop_of state_of m.run m.when
    term-lost (inl h) = ended L base code r s fine Broken (λ p q u. absurd (omega (arith, b p q, q.small y)))
    term-lost (inr h) = ended L base code r s fine Broken (λ p q u. sym (rw (← b p q, length-pre L base s r.terms, lt-leb n r.terms h.1)))

    pub term-full : n ≤ r.terms → L ≤ r.made → Went L base code r s s (Err (record { regs = r; stop = Full })) (λ p. run_on p (c.make_term y) (state_of L base code r s))
    unfolding stop_of state_of m.run m.when m.made
    term-full h f = ended L base code r s fine Full (λ p q u. sym (rw (← b p q, length-pre L base s r.terms, le-leb n r.terms h, make-none L r.made (cell y (take n (pre_terms L base s r.terms))) s f)))

    pub term_is : {s' s'' : List ℕ} {a : Result Regs Ended} → n ≤ r.terms → r.made < L → Did L s s' (set_node r.made (cell y (take n (pre_terms L base s r.terms))))
        → Went L base code (more (r.terms - n)) s' s'' a (λ p. pushed r.made (state_of L base code (more (r.terms - n)) s')) → Went L base code r s s'' a (λ p. run_on p (c.make_term y) (state_of L base code r s))
    unfolding pushed m.run m.when m.made state_of pre_terms
    term_is {s'} h f d w =
        let left : drop n (pre_terms L base s r.terms) ≡ pre_terms L base s (r.terms - n) = terms-drop n r.terms (drop (base + terms_at) (rest_of L s)) h in
        went-from (made-frame (r.terms - n) (omega arith) d) (λ p q u. rw (← b p q, length-pre L base s r.terms, le-leb n r.terms h, make-is L r.made (cell y (take n (pre_terms L base s r.terms))) s s' f d, left) (sym (ap (pushed r.made) (made-state (r.terms - n) d)))) w

  -- STOREVAR
  module _ (v : ℕ) where
    pub store-lost : r.vars < v → Space L base s → Went L base code r s s (Err (record { regs = r; stop = Broken })) (λ p. run_on p (c.store_var v) (state_of L base code r s))
    unfolding stop_of state_of free_vars m.run m.when
    store-lost h sp =
        let long : length (take r.vars (drop (base + vars_at) (rest_of L s))) ≡ r.vars = length-take-le r.vars (drop (base + vars_at) (rest_of L s)) (omega (arith, length_part L base vars_at s sp.2 (omega arith))) in
        ended L base code r s fine Broken (λ p q u. sym (rw (long, lt-leb v r.vars h)))

    pub store-full : v ≤ r.vars → Space L base s → L ≤ r.made → Went L base code r s s (Err (record { regs = r; stop = Full })) (λ p. run_on p (c.store_var v) (state_of L base code r s))
    unfolding stop_of state_of free_vars m.run m.when m.made
    store-full h sp f =
        let long : length (take r.vars (drop (base + vars_at) (rest_of L s))) ≡ r.vars = length-take-le r.vars (drop (base + vars_at) (rest_of L s)) (omega (arith, length_part L base vars_at s sp.2 (omega arith))) in
        ended L base code r s fine Full (λ p q u. sym (rw (long, le-leb v r.vars h, make-none L r.made var s f)))

    pub store_is : {s' s'' : List ℕ} (k : ℕ) → v ≤ r.vars → v < 256 → Space L base s → r.made < L → Did L s s' (set_node r.made var) → Did L s' s'' (set_rest (base + vars_at + v) r.made)
        → ((w : List ℕ) → 576 ≤ length w → take k (set w v r.made) ≡ m.put (take r.vars w) v r.made) → k ≤ 256
        → Went L base code r s s'' (Ok (record { pc = r.pc; top = r.top; cur = r.cur; terms = r.terms; vars = k; made = r.made + 1 })) (λ p. run_on p (c.store_var v) (state_of L base code r s))
    unfolding ran_of state_of stack_of pre_terms free_vars store_of m.run m.when m.made
    store_is {s'} {s''} k h small sp f d e reg few =
        let long : length (take r.vars (drop (base + vars_at) (rest_of L s))) ≡ r.vars = length-take-le r.vars (drop (base + vars_at) (rest_of L s)) (omega (arith, length_part L base vars_at s sp.2 (omega arith))) in
        let links : links_of L s'' ≡ links_of L s = ap (λ (m : Memory). m.links) e.is ∙ ap (λ (m : Memory). m.links) d.is in
        let graph : graph_of L s'' ≡ graph_of L s' = ap (λ (m : Memory). m.graph) e.is in
        let rest : rest_of L s'' ≡ set (rest_of L s) (base + vars_at + v) r.made = ap (λ (m : Memory). m.rest) e.is ∙ ap (λ (l : List ℕ). set l (base + vars_at + v) r.made) (ap (λ (m : Memory). m.rest) d.is) in
        let vars : take k (drop (base + vars_at) (rest_of L s'')) ≡ m.put (take r.vars (drop (base + vars_at) (rest_of L s))) v r.made =
        rw (rest, drop-set-add (base + vars_at) (rest_of L s) v r.made) (reg (drop (base + vars_at) (rest_of L s)) (length_part L base vars_at s sp.2 (omega arith))) in
        let terms : pre_terms L base s'' r.terms ≡ pre_terms L base s r.terms = rw (rest, drop-set-lt (base + terms_at) (rest_of L s) (base + vars_at + v) r.made (omega arith)) in
        record {
          is = λ p q u room. sym (rw (long, le-leb v r.vars h, make-is L r.made var s s' f d) (ap m.on (state-is refl (sym (rw links)) refl (sym terms) (sym vars) (sym (rw graph)))));
          frame = record { kept = kept_then (omega arith) (kept-node d (omega arith)) (kept-rest {k = r.made} e (omega arith) (omega arith)); links = links; top = refl; made = omega arith; fine = (fine.0, few) };
        }

-- a register set: a new one, or one that is there
pub register_set : (n v k : ℕ) → v ≤ n → v < 256 → n ≤ 256 → (w : List ℕ) → 576 ≤ length w → take (max n (v + 1)) (set w v k) ≡ m.put (take n w) v k
register_set n v k h small few w l = go (ltb v n) refl
  where
    go : (b : Bool) → ltb v n ≡ b → take (max n (v + 1)) (set w v k) ≡ m.put (take n w) v k
    go true e = let lt : v < n = ltb-true v n e in let z : max n (v + 1) ≡ n = omega arith in rw z (put-there v n k w lt (omega arith))
    go false e = let le : n ≤ v = ltb-false v n e in let same : n ≡ v = omega arith in let z : max n (v + 1) ≡ v + 1 = omega arith in rw (z, same) (put_next v k w (omega arith))
