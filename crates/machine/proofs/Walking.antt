-- Laws of reading: a node's argument, a position, the tables.
-- Assumes nothing.
use Prim.Native.Nat.{ℕ, zero, suc, ◌+◌, ◌-◌, ◌*◌, ◌≤◌, ◌<◌}
use mathlib.Core.Path.{◌≡◌, refl, ap, sym, ◌∙◌}
use mathlib.Core.Option.{Option, none, some}
use mathlib.Core.List.{List, [], ◌∷◌}
use lib.ListN.{length, get_or, get_elem?, drop, drop_of_length-le, get_or-eq_default}
use lib.Seq.{drop-cons}
use borrow.Author.Tests.{ne_eqb, eq-eqb}
use native.Mathlib.Omega.{arith}
use native.Mathlib.Numerals.{add-one}
use Rattle.heap.specs.Graph.{Graph, var, node, follow, look, args}
use Rattle.store.specs.Rows.{seen, count_of, symbol_of}
use Rattle.store.specs.Regions.{graph_of}
use Rattle.store.proofs.Laws.{length-graph, count-seen}
use Rattle.engine.specs.Compile.{Program}
use Rattle.engine.specs.Machine.{at, arity_of, arm_of, homes}
use Rattle.book.specs.declared.ConNo.{ConNo}
use Rattle.book.specs.declared.FunNo.{FunNo}
use Rattle.store.specs.declared.NodeNo.{NodeNo}
use Rattle.store.specs.declared.Seen.{Seen}
use Rattle.store.specs.declared.Seen.TheVariants.{Var}
use Rattle.store.specs.declared.Head.{Head}
use Rattle.store.specs.declared.Head.TheVariants.{Makes, Calls}
use Rattle.machine.specs.Tables.{Home}
use Rattle.machine.specs.View.{cur_of, child_of, arm_is}
use Rattle.machine.specs.Contract.{ByTables}
use Rattle.std.specs.Prelude.{Some, None}

pub elem-some : (l : List ℕ) (j : ℕ) → j < length l → get_elem? l j ≡ some (get_or l j 0)
elem-some [] j h = absurd (omega arith)
elem-some (x ∷ l) zero h = refl
elem-some (x ∷ l) (suc j) h = elem-some l j (omega arith)

pub elem-none : (l : List ℕ) (j : ℕ) → length l ≤ j → get_elem? l j ≡ none
elem-none [] j h = refl
elem-none (x ∷ l) zero h = absurd (omega arith)
elem-none (x ∷ l) (suc j) h = elem-none l j (omega arith)

-- beyond the nodes there is a variable, which has no arguments
pub var-past : (L n : ℕ) (s : List ℕ) → L ≤ n → Var ≡ seen (node (graph_of L s) n)
unfolding seen
var-past L n s h = let past : length (graph_of L s) ≤ n = rw length-graph h in rw (get_or-eq_default (graph_of L s) var past)

pub arg-inside : (g : Graph) (a j : ℕ) → j < length (args (node g a)) → a < length g
unfolding args
arg-inside [] a j h = absurd (omega arith)
arg-inside (x ∷ g) zero j h = omega arith
arg-inside (x ∷ g) (suc a) j h = let i = arg-inside g a j h in omega arith

module _ (L : ℕ) (s : List ℕ) (n a step j count : ℕ) (k : Seen) (e : a ≡ follow (graph_of L s) n) (ek : k ≡ seen (node (graph_of L s) a)) (ec : count ≡ count_of k) (ej : j ≡ step - 1) where
  counted : length (args (node (graph_of L s) a)) ≡ count
  counted = sym (count-seen (node (graph_of L s) a)) ∙ ap count_of (sym ek) ∙ sym ec

  pub child-none : count ≤ j → cur_of None ≡ child_of (graph_of L s) n step
  unfolding cur_of child_of look
  child-none h = sym (rw (← e, ← ej) (elem-none (args (node (graph_of L s) a)) j (rw counted h)))

  pub child-in : j < count → (a < L) × (j < length (args (node (graph_of L s) a)))
  child-in h = let i : j < length (args (node (graph_of L s) a)) = rw counted h in (rw length-graph at (arg-inside (graph_of L s) a j i), i)

  pub child-some : (r : NodeNo) → j < count → r.0 ≡ get_or (args (node (graph_of L s) a)) j 0 → cur_of (Some r) ≡ child_of (graph_of L s) n step
  unfolding cur_of child_of look
  child-some r h er = sym (rw (← e, ← ej) (elem-some (args (node (graph_of L s) a)) j (rw counted h) ∙ ap some (sym er)))

-- along a position's steps
module _ (g : Graph) (q : List ℕ) (i h : ℕ) where
  pub at-step : (k : NodeNo) → i < length q → cur_of (Some k) ≡ child_of g h (get_or q i 0) → at g h (drop i q) ≡ at g k.0 (drop (i + 1) q)
  unfolding cur_of child_of at
  at-step k lt e = let e' = sym e in rw (drop-cons q i 0 lt, add-one) (rw (e', at))

  pub at-stuck : i < length q → cur_of None ≡ child_of g h (get_or q i 0) → at g h (drop i q) ≡ none
  unfolding cur_of child_of at
  at-stuck lt e = let e' = sym e in rw (drop-cons q i 0 lt) (rw (e', at))

  pub at-end : length q ≤ i → at g h (drop i q) ≡ some h
  unfolding at
  at-end le = rw (drop_of_length-le q le)

-- the tables
pub arity-con : (base r : ℕ) (rest : List ℕ) (h : Head) (y : ConNo) → h ≡ Makes y → y.0 < 256 → r ≡ get_or rest (base + 768 + y.0) 0 → ByTables base rest (λ p. r ≡ arity_of p (symbol_of h))
unfolding arity_of symbol_of
arity-con base r rest h y e lt er = λ p t. rw e (er ∙ t.cons y.0 lt)

pub arity-fun : (base r : ℕ) (rest : List ℕ) (h : Head) (y : FunNo) → h ≡ Calls y → y.0 < 256 → r ≡ get_or rest (base + 512 + y.0) 0 → ByTables base rest (λ p. r ≡ arity_of p (symbol_of h))
unfolding arity_of symbol_of
arity-fun base r rest h y e lt er = λ p t. rw e (er ∙ t.funs y.0 lt)

pub start_is : (base a b f : ℕ) (rest : List ℕ) → f < 256 → a ≡ get_or rest (base + 2 * f) 0 → b ≡ get_or rest (base + 2 * f + 1) 0 → ByTables base rest (λ p. a + 65536 * b ≡ get_or p.starts f 0)
start_is base a b f rest lt ea eb = λ p t. rw (ea, eb) (t.start f lt)

module _ (base t c w : ℕ) (rest : List ℕ) (lt : c < 256) (ew : w ≡ get_or rest (base + 1024 + c) 0) where
  pub arm-none : (w ≡ t → ⊥) → ByTables base rest (λ p. arm_is None ≡ arm_of p t c)
  unfolding arm_is arm_of
  arm-none ne = λ p h. sym (go p (get_elem? (homes 0 p.types) c) refl (h.home c lt))
    where
      go : (p : Program) (o : Option (ℕ × ℕ)) → get_elem? (homes 0 p.types) c ≡ o → Home o (get_or rest (base + 1024 + c) 0) (get_or rest (base + 1280 + c) 0) → arm_of p t c ≡ none
      go p none e h = rw (e, arm_of)
      go p (some y) e h = rw (e, arm_of, ne_eqb y.0 t (λ z. ne (ew ∙ h.0 ∙ z)))

  pub arm-some : (j : ℕ) → w ≡ t → t < 256 → j ≡ get_or rest (base + 1280 + c) 0 → ByTables base rest (λ p. arm_is (Some j) ≡ arm_of p t c)
  unfolding arm_is arm_of
  arm-some j et small ej = λ p h. sym (go p (get_elem? (homes 0 p.types) c) refl (h.home c lt))
    where
      go : (p : Program) (o : Option (ℕ × ℕ)) → get_elem? (homes 0 p.types) c ≡ o → Home o (get_or rest (base + 1024 + c) 0) (get_or rest (base + 1280 + c) 0) → arm_of p t c ≡ some j
      go p none e h = absurd (omega arith)
      go p (some y) e h = rw (e, arm_of, eq-eqb y.0 t (sym h.0 ∙ sym ew ∙ et)) (ap some (sym h.1 ∙ sym ej))
