-- What the code of a shortcut does, by what it sees: where a second node is led; nothing to lead on; both led on.
-- Assumes nothing.
use Prim.Native.Nat.{ℕ, zero, suc, ◌-◌, ◌≤◌, ◌<◌}
use native.Mathlib.Omega.{arith}
use native.Mathlib.Decide.{dec_lt}
use mathlib.Core.Path.{◌≡◌, refl, ap, sym, ◌∙◌, subst}
use mathlib.Core.Logic.{◌≢◌}
use mathlib.Core.List.{List}
use lib.ListN.{length, set, get_or-eq_default}
use borrow.Author.Tests.{eq-eqb, ne_eqb}
use Rattle.book.specs.Syntax.{con, fun}
use Rattle.heap.specs.Graph.{Node, cell, var, fwd, Graph, node, follow}
use Rattle.store.specs.Rows.{seen}
use Rattle.store.specs.Regions.{memory, graph_of, with_graph, set_node, Did}
use Rattle.store.proofs.Laws.{length-graph, deref-go, deref-past, follow-is, seen-call}
use Rattle.store.specs.declared.whole.Store.{Store as Whole}
use Rattle.store.specs.Whole.{graph, Became}
use Rattle.store.proofs.Writes.{did_then}
use Rattle.store.proofs.Became.{loan_same}
use Rattle.book.specs.declared.FunNo.{FunNo}
use Rattle.store.specs.declared.NodeNo.{NodeNo}
use Rattle.store.specs.declared.Seen.{Seen}
use Rattle.store.specs.declared.Seen.TheVariants.{Call, Fwd}
use Rattle.forwards.specs.Shortcut.{led, led_on, shortened, shorten_top, Shortened}

-- where the second node is led, by what is seen at the end
pub led-call : (x : Node) (a e : ℕ) (f : FunNo) (k : ℕ) → Call f k ≡ seen x → a ≡ led x a e
unfolding led
led-call x a e f k p = sym (ap (λ (y : Node). led y a e) (seen-call x f k p).0)

pub led-other : (x : Node) (a e : ℕ) (s : Seen) → s ≡ seen x → ((f : FunNo) (k : ℕ) → s ≡ Call f k → ⊥) → e ≡ led x a e
unfolding seen led
led-other (cell (fun f) hs) a e s p o = absurd (o _ _ p)
led-other (cell (con c) hs) a e s p o = refl
led-other var a e s p o = refl
led-other (fwd k) a e s p o = refl

-- past the nodes nothing is a call
pub led-past : (L : ℕ) (s : List ℕ) (a e : ℕ) → L ≤ e → e ≡ led (node (graph_of L s) e) a e
unfolding led
led-past L s a e h =
    let p : length (graph_of L s) ≤ e = rw length-graph h in
    rw (get_or-eq_default (graph_of L s) var p)

-- nothing is written
pub none-led : (top : ℕ) (st : Whole) → shortened top (graph st) ≡ graph st → Became st st (shorten_top top)
none-led top st e = record { loan = loan_same; did = record { is = sym (ap (λ (g : Graph). with_graph g (memory st.limit st.bytes.now)) e); long = refl } }

pub empty-stack : (g : Graph) (top : ℕ) → top ≡ 0 → shortened top g ≡ g
unfolding shortened
empty-stack g top e = rw e

pub past_all : (g : Graph) (top : ℕ) → length g ≤ top - 1 → shortened top g ≡ g
unfolding shortened led_on
past_all g zero h = refl
past_all g (suc a) h = let p : length g ≤ a = omega arith in rw (get_or-eq_default g var p)

by-node : (g : Graph) (a e : ℕ) (x : Node) (k : Seen) → k ≡ seen x → ((t : NodeNo) → k ≡ Fwd t → ⊥) → led_on g a e x ≡ g
unfolding seen led_on
by-node g a e var k p o = refl
by-node g a e (cell (con c) hs) k p o = refl
by-node g a e (cell (fun f) hs) k p o = refl
by-node g a e (fwd t) k p o = absurd (o _ p)

pub no-forward : (g : Graph) (top : ℕ) (k : Seen) → k ≡ seen (node g (top - 1)) → ((t : NodeNo) → k ≡ Fwd t → ⊥) → shortened top g ≡ g
unfolding shortened
no-forward g zero k e o = refl
no-forward g (suc a) k e o = let d : suc a - 1 ≡ a = omega arith in by-node g a (follow g a) (node g a) k (rw d at e) o

-- one forward, and more of them
module _ (g : Graph) (a x : ℕ) (p : node g a ≡ fwd x) where
  pub one-forward : (e : ℕ) → e ≡ follow g a → x ≡ e → shortened (suc a) g ≡ g
  unfolding shortened led_on
  one-forward e q r = rw (p, ← q, eq-eqb x e r, shortened, led_on)

  pub more-forwards : (e : ℕ) → e ≡ follow g a → x ≢ e → shortened (suc a) g ≡ set (set g a (fwd e)) x (fwd (led (node g e) a e))
  unfolding shortened led_on
  more-forwards e q r = subst (λ (e' : ℕ). led_on g a e' (node g a) ≡ set (set g a (fwd e)) x (fwd (led (node g e) a e))) q (rw (p, ne_eqb x e r, led_on))

module _ (L : ℕ) (s : List ℕ) (a x e : ℕ) (p : node (graph_of L s) a ≡ fwd x) (q : e ≡ follow (graph_of L s) a) (r : x ≢ e) where
  -- the second is a node: a number past them would be the end
  pub second-inside : a < L → x < L
  second-inside h = go (dec_lt x L)
    where
      go : Dec (x < L) → x < L
      go (yes l) = l
      go (no l) = absurd (r (sym (q ∙ follow-is L s a ∙ deref-go L (graph_of L s) a x (omega arith) p ∙ deref-past (L - 1) (graph_of L s) x (rw length-graph (omega arith)))))

  -- both are written
  pub both-led : (s' s'' : List ℕ) (y : ℕ) → y ≡ led (node (graph_of L s) e) a e → Did L s s' (set_node a (fwd e)) → Did L s' s'' (set_node x (fwd y)) → Shortened L (suc a) s s''
  both-led s' s'' y t d d' =
      let D = did_then d d' in
      let u : set (set (graph_of L s) a (fwd e)) x (fwd y) ≡ shortened (suc a) (graph_of L s) = rw t (sym (more-forwards (graph_of L s) a x p e q r)) in
      record { is = D.is ∙ ap (λ (g : Graph). with_graph g (memory L s)) u; long = D.long }
