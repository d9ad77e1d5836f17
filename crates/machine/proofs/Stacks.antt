-- Laws of the stack of links: its top, the settled stack.
-- Assumes nothing.
use Prim.Native.Nat.{ℕ, zero, suc, ◌+◌, ◌-◌, ◌*◌, ◌≤◌, ◌<◌}
use mathlib.Core.Path.{◌≡◌, refl, ap, sym, ◌∙◌}
use mathlib.Core.List.{List, [], ◌∷◌}
use lib.ListN.{length, get_or, get_or-eq_default}
use native.Mathlib.Omega.{arith}
use Rattle.mem.specs.Words.{words}
use Rattle.book.specs.Syntax.{con, fun}
use Rattle.heap.specs.Graph.{Graph, Node, cell, var, fwd, node, follow, look}
use Rattle.store.specs.Rows.{seen}
use Rattle.store.specs.Regions.{graph_of, links_of}
use Rattle.store.proofs.Writes.{length-links}
use Rattle.engine.specs.Machine as m
use Rattle.book.specs.declared.FunNo.{FunNo}
use Rattle.store.specs.declared.Seen.{Seen}
use Rattle.machine.specs.View.{chain, stack_of, called_of}
use Rattle.machine.specs.Drive.{Settled}
use mathlib.Core.Bool.{true, false}
use Rattle.std.specs.Prelude.{Option, Some, None, is_some}

-- a chain that has ended does not go on
chain_more : (n : ℕ) (l : List ℕ) (t : ℕ) → length (chain n l t) < n → chain (suc n) l t ≡ chain n l t
unfolding chain
chain_more zero l t h = absurd (omega arith)
chain_more (suc n) l zero h = refl
chain_more (suc n) l (suc k) h = ap (λ (r : List ℕ). k ∷ r) (chain_more n l (get_or l k 0) (omega arith))

chain-zero : (n : ℕ) (l : List ℕ) → chain n l 0 ≡ []
unfolding chain
chain-zero zero l = refl
chain-zero (suc n) l = refl

pub stack-cons : (L : ℕ) (s : List ℕ) (t : ℕ) → 0 < t → stack_of L s t ≡ (t - 1) ∷ chain L (links_of L s) (get_or (links_of L s) (t - 1) 0)
unfolding stack_of chain
stack-cons L s zero h = absurd (omega arith)
stack-cons L s (suc k) h = let e : suc k - 1 ≡ k = omega arith in rw e

pub stack-nil : (L : ℕ) (s : List ℕ) (t : ℕ) → t ≡ 0 → stack_of L s t ≡ []
unfolding stack_of chain
stack-nil L s t e = rw e

-- an option by its test
is-none : {A : Type 0} (o : Option A) → is_some o ≡ false → o ≡ None
is-none None e = refl
is-none (Some x) e = cc

is-some : {A : Type 0} (o : Option A) → is_some o ≡ true → (x : A) × (o ≡ Some x)
is-some None e = cc
is-some (Some x) e = (x, refl)

-- what is seen says whether the top settles
not-fun : (f : FunNo) → Some f ≡ None → ⊥
not-fun f e = cc

settle-pop : (g : Graph) (h : ℕ) (N : List ℕ) (x : Node) → look g h ≡ x → called_of (seen x) ≡ None → m.settle g (h ∷ N) ≡ m.settle g N
unfolding m.settle seen
settle-pop g h N (cell (con y) hs) e c = rw (e, m.settle)
settle-pop g h N (cell (fun y) hs) e c = absurd (not-fun (record { 0 = y }) c)
settle-pop g h N var e c = rw (e, m.settle)
settle-pop g h N (fwd y) e c = rw (e, m.settle)

settle-stay : (g : Graph) (h : ℕ) (N : List ℕ) (x : Node) (f : FunNo) → look g h ≡ x → called_of (seen x) ≡ Some f → m.settle g (h ∷ N) ≡ h ∷ N
unfolding m.settle seen
settle-stay g h N (cell (con y) hs) f e c = absurd (not-fun f (sym c))
settle-stay g h N (cell (fun y) hs) f e c = rw (e, m.settle)
settle-stay g h N var f e c = absurd (not-fun f (sym c))
settle-stay g h N (fwd y) f e c = absurd (not-fun f (sym c))

nil : (g : Graph) → [] ≡ m.settle g []
unfolding m.settle
nil g = refl

-- the loop of `settle`: what is left of the stack settles to the same
pub record Settling (L : ℕ) (s : List ℕ) (t₀ t left : ℕ) : Type 0 where
  pub few : left ≤ L
  pub is : length (stack_of L s t₀) ≤ L → (m.settle (graph_of L s) (stack_of L s t) ≡ m.settle (graph_of L s) (stack_of L s t₀)) × (length (stack_of L s t) ≤ left)

module _ {L : ℕ} {s : List ℕ} {t₀ t left : ℕ} (S : Settling L s t₀ t left) where
  pub settling-empty : t ≡ 0 → Settled L s t₀ 0
  unfolding m.settle
  settling-empty e = λ h. stack-nil L s 0 refl ∙ sym (ap (m.settle (graph_of L s)) (stack-nil L s t e)) ∙ (S.is h).0

  pub settling-out : left ≤ 0 → Settled L s t₀ t
  settling-out z = λ h. go (stack_of L s t) refl (S.is h).1 ∙ (S.is h).0
    where
      go : (N : List ℕ) → stack_of L s t ≡ N → length (stack_of L s t) ≤ left → stack_of L s t ≡ m.settle (graph_of L s) (stack_of L s t)
      go [] e l = rw e (nil (graph_of L s))
      go (x ∷ N) e l = let q : length (stack_of L s t) ≡ suc (length N) = ap length e in absurd (omega arith)

  module _ (a : ℕ) (k : Seen) (lt : 0 < t) (ea : a ≡ follow (graph_of L s) (t - 1)) (ek : k ≡ seen (node (graph_of L s) a)) where
    seen-top : called_of (seen (look (graph_of L s) (t - 1))) ≡ called_of k
    unfolding look
    seen-top = ap (λ (i : ℕ). called_of (seen (node (graph_of L s) i))) (sym ea) ∙ ap called_of (sym ek)

    pub settling-call : (c : Option FunNo) → c ≡ called_of k → is_some c ≡ true → Settled L s t₀ t
    settling-call c ec e = let f = is-some c e in λ h.
        stack-cons L s t lt
        ∙ sym (settle-stay (graph_of L s) (t - 1) (chain L (links_of L s) (get_or (links_of L s) (t - 1) 0)) (look (graph_of L s) (t - 1)) f.0 refl (seen-top ∙ sym ec ∙ f.1))
        ∙ ap (m.settle (graph_of L s)) (sym (stack-cons L s t lt))
        ∙ (S.is h).0

    popped : (c : Option FunNo) → c ≡ called_of k → is_some c ≡ false → m.settle (graph_of L s) (stack_of L s t) ≡ m.settle (graph_of L s) (chain L (links_of L s) (get_or (links_of L s) (t - 1) 0))
    popped c ec e = ap (m.settle (graph_of L s)) (stack-cons L s t lt) ∙ settle-pop (graph_of L s) (t - 1) (chain L (links_of L s) (get_or (links_of L s) (t - 1) 0)) (look (graph_of L s) (t - 1)) refl (seen-top ∙ sym ec ∙ is-none c e)

    pub settling-past : (c : Option FunNo) → c ≡ called_of k → is_some c ≡ false → 16 * L ≤ length (words s) → L ≤ t - 1 → Settled L s t₀ 0
    unfolding m.settle
    settling-past c ec en room h =
        let past : length (links_of L s) ≤ t - 1 = rw (length-links L s room) h in
        let none : get_or (links_of L s) (t - 1) 0 ≡ 0 = get_or-eq_default (links_of L s) 0 past in
        λ q. stack-nil L s 0 refl ∙ sym (popped c ec en ∙ ap (λ (i : ℕ). m.settle (graph_of L s) (chain L (links_of L s) i)) none ∙ ap (m.settle (graph_of L s)) (chain-zero L (links_of L s))) ∙ (S.is q).0

    pub settling-next : (c : Option FunNo) (t' left' : ℕ) → c ≡ called_of k → is_some c ≡ false → left ≡ left' + 1 → t' ≡ get_or (links_of L s) (t - 1) 0 → Settling L s t₀ t' left'
    unfolding stack_of
    settling-next c t' left' ec en one e = record {
      few = let f = S.few in omega arith;
      is = λ h.
          let whole = S.is h in
          let f = S.few in
          let long : length (stack_of L s t) ≡ suc (length (chain L (links_of L s) (get_or (links_of L s) (t - 1) 0))) = ap length (stack-cons L s t lt) in
          let short : length (chain L (links_of L s) t') < left = rw e (let w = whole.1 in omega arith) in
          let more : chain (suc L) (links_of L s) t' ≡ chain L (links_of L s) t' = chain_more L (links_of L s) t' (omega arith) in
          (rw more (ap (λ (i : ℕ). m.settle (graph_of L s) (chain L (links_of L s) i)) e ∙ sym (popped c ec en) ∙ whole.0), rw more (omega arith));
    }
