-- Laws of the nodes: what is saved of a node, a node put back, a copy laid down beside it.
-- Here, in order: a node saved; a graph laid down; a copy poured; a node put back.
-- Assumes nothing.
use Prim.Native.Nat.{ℕ, zero, suc}
use mathlib.Core.Path.{◌≡◌, refl, ap, sym, ◌∙◌, subst}
use mathlib.Core.Logic.{◌⊎◌, inl, inr, ◌≢◌}
use mathlib.Core.Bool.{Bool, true, false}
use mathlib.Core.Option.{Option, none, some}
use mathlib.Core.List.Memᴰ
use mathlib.Core.List.{List, [], ◌∷◌, map, Memᴰ}
use lib.ListN.{length, get_or, take, drop, set}
use lib.Seq.{get_or-set_other}
use lib.Dec.{leb}
use Rattle.std.proofs.lemmas.List.{set-set, set_comm, set-get_or}
use Rattle.book.specs.Syntax.{con, fun}
use Rattle.heap.specs.Graph.{Graph, Node, cell, var, fwd, node, args, Comp}
use Rattle.heap.specs.Store.{Store, laid, moved}
use Rattle.engine.specs.Machine as m
use Rattle.standing.specs.Shared.{pour}
use Rattle.store.specs.Regions.{Did, set_node}
use Rattle.store.specs.Rows.{seen, count_of, symbol_of}
use Rattle.store.proofs.Laws.{seen-con, seen-call, seen-fwd, seen-var}
use Rattle.store.specs.declared.Seen.{Seen}
use Rattle.store.specs.declared.Seen.TheVariants.{Var, Con, Call, Fwd}
use Rattle.book.specs.declared.ConNo.{ConNo}
use Rattle.book.specs.declared.FunNo.{FunNo}
use Rattle.store.specs.declared.NodeNo.{NodeNo}
use Rattle.store.specs.declared.Head.TheVariants.{Makes, Calls}
use Rattle.alternatives.specs.declared.Saved.{Saved}
use Rattle.alternatives.specs.Copies.{node_with, node_is}

-- what is seen and the arguments are the node
pub saved-is : (k : Seen) (x : Node) (l : List ℕ) → k ≡ seen x → take (count_of k) l ≡ args x → node_with k l ≡ x
unfolding count_of node_with
saved-is Var x l e a = sym (seen-var x e)
saved-is (Con c n) x l e a = ap (cell (con c.0)) a ∙ sym (seen-con x c n e).0
saved-is (Call f n) x l e a = ap (cell (fun f.0)) a ∙ sym (seen-call x f n e).0
saved-is (Fwd t) x l e a = sym (seen-fwd x t e)

pub saved-as : (k : Seen) (n : ℕ) (x : Node) (l : List ℕ) → k ≡ seen x → n ≡ count_of k → take n l ≡ args x → node_with k l ≡ x
saved-as k n x l e q a = saved-is k x l e (ap (λ (i : ℕ). take i l) (sym q) ∙ a)

-- a graph laid down beside node h, which is then put back
pub laid-back : (names : List ℕ) (xs : Graph) (ks : List ℕ) (s : Graph) (h : ℕ) (x : Node) → ((j : ℕ) → Memᴰ j ks → h ≢ j) → set (laid names xs ks (set s h x)) h (node s h) ≡ laid names xs ks s
unfolding laid
laid-back names [] ks s h x a = set-set s h x (node s h) ∙ set-get_or s h var
laid-back names (y ∷ xs) [] s h x a = set-set s h x (node s h) ∙ set-get_or s h var
laid-back names (y ∷ xs) (k ∷ ks) s h x a =
    let n : h ≢ k = a k (Memᴰ.head refl) in
    rw (set_comm s h k x (moved names y) n, ← get_or-set_other s k h (moved names y) var n) (laid-back names xs ks (set s k (moved names y)) h x (λ j m. a j (Memᴰ.tail m)))

-- the store with node h another
abbrev pub with_node : Store → ℕ → Node → Store
with_node μ h x = record { nodes = set μ.nodes h x; free = μ.free }

take-mem : (n : ℕ) (l : List ℕ) (x : ℕ) → Memᴰ x (take n l) → Memᴰ x l
take-mem zero l x w = absurd (Memᴰ.not-nil w)
take-mem (suc n) [] x w = absurd (Memᴰ.not-nil w)
take-mem (suc n) (y ∷ l) x w = go (take-mem n l x) (Memᴰ.cases_cons w)
  where
    go : (Memᴰ x (take n l) → Memᴰ x l) → (x ≡ y) ⊎ Memᴰ x (take n l) → Memᴰ x (y ∷ l)
    go ih (inl e) = Memᴰ.head e
    go ih (inr u) = Memᴰ.tail (ih u)

-- a copy poured beside node h, which is then put back
unfoldable pub put_back : ℕ → Node → Option (Store × m.Held) → Option (Store × m.Held)
put_back h x none = none
put_back h x (some p) = some (with_node p.0 h x, p.1)

pub pour-back : (c : Comp) (μ : Store) (h : ℕ) (x : Node) → ((j : ℕ) → Memᴰ j μ.free → h ≢ j) → pour c μ ≡ put_back h (node μ.nodes h) (pour c (with_node μ h x))
unfolding pour put_back
pour-back c μ h x a = go (leb (length c.graph) (length μ.free)) refl
  where
    ks : List ℕ
    ks = take (length c.graph) μ.free

    go : (b : Bool) → leb (length c.graph) (length μ.free) ≡ b → pour c μ ≡ put_back h (node μ.nodes h) (pour c (with_node μ h x))
    go true e = rw (e, pour, put_back) (ap (λ (g : Graph). some (record { nodes = g; free = drop (length c.graph) μ.free }, record { value = get_or ks c.value 0; askers = map (λ k. get_or ks k 0) c.askers; stack = [] })) (sym (laid-back ks c.graph ks μ.nodes h x (λ j w. a j (take-mem (length c.graph) μ.free j w)))))
    go false e = rw (e, pour, put_back)

-- a node becomes what was saved, by what was seen of it
module _ (L : ℕ) (s s' : List ℕ) (n : ℕ) (r : Saved) where
  back : (w : Seen) → r.what ≡ w → Did L s s' (set_node n (node_with w r.args)) → Did L s s' (set_node n (node_is r))
  unfolding node_is
  back w e d = subst (λ (z : Seen). Did L s s' (set_node n (node_with z r.args))) (sym e) d

  pub back-var : r.what ≡ Var → Did L s s' (set_node n var) → Did L s s' (set_node n (node_is r))
  unfolding node_with
  back-var e d = back Var e d

  pub back-con : (c : ConNo) (k : ℕ) → r.what ≡ Con c k → Did L s s' (set_node n (cell (symbol_of (Makes c)) (take k r.args))) → Did L s s' (set_node n (node_is r))
  unfolding node_with symbol_of
  back-con c k e d = back (Con c k) e d

  pub back-call : (f : FunNo) (k : ℕ) → r.what ≡ Call f k → Did L s s' (set_node n (cell (symbol_of (Calls f)) (take k r.args))) → Did L s s' (set_node n (node_is r))
  unfolding node_with symbol_of
  back-call f k e d = back (Call f k) e d

  pub back-fwd : (t : NodeNo) → r.what ≡ Fwd t → Did L s s' (set_node n (fwd t.0)) → Did L s s' (set_node n (node_is r))
  unfolding node_with
  back-fwd t e d = back (Fwd t) e d
