-- Laws of a node's copy, laid word by word beyond what is made: what the node's arguments are, and where they end, stays meanwhile.
-- Here, in order: what stays; the copy begun, an argument more, the copy done.
-- Not here: a cell laid word by word (store), one copy after the other (Emits).
-- Assumes nothing.
use Prim.Native.Nat.{ℕ, ◌+◌, ◌*◌, ◌≤◌, ◌<◌}
use native.Mathlib.Omega.{arith}
use mathlib.Core.Path.{◌≡◌, sym, ap, ◌∙◌, subst}
use mathlib.Core.List.Memᴰ
use mathlib.Core.List.{List, [], ◌∷◌, map, Memᴰ}
use lib.ListN.{length, get_or, take, length-map}
use lib.Seq.{get_or-set_other}
use Rattle.mem.specs.Words.{words}
use Rattle.book.specs.Syntax.{Symbol}
use Rattle.heap.specs.Graph.{Node, cell, var, node, follow, args}
use Rattle.heap.specs.Place.{Leads}
use Rattle.heap.proofs.Laws.Alike.{leads-keep}
use Rattle.heap.proofs.Laws.Reach.{mem-at, map_at}
use Rattle.store.specs.Regions.{graph_of, places_of, arg_words, Memory, Did, set_node}
use Rattle.store.specs.Rows.{with_arg}
use Rattle.store.proofs.Laying.{Laying, lay-start, lay-room, lay_step, lay-end}
use Rattle.copier.specs.Poured.{placed, Spots, new_args, Copies}
use Rattle.copier.proofs.Emits.{Like, follow-like}
use Rattle.copier.proofs.Steps.{args-short}

map_same : (f g : ℕ → ℕ) (l : List ℕ) → ((x : ℕ) → Memᴰ x l → f x ≡ g x) → map f l ≡ map g l
map_same f g [] e = λ i. []
map_same f g (x ∷ l) e = λ i. e x (Memᴰ.head (λ i. x)) i ∷ map_same f g l (λ y m. e y (Memᴰ.tail m)) i

-- a number that is not made written
module _ {L made n to : ℕ} {s s' : List ℕ} (C : Copies L made n to s) where
  pub beyond-like : (x : Node) → Did L s s' (set_node to x) → Like L made s s'
  beyond-like x d =
      let b = C.beyond in
      record {
        old = λ y p. ap (λ (m : Memory). node m.graph y) d.is ∙ get_or-set_other (graph_of L s) to y x var (omega arith);
        list = ap (λ (m : Memory). m.list) d.is;
        places = ap (λ (m : Memory). m.places) d.is;
      }

  module _ (k : Like L made s s') where
    same_args : args (node (graph_of L s') n) ≡ args (node (graph_of L s) n)
    same_args = ap args (k.old n C.inside)

    same_end : (h : ℕ) → Memᴰ h (args (node (graph_of L s) n)) → follow (graph_of L s') h ≡ follow (graph_of L s) h
    same_end h m = follow-like k h (C.leads h m)

    same_place : (h : ℕ) → Memᴰ h (args (node (graph_of L s) n)) → get_or (places_of L s') (follow (graph_of L s') h) 0 ≡ get_or (places_of L s) (follow (graph_of L s) h) 0
    same_place h m = ap (λ (x : ℕ). get_or (places_of L s') x 0) (same_end h m) ∙ ap (λ (l : List ℕ). get_or l (follow (graph_of L s) h) 0) k.places

    same-placed : (h : ℕ) → Memᴰ h (args (node (graph_of L s) n)) → placed L made s' h ≡ placed L made s h
    unfolding placed
    same-placed h m = rw (same_place h m)

    pub copies-stay : Copies L made n to s'
    copies-stay = record {
      inside = C.inside;
      beyond = C.beyond;
      fits = C.fits;
      spots = λ h w. (let m = subst (Memᴰ h) same_args w in let t = C.spots h m in let e = same_end h m in let f = same_place h m in (rw e t.0, rw f t.1, rw f t.2));
      leads = λ h w. (let m = subst (Memᴰ h) same_args w in subst (λ (e : ℕ). Leads (λ y. y < made) (graph_of L s') e h) (sym (same_end h m)) (leads-keep (graph_of L s') (λ x p. p) k.old (C.leads h m)));
    }

    pub new-same : new_args L made n s' ≡ new_args L made n s
    unfolding new_args
    new-same = ap (map (placed L made s')) same_args ∙ map_same (placed L made s') (placed L made s) (args (node (graph_of L s) n)) same-placed

new-length : (L made n : ℕ) (s : List ℕ) → length (new_args L made n s) ≡ length (args (node (graph_of L s) n))
unfolding new_args
new-length L made n s = length-map (args (node (graph_of L s) n)) (placed L made s)

pub copies-short : {L made n to count : ℕ} {s : List ℕ} → Copies L made n to s → 16 * L ≤ length (words s) → count ≡ length (args (node (graph_of L s) n)) → count ≤ 8
copies-short {L} {made} {n} {to} {count} {s} C room e = let a = C.inside in let b = C.beyond in let c = C.fits in let d = args-short L n s (omega arith) room in omega arith

-- the head is written, and the first j arguments
pub record Copying (L made n to count j : ℕ) (s₀ s : List ℕ) : Type 0 where
  pub can : Copies L made n to s₀
  pub counted : count ≡ length (args (node (graph_of L s₀) n))
  pub laying : Laying L to (new_args L made n s₀) j s₀ s

pub copying-start : (L made n to count : ℕ) (y : Symbol) (r s : List ℕ) → 16 * L ≤ length (words r) → Copies L made n to r → count ≡ length (args (node (graph_of L r) n)) → Did L r s (set_node to (cell y (take count (arg_words to r)))) → Copying L made n to count 0 s s
copying-start L made n to count y r s room C e d =
    let k = beyond-like C (cell y (take count (arg_words to r))) d in
    let f = e ∙ ap length (sym (same_args C k)) in
    record { can = copies-stay C k; counted = f; laying = lay-start L to count y (new_args L made n s) r s C.fits room (copies-short C room e) (new-length L made n s ∙ sym f) d }

module _ (L made n to count j : ℕ) (s₀ s : List ℕ) (o : Copying L made n to count j s₀ s) (p : j < count) where
  like : Like L made s₀ s
  like = beyond-like o.can _ o.laying.did

  -- argument j is there, has a place, and there is room for its new number
  pub copying-arg : j < length (args (node (graph_of L s) n))
  copying-arg = let e = o.counted in rw (same_args o.can like) (omega arith)

  pub copying-spot : (h : ℕ) → h ≡ get_or (args (node (graph_of L s) n)) j 0 → Spots L made s (h ∷ [])
  copying-spot h e x m = (copies-stay o.can like).spots x (subst (λ (z : ℕ). Memᴰ z (args (node (graph_of L s) n))) (sym (Memᴰ.eq_of_singleton m ∙ e)) (mem-at (args (node (graph_of L s) n)) j copying-arg))

  inside : j < length (new_args L made n s₀)
  inside = let e = o.counted in rw (new-length L made n s₀) (omega arith)

  pub copying-room : j < length (args (node (graph_of L s) to))
  copying-room = lay-room L to (new_args L made n s₀) j s₀ s o.can.fits o.laying inside

  -- it is written
  pub copying-step : (h v : ℕ) (s' : List ℕ) → h ≡ get_or (args (node (graph_of L s) n)) j 0 → v ≡ placed L made s h → Did L s s' (set_node to (with_arg j v (node (graph_of L s) to))) → Copying L made n to count (j + 1) s₀ s'
  unfolding new_args
  copying-step h v s' e f d =
      let a : new_args L made n s ≡ new_args L made n s₀ = new-same o.can like in
      let b : v ≡ get_or (new_args L made n s₀) j 0 = f ∙ ap (placed L made s) e ∙ sym (map_at (placed L made s) 0 (args (node (graph_of L s) n)) j copying-arg) ∙ ap (λ (l : List ℕ). get_or l j 0) a in
      record { can = o.can; counted = o.counted; laying = lay_step L to (new_args L made n s₀) j s₀ s o.can.fits o.laying v s' inside b d }

-- all are
pub copying-end : (L made n to count j : ℕ) (y : Symbol) (zs r s₀ s : List ℕ) → Copies L made n to r → Did L r s₀ (set_node to (cell y zs)) → Copying L made n to count j s₀ s → count ≤ j → Did L r s (set_node to (cell y (new_args L made n r)))
copying-end L made n to count j y zs r s₀ s C d o p =
    let e = o.counted in
    let f = new-length L made n s₀ in
    subst (λ (l : List ℕ). Did L r s (set_node to (cell y l))) (new-same C (beyond-like C (cell y zs) d)) (lay-end L to (new_args L made n s₀) j s₀ s C.fits o.laying y zs r (omega arith) d)
