-- The step that ends a turn, by how the code ended.
-- Here, in order: nodes that are made; the alternatives' terms; a forward; alternatives; the ends that write nothing.
-- Assumes nothing.
use Prim.Native.Nat.{ℕ, zero, suc, ◌+◌, ◌-◌, ◌*◌, ◌≤◌, min}
use lib.Dec.{leb}
use borrow.Author.Tests.{leb-true, leb-false}
use native.Mathlib.Omega.{arith}
use mathlib.Core.Path.{◌≡◌, refl, sym, ap, ◌∙◌, subst}
use mathlib.Core.Bool.{Bool, true, false}
use mathlib.Core.List.{List, [], ◌∷◌, ◌++◌, reverse, reverse_aux-eq}
use lib.ListN.{length, get_or, take, drop, length-drop}
use lib.Seq.{get_or-set_other, take-suc}
use Rattle.mem.specs.Words.{words}
use Rattle.mem.proofs.Laws.{take-kept}
use Rattle.heap.specs.Graph.{Graph, node, var, fwd}
use Rattle.heap.specs.Build.{up_from}
use Rattle.heap.specs.Store.{Store}
use Rattle.engine.specs.Turn.{forward}
use Rattle.standing.specs.Shared.{went, pour_all, finish}
use Rattle.store.specs.Regions.{Memory, graph_of, rest_of, store_of, Did, set_node}
use Rattle.store.specs.declared.NodeNo.{NodeNo}
use Rattle.store.proofs.Writes.{length_rest}
use Rattle.machine.specs.View.{stack_of, stop_of, terms_of, pre_terms}
use Rattle.machine.specs.declared.Stop.{Stop}
use Rattle.machine.specs.declared.Stop.TheVariants.{Demand, Becomes, Parts, Fails, Misfits, Broken, Full}
use Rattle.copier.specs.Listed.{Clean}
use Rattle.pool.specs.declared.Held.{Held}
use Rattle.store.specs.Roots.{roots_of}
use Rattle.pool.specs.Ring.{held_by, held_in}
use Rattle.copier.specs.Poured.{given}
use Rattle.alternatives.specs.Copies.{terms_in, alts_in, AllPoured}
use Rattle.std.specs.Prelude.{Option, Some, None}
use Rattle.turns.specs.Front.{Space, took_of}
use Rattle.turns.specs.Ends.{regs_with, Finished}
use Rattle.turns.specs.declared.Turned.{Turned}
use Rattle.turns.specs.declared.What.{What}
use Rattle.turns.specs.declared.What.TheVariants.{Went, Split, Failed, Misfit, NoneLeft, Lost}
use Rattle.turns.proofs.Links.{stack_same, stack-links}

-- k nodes are made, or all of L if k is above it
pub record Capped (L k r : ℕ) : Type 0 where
  pub low : r ≤ L
  pub least : (n : ℕ) → n ≤ k → n ≤ L → n ≤ r
  pub store : (s : List ℕ) → store_of L r s ≡ store_of L k s

pub capped_min : (L k r : ℕ) → r ≡ min k L → Capped L k r
unfolding store_of up_from
capped_min L k r e = record { low = omega arith; least = λ n a b. omega arith; store = λ s. go s (leb k L) refl }
  where
    go : (s : List ℕ) (b : Bool) → leb k L ≡ b → store_of L r s ≡ store_of L k s
    go s true q = let le = leb-true k L q in let same : r ≡ k = omega arith in rw same
    go s false q = let lt = leb-false k L q in let all : r ≡ L = omega arith in let e₁ : L - L ≡ 0 = omega arith in let e₂ : L - k ≡ 0 = omega arith in rw (all, e₁, e₂)

-- the alternatives' terms, the first one first
reverse-cons : (x : ℕ) (l : List ℕ) → reverse (x ∷ l) ≡ reverse l ++ x ∷ []
reverse-cons x l = reverse_aux-eq l (x ∷ [])

terms-reverse : (k : ℕ) (w : List ℕ) → k ≤ length w → reverse (terms_of k w) ≡ take k w
unfolding terms_of
terms-reverse zero w h = refl
terms-reverse (suc k) w h = reverse-cons (get_or w k 0) (terms_of k w) ∙ ap (λ (l : List ℕ). l ++ get_or w k 0 ∷ []) (terms-reverse k w (omega arith)) ∙ sym (take-suc w k 0 h)

pub terms-are : (L base : ℕ) (s : List ℕ) (k : ℕ) → 16 * L + base + 4096 ≤ length (words s) → k ≤ 320 → reverse (pre_terms L base s k) ≡ terms_in L base s k
unfolding pre_terms terms_in
terms-are L base s k room h = terms-reverse k (drop (base + 2696) (rest_of L s)) (let e = length_rest L s in simp length-drop (omega arith))

module _ (L base : ℕ) (held : Held) (made top terms : ℕ) (s : List ℕ) where
  abbrev l : List ℕ
  l = roots_of held.roots

  -- by how the code ended
  pub by-stop : {x y : Stop} {s' : List ℕ} {r : Turned} → x ≡ y → Finished L base held made top terms y s s' r → Finished L base held made top terms x s s' r
  by-stop {x} {y} {s'} {r} e f = subst (λ (z : Stop). Finished L base held made top terms z s s' r) (sym e) f

  -- nothing is written
  module _ (x : Stop) (w : What) (t : ℕ) (c : Clean L s) (low : made ≤ L) where
    still : ((s₀ N : List ℕ) → took_of L base held s₀ s (record { what = w; made = made; top = t }) w ≡ finish (held_by l N) (stop_of L base s (regs_with top terms made) x)) → Finished L base held made top terms x s s (record { what = w; made = made; top = t })
    still f = record { is = f; more = (omega arith, low); nodes = λ y h o. refl; rows = λ f y h. refl; marks = refl; links = refl; rest = refl; long = refl; clean = c }

  pub ends-fails : Clean L s → made ≤ L → Finished L base held made top terms Fails s s (record { what = Failed; made = made; top = 0 })
  unfolding took_of finish stop_of
  ends-fails c h = still Fails Failed 0 c h (λ s₀ N. refl)

  pub ends-misfits : Clean L s → made ≤ L → Finished L base held made top terms Misfits s s (record { what = Misfit; made = made; top = 0 })
  unfolding took_of finish stop_of
  ends-misfits c h = still Misfits Misfit 0 c h (λ s₀ N. refl)

  pub ends-full : Clean L s → made ≤ L → Finished L base held made top terms Full s s (record { what = NoneLeft; made = made; top = 0 })
  unfolding took_of finish stop_of
  ends-full c h = still Full NoneLeft 0 c h (λ s₀ N. refl)

  pub ends-broken : Clean L s → made ≤ L → Finished L base held made top terms Broken s s (record { what = Lost; made = made; top = 0 })
  unfolding took_of finish stop_of
  ends-broken c h = still Broken Lost 0 c h (λ s₀ N. refl)

  pub ends-demand : (k : NodeNo) → Clean L s → made ≤ L → Finished L base held made top terms (Demand k) s s (record { what = Lost; made = made; top = 0 })
  unfolding took_of finish stop_of
  ends-demand k c h = still (Demand k) Lost 0 c h (λ s₀ N. refl)

  -- a forward
  module _ (s' : List ℕ) (h r : NodeNo) (d : Did L s s' (set_node h.0 (fwd r.0))) where
    held-is : held_in L s' (record { roots = held.roots; top = top }) ≡ record { value = get_or l 0 0; askers = drop 1 l; stack = stack_of L s top }
    unfolding held_in
    held-is = ap (held_by l) (stack_same L s' top ∙ stack-links L s s' top (ap (λ (x : Memory). x.links) d.is))

    store_is : store_of L made s' ≡ record { nodes = forward (store_of L made s).nodes h.0 r.0; free = (store_of L made s).free }
    unfolding store_of forward
    store_is = ap (λ (g : Graph). record { nodes = g; free = up_from made (L - made) }) (ap (λ (x : Memory). x.graph) d.is)

    pub ends-becomes : Clean L s → made ≤ L → Finished L base held made top terms (Becomes h r) s s' (record { what = Went; made = made; top = top })
    unfolding took_of finish stop_of
    ends-becomes c low = record {
      is = λ s₀ N. ap (λ (y : Store). went y (held_in L s' (record { roots = held.roots; top = top }))) store_is ∙ ap (went (record { nodes = forward (store_of L made s).nodes h.0 r.0; free = (store_of L made s).free })) held-is;
      more = (omega arith, low);
      nodes = λ x lt o. ap (λ (y : Memory). node y.graph x) d.is ∙ get_or-set_other (graph_of L s) h.0 x (fwd r.0) var o;
      rows = λ f. absurd (f refl);
      marks = ap (λ (x : Memory). x.marks) d.is;
      links = ap (λ (x : Memory). x.links) d.is;
      rest = ap (λ (x : Memory). take (base + 2440) x.rest) d.is;
      long = d.long;
      clean = ap (λ (x : Memory). x.places) d.is ∙ c;
    }

  -- alternatives
  module _ (space : Space L base s) (few : terms ≤ 32) (s' : List ℕ) (h : NodeNo) where
    module _ (a : Option ℕ) (P : AllPoured L base made held.roots h.0 terms s s' a) where
      poured : (N : List ℕ) → pour_all (store_of L made s) (held_by l N) h.0 (reverse (pre_terms L base s terms)) ≡ given (λ n. (store_of L n s', alts_in L base held.roots.n terms s')) a
      poured N = ap (pour_all (store_of L made s) (held_by l N) h.0) (terms-are L base s terms space.2 (omega arith)) ∙ P.is N

      aside : (w : What) (k : ℕ) → (made ≤ k) × (k ≤ L) → ((s₀ N : List ℕ) → took_of L base held s₀ s' (record { what = w; made = k; top = 0 }) w ≡ finish (held_by l N) (stop_of L base s (regs_with top terms made) (Parts h))) → Finished L base held made top terms (Parts h) s s' (record { what = w; made = k; top = 0 })
      aside w k more f = record {
        is = f;
        more = more;
        nodes = λ x lt o. P.aside.nodes x lt;
        rows = λ g x lt. P.aside.nodes x lt;
        marks = P.aside.marks;
        links = P.aside.links;
        rest = take-kept P.aside.rest (base + 2440) (omega arith);
        long = P.aside.long;
        clean = P.aside.clean;
      }

    pub ends-split : (k : ℕ) → AllPoured L base made held.roots h.0 terms s s' (Some k) → Finished L base held made top terms (Parts h) s s' (record { what = Split terms; made = k; top = 0 })
    unfolding took_of finish stop_of given
    ends-split k P = aside (Some k) P (Split terms) k P.more (λ s₀ N. rw (poured (Some k) P N, finish))

    pub ends-none : AllPoured L base made held.roots h.0 terms s s' None → made ≤ L → Finished L base held made top terms (Parts h) s s' (record { what = NoneLeft; made = made; top = 0 })
    unfolding took_of finish stop_of given
    ends-none P low = aside None P NoneLeft made (omega arith, low) (λ s₀ N. rw (poured None P N, finish))
