-- The forwards from the front's stack are shortened: every computation stands in the store as before, for the same moment of the definition.
-- Here, in order: the computation itself; what the top of its stack leads to; the pool; the moment.
-- Assumes nothing.
use Prim.Native.Nat.{ℕ}
use mathlib.Core.Path.{refl}
use mathlib.Core.List.{List, [], ◌∷◌}
use Rattle.book.specs.Syntax.{Book}
use Rattle.book.specs.Answers.{Counts}
use Rattle.heap.specs.Graph.{Graph}
use Rattle.heap.specs.Store.{Store}
use Rattle.heap.specs.Alike.{Each}
use Rattle.engine.specs.Machine.{Held, Kept}
use Rattle.engine.specs.Run.{Limits, Moment, moment}
use Rattle.agreement.proofs.Calls.{FineBook}
use Rattle.standing.specs.Shared.{store_moment}
use Rattle.standing.specs.Stands.{World, Rel, Dom, Ours, Reps, Stands, Pool, join}
use Rattle.standing.specs.Moments.{StandsFor, stands-for}
use Rattle.standing.proofs.Stands.{pool-frame}
use Rattle.forwards.specs.Shortcut.{shortened, short_store, top_of}
use Rattle.forwards.proofs.Ways.{LedOtherwise, led-same, rep-led, each-led, alike-led, shortened-leads}

-- the computation stands at the same numbers
abbrev pub stands-led : {g : Graph} {c : Held} {μ : Store} {c' : Held} (S : Stands g c μ c') (s' : Graph) → LedOtherwise (Ours S.world) μ.nodes s' → Stands g c (record { nodes = s'; free = μ.free }) c'
stands-led {g} {c} {μ} {c'} S s' W = record {
  world = S.world;
  holds = record {
    alike = alike-led (Rel S.world) (Dom S.world) g W S.holds.alike;
    sized = S.holds.sized;
    in_p = S.holds.in_p;
    in_q = λ x q. rw W.size (S.holds.in_q x q);
    fits = λ x m. rw W.size (S.holds.fits x m);
    idle = S.holds.idle;
    distinct = S.holds.distinct;
  };
  helds = record {
    value = rep-led (Rel S.world) (Dom S.world) g W c.value c'.value S.helds.value;
    askers = each-led (Rel S.world) (Dom S.world) g W c.askers c'.askers S.helds.askers;
    stack = each-led (Rel S.world) (Dom S.world) g W c.stack c'.stack S.helds.stack;
  };
}

-- the forwards from a stack's top end at the computation's own numbers
top-led : (w : World) (g s : Graph) (hs N : List ℕ) → Each (Reps w g s) hs N → LedOtherwise (Ours w) s (shortened (top_of N) s)
unfolding top_of shortened
top-led w g s [] [] e = led-same (Ours w) s s refl
top-led w g s [] (a ∷ N) e = absurd e
top-led w g s (h ∷ hs) [] e = absurd e
top-led w g s (h ∷ hs) (a ∷ N) (r, es) = shortened-leads (Ours w) s a r.to r.right

pool-short : {μ : Store} {ks : List Kept} {c : Held} {cs : List Held} {own : List ℕ} → Pool μ ks (c ∷ cs) own → Pool (short_store (top_of c.stack) μ) ks (c ∷ cs) own
unfolding short_store
pool-short {μ} {c = c} (join {k = k} {own = own} S p a) =
    let s' : Graph = shortened (top_of c.stack) μ.nodes in
    let W : LedOtherwise (Ours S.world) μ.nodes s' = top-led S.world k.comp.graph μ.nodes k.stack c.stack S.helds.stack in
    join (stands-led S s' W) (pool-frame p (record { nodes = λ x m. W.others x (λ q. a x q m); size = W.size; less = λ x m. m; distinct = S.holds.distinct })) a

-- The moment of the definition that the store's moment stands for is the same.
pub moment-short : (book : Book) (B : FineBook book) (l : Limits) (x : Moment Kept) (μ : Store) (c : Held) (cs : List Held) (κ : Counts) (out : List ℕ) → StandsFor book B l x (store_moment μ (c ∷ cs) κ out) → StandsFor book B l x (store_moment (short_store (top_of c.stack) μ) (c ∷ cs) κ out)
unfolding short_store
moment-short book B l (moment ks κ' out') μ c cs κ out (stands-for Q ss R) = stands-for (record { own = Q.own; pool = pool-short Q.pool }) ss (record { left = R.left; small = R.small })
