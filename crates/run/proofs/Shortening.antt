-- The front is read and the forwards from its stack's top are shortened: the state stands for the same moment, and a step from there is a step from before.
-- Here, in order: what a shortcut leaves; the bounds; the front; the moment; the step; all of it.
-- Assumes nothing.
use Prim.Native.Nat.{ℕ, zero, suc, ◌*◌, ◌-◌, ◌≤◌, ◌<◌}
use native.Mathlib.Omega.{arith}
use mathlib.Core.Path.{◌≡◌, refl, ap, sym, ◌∙◌, subst}
use mathlib.Core.List.{List, ◌∷◌}
use lib.ListN.{get_or, take}
use Rattle.std.specs.Prelude.{Result}
use Rattle.heap.specs.Build.{up_from}
use Rattle.engine.specs.Compile.{compile}
use Rattle.engine.specs.Machine as m
use Rattle.engine.specs.Run as e
use Rattle.standing.specs.Shared.{store_moment}
use Rattle.standing.specs.Moments.{StandsFor}
use Rattle.store.specs.Regions.{Memory, graph_of, links_of, rest_of, store_of}
use Rattle.forwards.specs.Shortcut.{shortened, short_store, top_of, Shortened}
use Rattle.forwards.proofs.Moments.{moment-short}
use Rattle.machine.specs.Tables.{Has}
use Rattle.pool.specs.declared.Held.{Held}
use Rattle.pool.specs.Ring.{chain, stack_of, roots_at, held_in, row_of, place_of, pool_of, RowGot}
use Rattle.pool.proofs.Rings.{front-is, pool-kept}
use Rattle.run.specs.declared.State.{State}
use Rattle.run.specs.declared.Answer.{Answer}
use Rattle.run.specs.Between.{counts_in, moment_of, Bounded, AllSearched, SearchedIn, Runs, StepTaken}
use Rattle.run.proofs.Fronts.{rest, moment-front}
use Rattle.run.proofs.Nexts.{moment-is}
use Rattle.run.proofs.Searches.{short-searched}

-- the top of the entries along the links
top-of : (L : ℕ) (s : List ℕ) (top : ℕ) → top_of (stack_of L s top) ≡ top
unfolding top_of stack_of chain
top-of L s zero = refl
top-of L s (suc k) = refl

module _ (l : e.Limits) (n : ℕ) (code : List ℕ) (st : State) (s results : List ℕ) (b : Bounded l n st s results) (some : 1 ≤ st.waiting) (held : Held) (G : RowGot l.nodes n st.head s held) (s₁ : List ℕ) (D : Shortened l.nodes held.top s s₁) where
  links₁ : links_of l.nodes s₁ ≡ links_of l.nodes s
  links₁ = ap (λ (m : Memory). m.links) D.is

  rest₁ : rest_of l.nodes s₁ ≡ rest_of l.nodes s
  rest₁ = ap (λ (m : Memory). m.rest) D.is

  bounded₁ : Bounded l n st s₁ results
  bounded₁ =
      let r = b.room in let k = D.long in
      record {
        nodes = b.nodes;
        pool = b.pool;
        budget = b.budget;
        most = b.most;
        room = (r.0, r.1, omega arith);
        lent = b.lent;
        handles = b.handles;
        head = b.head;
        waiting = b.waiting;
        made = b.made;
        turns = b.turns;
        begun = b.begun;
        others = b.others;
        written = b.written;
      }

  got₁ : RowGot l.nodes n st.head s₁ held
  unfolding held_in stack_of row_of roots_at
  got₁ = record { count = G.count; is = rw (links₁, rest₁) G.is }

  -- the others wait as before, and the store is shortened
  moment₁ : store_moment (short_store (top_of (held_in l.nodes s held).stack) (store_of l.nodes st.made s)) (held_in l.nodes s held ∷ pool_of l.nodes l.pool n (place_of l.pool st.head 1) (st.waiting - 1) s) (counts_in st) (take st.written results) ≡ moment_of l n st s₁ results
  unfolding moment_of store_of short_store held_in
  moment₁ =
      let h = b.head in let w = b.waiting in let f = b.handles in
      let g : shortened (top_of (stack_of l.nodes s held.top)) (graph_of l.nodes s) ≡ graph_of l.nodes s₁ = ap (λ (t : ℕ). shortened t (graph_of l.nodes s)) (top-of l.nodes s held.top) ∙ sym (ap (λ (m : Memory). m.graph) D.is) in
      moment-is (λ i. record { nodes = g i; free = up_from st.made (l.nodes - st.made) })
      (sym (front-is l.nodes l.pool n st.head st.waiting s held h some w G) ∙ sym (pool-kept l.nodes l.pool n st.head st.waiting s s₁ f.1 h w (ap (take (20 * l.pool)) rest₁) (λ x u. ap (λ (k : List ℕ). get_or k x 0) links₁)))
      refl
      refl

  stands₁ : (R : Runs l n code st s results) → StandsFor R.book R.fine l R.moment (moment_of l n st s₁ results)
  stands₁ R = subst (StandsFor R.book R.fine l R.moment) moment₁
      (moment-short R.book R.fine l R.moment (store_of l.nodes st.made s) (held_in l.nodes s held) (rest l n code st s results b some held G s) (counts_in st) (take st.written results)
      (subst (StandsFor R.book R.fine l R.moment) (moment-front l n code st s results b some held G) R.stands))

  -- searches go on where they stopped
  searched₁ : Runs l n code st s results → SearchedIn l n st s₁
  unfolding held_in
  searched₁ R =
      let h = b.head in let w = b.waiting in let f = b.handles in
      subst (λ (cs : List m.Held). AllSearched l.nodes st.made cs s₁)
      (sym (front-is l.nodes l.pool n st.head st.waiting s held h some w G) ∙ sym (pool-kept l.nodes l.pool n st.head st.waiting s s₁ f.1 h w (ap (take (20 * l.pool)) rest₁) (λ x u. ap (λ (k : List ℕ). get_or k x 0) links₁)))
      (short-searched l n code st s results b some held G R s₁ D (top-of l.nodes s held.top))

  -- the state stands for the same moment
  abbrev runs₁ : Runs l n code st s results → Runs l n code st s₁ results
  runs₁ R = record {
    book = R.book;
    accepted = R.accepted;
    fine = R.fine;
    coded = R.coded;
    tables = subst (Has (compile R.book) (20 * l.pool)) (sym rest₁) R.tables;
    moment = R.moment;
    stands = stands₁ R;
    searched = searched₁ R;
    clean = ap (λ (m : Memory). m.places) D.is ∙ R.clean;
  }

  -- so a step from there is a step from before
  taken₁ : (s₂ results₂ : List ℕ) (r : Result State Answer) → StepTaken l n code st s₁ s₂ results results₂ r → StepTaken l n code st s s₂ results results₂ r
  taken₁ s₂ results₂ r T = record { next = λ R. T.next (runs₁ R); tables = λ R. T.tables (runs₁ R); searched = T.searched; clean = T.clean; bounded = T.bounded; untaken = λ a p R. T.untaken a p (runs₁ R); before = T.before; behind = T.behind }

-- What is known where the front is about to take its turn: the state is in bounds, runs, and has its front; and a step from there is a step from before.
pub record Readied (l : e.Limits) (n : ℕ) (code : List ℕ) (st : State) (s results : List ℕ) (held : Held) (s₁ : List ℕ) : Type 0 where
  pub bound : Bounded l n st s₁ results
  pub some : 1 ≤ st.waiting
  pub got : RowGot l.nodes n st.head s₁ held
  pub under : st.turns < l.budget
  pub runs : Runs l n code st s₁ results
  pub back : (s₂ results₂ : List ℕ) (r : Result State Answer) → StepTaken l n code st s₁ s₂ results results₂ r → StepTaken l n code st s s₂ results results₂ r

pub readied : (l : e.Limits) (n : ℕ) (code : List ℕ) (st : State) (s results : List ℕ) (held : Held) (s₁ : List ℕ) → Bounded l n st s results → 1 ≤ st.waiting → RowGot l.nodes n st.head s held → Shortened l.nodes held.top s s₁ → st.turns < l.budget → Runs l n code st s results → Readied l n code st s results held s₁
readied l n code st s results held s₁ b some G D under R = record {
  bound = bounded₁ l n code st s results b some held G s₁ D;
  some = some;
  got = got₁ l n code st s results b some held G s₁ D;
  under = under;
  runs = runs₁ l n code st s results b some held G s₁ D R;
  back = taken₁ l n code st s results b some held G s₁ D;
}
