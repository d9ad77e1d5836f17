-- What follows a turn, by what came of it: the contracts of the step's parts.
-- Here, in order: alternatives; a value.
-- Assumes nothing.
use Prim.Native.Nat.{ℕ, ◌+◌, ◌*◌, ◌≤◌, ◌<◌}
use mathlib.Core.Path.{◌≡◌, refl, ◌∙◌}
use mathlib.Core.Bool.{Bool, true, false}
use mathlib.Core.List.{List}
use lib.ListN.{length}
use lib.Dec.{leb}
use borrow.Author.Tests.{le-leb, lt-leb}
use Rattle.std.specs.Prelude.{Option, Some, None, Ok, Err}
use Rattle.engine.specs.Run as e
use Rattle.pool.proofs.Laws.{only_none}
use Rattle.rounds.specs.Around.{Joined, ResultPut}
use Rattle.writer.specs.Walk.{pick}
use Rattle.writer.specs.Owes.{fits}
use Rattle.run.specs.declared.State.{State}
use Rattle.run.specs.declared.Answer.TheVariants.{NoPlaces, NoRoom}
use Rattle.run.specs.Arms.{after_split, after_value, Spread, spread_by, Valued, value_by}

pub spread_none : (l : e.Limits) (n : ℕ) (st : State) (count made : ℕ) (s : List ℕ) → l.pool < st.waiting + count → Spread l n st count made s s (Err NoPlaces)
unfolding spread_by
spread_none l n st count made s h =
    let t = lt-leb (st.waiting + count) l.pool h in
    record { is = rw t; pool = λ u. absurd cc; only = only_none l.nodes 0 (20 * l.pool) s; none = λ u. refl }

pub spread-all : (l : e.Limits) (n : ℕ) (st : State) (count made : ℕ) (s s' : List ℕ) → st.waiting + count ≤ l.pool → Joined l.nodes l.pool n st.head st.waiting count s s' → Spread l n st count made s s' (Ok (after_split st count made))
unfolding spread_by
spread-all l n st count made s s' h j =
    let t = le-leb (st.waiting + count) l.pool h in
    record { is = rw t; pool = λ u. j.is; only = j.only; none = λ u. absurd cc }

module _ (l : e.Limits) (st : State) (terms s s' results results' : List ℕ) (p : Option ℕ) (P : ResultPut l.nodes l.results st.written st.turns terms s s' results results' p) where
  abbrev end₁ : ℕ
  end₁ = st.written + length (e.result_record st.turns terms)

  ends : (b : Bool) → leb end₁ l.results ≡ b → p ≡ pick b (Some end₁) None
  unfolding fits
  ends b t = P.end ∙ rw t

  pub value_none : p ≡ None → Valued l st terms s s' results results' (Err NoRoom)
  unfolding pick value_by
  value_none f = go (leb end₁ l.results) refl
    where
      go : (b : Bool) → leb end₁ l.results ≡ b → Valued l st terms s s' results results' (Err NoRoom)
      go true t = let q = ends true t in absurd cc
      go false t = record { is = rw t; bytes = λ u. absurd cc; none = λ _. rw f at P.none; kept = P.kept; clean = P.clean }

  pub value-all : (k : ℕ) → p ≡ Some k → Valued l st terms s s' results results' (Ok (after_value st k))
  unfolding pick value_by
  value-all k f = go (leb end₁ l.results) refl
    where
      go : (b : Bool) → leb end₁ l.results ≡ b → Valued l st terms s s' results results' (Ok (after_value st k))
      go true t = let q = ends true t in let z : k ≡ end₁ = cc in record { is = rw (t, z); bytes = λ _. rw f at P.written; none = λ u. absurd cc; kept = P.kept; clean = P.clean }
      go false t = let q = ends false t in absurd cc
