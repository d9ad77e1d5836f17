-- The step's promise as a reader would say it: node numbers and forwards aside, the state after a step is the state that the machine's definition gives, each computation's stack included.
-- Assumes nothing.
use Prim.Native.Nat.{ℕ}
use mathlib.Core.Path.{◌≡◌, refl, ap}
use mathlib.Core.List.{List}
use Rattle.std.specs.Prelude.{Result, Err}
use Rattle.book.specs.Syntax.{Book}
use Rattle.engine.specs.Compile.{compile}
use Rattle.engine.specs.Machine as m
use Rattle.engine.specs.Run as e
use Rattle.agreement.proofs.Calls.{FineBook}
use Rattle.standing.specs.Shared.{StoreNext}
use Rattle.standing.specs.Moments.{shown, shown_next, store_shown, store_shown_next, StandsNext, both_end, both_go}
use Rattle.standing.proofs.Moments.{stands-shown}
use Rattle.run.specs.declared.State.{State}
use Rattle.run.specs.declared.Answer.{Answer}
use Rattle.run.specs.Between.{moment_of, next_of, Runs, Dropped, bare, store_bare, StepTaken}

next-shown : (book : Book) (B : FineBook book) (l : e.Limits) (u : e.Next m.Kept) (v : StoreNext) → StandsNext book B l u v → store_shown_next v ≡ shown_next u
unfolding shown_next store_shown_next
next-shown book B l _ _ both_end = refl
next-shown book B l _ _ (both_go {x} {y} S) = ap e.next (stands-shown book B l x y S)

-- A step gives the definition's answer, or a state that is shown as the definition's next moment is.
pub step-shows : (l : e.Limits) (n : ℕ) (code : List ℕ) (st : State) (s s' results results' : List ℕ) (r : Result State Answer) → StepTaken l n code st s s' results results' r → (R : Runs l n code st s results)
    → store_shown_next (next_of l n s' results' r) ≡ shown_next (e.step (m.turn (compile R.book)) l R.moment)
step-shows l n code st s s' results results' r T R = next-shown R.book R.fine l (e.step (m.turn (compile R.book)) l R.moment) (next_of l n s' results' r) (T.next R)

-- A step that ends the run leaves a state that is shown as its moment was; the front without its stack, if no entry of it is a call any more.
module _ (l : e.Limits) (n : ℕ) (code : List ℕ) (st : State) (s s' results results' : List ℕ) (r : Result State Answer) (T : StepTaken l n code st s s' results results' r) (a : Answer) (p : r ≡ Err a) (R : Runs l n code st s results) where
  pub end-shows : ¬ (Dropped R.moment) → store_shown (moment_of l n st s' results') ≡ shown R.moment
  end-shows d = stands-shown R.book R.fine l R.moment (moment_of l n st s' results') ((T.untaken a p R).whole d)

  pub end-shows-beside : store_shown (store_bare (moment_of l n st s' results')) ≡ shown (bare R.moment)
  end-shows-beside = stands-shown R.book R.fine l (bare R.moment) (store_bare (moment_of l n st s' results')) (T.untaken a p R).beside
