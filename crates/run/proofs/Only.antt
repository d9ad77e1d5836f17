-- The run's contract: no two outcomes meet it, and what it gives is what the plain reading of the book gives.
-- Here, in order: answers and counts are told apart; no two outcomes; the plain reading.
-- Assumes nothing.
use Prim.Native.Nat.{ℕ}
use mathlib.Core.Path.{◌≡◌, refl, ap, sym, subst, ◌∙◌}
use mathlib.Core.List.{List}
use lib.ListN.{length}
use Rattle.engine.specs.Run as e
use Rattle.agreement.proofs.Runs.{agree}
use Rattle.run.specs.declared.Limits.{Limits}
use Rattle.run.specs.declared.Answer.{Answer}
use Rattle.run.specs.declared.Answer.TheVariants.{Emptied, Spent, NoNodes, NoPlaces, NoRoom, BadLimits, BadBook, BadQuestion, LongCode}
use Rattle.run.specs.declared.Outcome.{Outcome}
use Rattle.run.specs.Given.{limits_of, lent_of, answer_is, counts_is, told_by, answer_of, counts_of, Gives, Ran}

-- the answer that the definition's is
back : Answer → e.Answer → Answer
back x e.emptied = Emptied
back x e.spent = Spent
back x e.no_nodes = NoNodes
back x e.no_places = NoPlaces
back x e.no_room = NoRoom
back x e.bad_limits = BadLimits
back x (e.bad_book w p) = BadBook (record { sort = w; at = p })
back x (e.bad_question w p) = BadQuestion (record { sort = w; at = p })
back x e.long_code = LongCode
back x e.never = x

back_is : (x a : Answer) → back x (answer_is a) ≡ a
unfolding answer_is back
back_is x Emptied = refl
back_is x Spent = refl
back_is x NoNodes = refl
back_is x NoPlaces = refl
back_is x NoRoom = refl
back_is x BadLimits = refl
back_is x (BadBook f) = refl
back_is x (BadQuestion f) = refl
back_is x LongCode = refl

pub answer-apart : (a a' : Answer) → answer_is a ≡ answer_is a' → a ≡ a'
answer-apart a a' p = sym (back_is a a) ∙ ap (back a) p ∙ back_is a a'

-- the same answer, counts and length are the same outcome
pub outcome-apart : (r r' : Outcome) → answer_is r.answer ≡ answer_is r'.answer → counts_is r ≡ counts_is r' → r.written ≡ r'.written → r ≡ r'
unfolding counts_is
outcome-apart r r' p k w =
    let a = answer-apart r.answer r'.answer p in
    let t : r.turns ≡ r'.turns = cc in
    let n : r.nodes ≡ r'.nodes = cc in
    let b : r.begun ≡ r'.begun = cc in
    let s : r.split ≡ r'.split = cc in
    let v : r.values ≡ r'.values = cc in
    let f : r.failed ≡ r'.failed = cc in
    let m : r.misfits ≡ r'.misfits = cc in
    λ i. record { answer = a i; turns = t i; nodes = n i; begun = b i; split = s i; values = v i; failed = f i; misfits = m i; written = w i }

-- two outcomes of one definition's outcome are the same, and so is what results and code memory hold
pub gives-only : {o : e.Outcome} {r r' : Outcome} {work work₁ work₂ code code₁ code₂ results results₁ results₂ : List ℕ} → Gives o r work work₁ code code₁ results results₁ → Gives o r' work work₂ code code₂ results results₂ → (r ≡ r') × (results₁ ≡ results₂) × (code₁ ≡ code₂)
gives-only {r = r} {r' = r'} g h = (outcome-apart r r' (g.answered ∙ sym h.answered) (g.counted ∙ sym h.counted) (g.written ∙ sym h.written), g.results_hold ∙ sym h.results_hold, g.code_holds ∙ sym h.code_holds)

-- No two outcomes meet the run's contract: the answer, the counts, the length written, every byte of results and of code memory are determined.
pub run_only : (l : Limits) (b q : List ℕ) (r r' : Outcome) (work work₁ work₂ code code₁ code₂ results results₁ results₂ : List ℕ) → Ran l b q r work work₁ code code₁ results results₁ → Ran l b q r' work work₂ code code₂ results results₂
    → (r ≡ r') × (results₁ ≡ results₂) × (code₁ ≡ code₂)
run_only l b q r r' work work₁ work₂ code code₁ code₂ results results₁ results₂ x y = gives-only x.is y.is

-- What the run gives is what the plain reading of the book gives, for all limits, books, questions and lent memories.
pub run-plain : (l : Limits) (b q : List ℕ) (r : Outcome) (work work' code code' results results' : List ℕ) → Ran l b q r work work' code code' results results'
    → Gives (e.plain (limits_of l) (lent_of (length work) (length code) (length results)) b q) r work work' code code' results results'
run-plain l b q r work work' code code' results results' x =
    subst (λ (o : e.Outcome). Gives o r work work' code code' results results') (agree (limits_of l) (lent_of (length work) (length code) (length results)) b q) x.is

-- what is told follows from the answer and the counts
pub gives-told : (o : e.Outcome) (r : Outcome) → answer_is r.answer ≡ answer_of o → counts_is r ≡ counts_of o → told_by r ≡ e.tells o
unfolding told_by e.tells answer_of counts_of
gives-told (e.outcome a k results code) r p q = rw (p, q)
