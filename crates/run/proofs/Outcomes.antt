-- The whole run: what is given is what the machine's definition gives.
-- Here, in order: lent memory that nothing was written into; the refusals, in their order; what the limits say; the question asked; the outcome of a run that is not refused;
-- the part of work memory that is asked.
-- Assumes nothing.
use Prim.Native.Nat.{ℕ, ◌≤◌}
use native.Mathlib.Omega.{arith}
use mathlib.Core.Path.{◌≡◌, refl, ap, sym, ◌∙◌, subst}
use mathlib.Core.Bool.{Bool, true, false, ◌&&◌}
use mathlib.Core.List.{List, ◌++◌}
use lib.ListN.{length, take, drop, take-append-drop, length-append}
use lib.Seq.{length-take-le, take_at, drop_at}
use lib.Dec.{leb}
use borrow.Author.Tests.{le-leb, lt-leb}
use Rattle.mem.specs.Words.{words}
use Rattle.mem.proofs.Laws.{length-words}
use Rattle.std.specs.Prelude.{Result, Ok, Err}
use Rattle.book.specs.declared.Fault.{Fault}
use Rattle.book.specs.declared.Refusal.{Refusal as Refused-by}
use Rattle.book.specs.declared.Refusal.TheVariants as refusal
use Rattle.book.specs.Syntax.{Book, Right}
use Rattle.book.specs.Record.{Got, got, fault}
use Rattle.book.specs.Reading.{read_book, read_question}
use Rattle.book.specs.Answers.{Verdict, on_question, on_both, check_question}
use Rattle.book.proofs.Acceptance.{book-fine}
use Rattle.engine.specs.Compile.{compile}
use Rattle.engine.specs.Machine as m
use Rattle.engine.specs.Run as e
use Rattle.agreement.proofs.Refusals as R
use Rattle.agreement.proofs.Runs.{fine-book, agree}
use Rattle.agreement.proofs.Answers as ans
use Rattle.store.specs.Regions.{AllRoom}
use Rattle.compiler.specs.declared.Refused.{Refused}
use Rattle.compiler.specs.declared.Refused.TheVariants as refused
use Rattle.run.specs.declared.Limits.{Limits}
use Rattle.run.specs.declared.Answer.{Answer}
use Rattle.run.specs.declared.Answer.TheVariants.{BadLimits, BadBook, BadQuestion, LongCode}
use Rattle.run.specs.declared.Outcome.{Outcome}
use Rattle.run.specs.declared.Done.{Done}
use Rattle.run.specs.Given.{limits_of, lent_of, answer_is, counts_is, answer_of, counts_of, Refusal, Gives, Ran}
use Rattle.run.specs.Between.{counts_in}
use Rattle.run.specs.Questions.{Roomy, Asks, AskDone}
use Rattle.run.specs.Setting.{Lends, SetUp, SettingIs}
use Rattle.run.specs.Passed.{Passed, answer_to, answer_for, refused_by, given_by, outcome_of}
use Rattle.run.proofs.Only.{gives-told}
use Rattle.run.proofs.Ranges.{InRange, LentFits, size_is, both, range-facts, lent-facts, lent-yes, fit-second}

-- a refusal: every count 0, and nothing was written into any lent memory
pub gives-refused : (a : Answer) (o : e.Outcome) (work work' code code' results : List ℕ) → o ≡ e.refused (answer_is a) → work' ≡ work → code' ≡ code → Gives o (refused_by a) work work' code code' results results
unfolding e.refused e.results_of e.code_of e.results_after e.code_after e.over answer_of counts_of counts_is
gives-refused a o work work' code code' results p w c = rw p (record {
  answered = refl;
  counted = refl;
  told = gives-told (e.refused (answer_is a)) (refused_by a) refl refl;
  written = refl;
  results_hold = refl;
  code_holds = c;
  work_stays = λ _. w;
})

-- what a verdict says of book and question
pub record OnBook (b : List ℕ) (f : Fault) : Type 0 where
  pub is : read_book b ≡ fault f.sort f.at

pub record OnQuestion (b q : List ℕ) (f : Fault) : Type 0 where
  pub book : Book
  pub end : ℕ
  pub is : read_book b ≡ got book end
  pub at-fault : read_question book q ≡ fault f.sort f.at

pub record OnNone (b q : List ℕ) : Type 0 where
  pub book : Book
  pub end : ℕ
  pub is : read_book b ≡ got book end
  pub right : Right
  pub last : ℕ
  pub asks : read_question book q ≡ got right last

-- each verdict is one of these
abbrev Says : List ℕ → List ℕ → Verdict → Type 0
Says b q (Ok u) = OnNone b q
Says b q (Err (refusal.Book f)) = OnBook b f
Says b q (Err (refusal.Question f)) = OnQuestion b q f

says : (b q : List ℕ) → Says b q (check_question b q)
unfolding check_question on_both on_question
says b q = on-book (read_book b) refl
  where
    on-question : (book : Book) (x : ℕ) (y : Got Right) → read_book b ≡ got book x → read_question book q ≡ y → Says b q (on_question y)
    on-question book x (got r z) t u = record { book = book; end = x; is = t; right = r; last = z; asks = u }
    on-question book x (fault w p) t u = record { book = book; end = x; is = t; at-fault = u }

    on-book : (x : Got Book) → read_book b ≡ x → Says b q (on_both x q)
    on-book (got book x) t = on-question book x (read_question book q) t refl
    on-book (fault w p) t = record { is = t }

module _ (l : Limits) (b q work code results : List ℕ) where
  abbrev m₀ : e.Lent
  m₀ = lent_of (length work) (length code) (length results)

  -- limits or lent memory
  pub ran-limits : (f : Bool) → f ≡ (e.in_range (limits_of l) && e.lent_fits (limits_of l) m₀) → f ≡ false → Ran l b q (refused_by BadLimits) work work code code results results
  unfolding e.machine e.checked answer_is
  ran-limits f t u =
      let z : (e.in_range (limits_of l) && e.lent_fits (limits_of l) m₀) ≡ false = sym t ∙ u in
      record { is = gives-refused BadLimits (e.machine (limits_of l) m₀ b q) work work code code results (rw (z, e.checked)) refl refl; work_beyond = refl }

  module _ (f : Bool) (t : f ≡ (e.in_range (limits_of l) && e.lent_fits (limits_of l) m₀)) (u : f ≡ true) where
    fits : (e.in_range (limits_of l) && e.lent_fits (limits_of l) m₀) ≡ true
    fits = sym t ∙ u

    -- the book, or the question
    ran-refusal : (r : Refused-by) → Says b q (Err r) → Ran l b q (refused_by (answer_to r)) work work code code results results
    unfolding e.machine e.checked answer_is
    ran-refusal (refusal.Book f) k = record { is = gives-refused (BadBook f) (e.machine (limits_of l) m₀ b q) work work code code results (rw (fits, k.is, e.checked)) refl refl; work_beyond = refl }
    ran-refusal (refusal.Question f) k = record { is = gives-refused (BadQuestion f) (e.machine (limits_of l) m₀ b q) work work code code results (rw (fits, k.is, k.at-fault, e.checked)) refl refl; work_beyond = refl }

    pub ran-refused : (v : Verdict) (r : Refused-by) → v ≡ check_question b q → v ≡ Err r → (x : Result Done Answer) (a : Answer) → x ≡ Err a → a ≡ answer_to r → Ran l b q (outcome_of x) work work code code results results
    ran-refused v r x y z a p i = rw (p, i) (ran-refusal r (subst (Says b q) (sym x ∙ y) (says b q)))

    pub all-passed : (v : Verdict) (u : Unit {0}) → v ≡ check_question b q → v ≡ Ok u → Passed l b q work code results
    all-passed v u x y = record { limits = fits; verdict = sym x ∙ y }

-- a refusal's number is above those of a run that is done
refusal-high : (a : e.Answer) → Refusal a → 10 ≤ e.number_of a
unfolding e.number_of
refusal-high e.bad_limits x = omega arith
refusal-high (e.bad_book w p) x = omega arith
refusal-high (e.bad_question w p) x = omega arith
refusal-high e.long_code x = omega arith
refusal-high e.emptied x = absurd x
refusal-high e.spent x = absurd x
refusal-high e.no_nodes x = absurd x
refusal-high e.no_places x = absurd x
refusal-high e.no_room x = absurd x
refusal-high e.never x = absurd x

-- a run that is done: what was written stands at the start, and beyond it all is as lent
gives-done : (d : Done) (o : e.Outcome) (written work work' code code' results results' : List ℕ) → o ≡ e.outcome (answer_is d.answer) (counts_in d.state) (take d.state.written results') written
    → d.state.written ≤ length results' → drop d.state.written results' ≡ drop d.state.written results → code' ≡ written ++ drop (length written) code → (Refusal (answer_of o) → ⊥) → Gives o (given_by d) work work' code code' results results'
unfolding e.results_of e.code_of e.results_after e.code_after e.over answer_of counts_of counts_is counts_in
gives-done d o written work work' code code' results results' p w h c n =
    let z : length (take d.state.written results') ≡ d.state.written = length-take-le d.state.written results' w in
    rw p (record {
      answered = refl;
      counted = refl;
      told = gives-told (e.outcome (answer_is d.answer) (counts_in d.state) (take d.state.written results') written) (given_by d) refl refl;
      written = sym z;
      results_hold = rw (z, sym h) (sym (take-append-drop d.state.written results'));
      code_holds = c;
      work_stays = λ x. absurd (n (rw p x));
    })

-- limits, lent memory, book and question are accepted
module _ (l : Limits) (b q work code results : List ℕ) (P : Passed l b q work code results) where
  abbrev m₁ : e.Lent
  m₁ = lent_of (length work) (length code) (length results)

  range : InRange (limits_of l)
  range = range-facts (limits_of l) (both (e.in_range (limits_of l)) (e.lent_fits (limits_of l) m₁) P.limits).0

  lent : LentFits (limits_of l) m₁
  lent = lent-facts (limits_of l) m₁ (both (e.in_range (limits_of l)) (e.lent_fits (limits_of l) m₁) P.limits).1

  all_room : (s : List ℕ) → length (words s) ≡ length (words work) → AllRoom l.nodes l.pool s
  all_room s k = let w = length-words work in let n = range.nodes in let p = range.pool in let y = lent.work in let z = size_is (limits_of l) in (omega arith, omega arith, omega arith)

  pub lends : Lends (limits_of l) work code
  lends = record { nodes = range.nodes.1; pool = range.pool.1; most = range.code; room = all_room work refl; lent = lent.code }

  asked : OnNone b q
  asked = subst (Says b q) P.verdict (says b q)

  -- there is one book only
  reads : (book : Book) (end : ℕ) → read_book b ≡ got book end → read_question book q ≡ got asked.right asked.last
  reads book end t = let a = asked.is in let same : book ≡ asked.book = cc in ap (λ (k : Book). read_question k q) same ∙ asked.asks

  -- the code is too long; or a fault, but the book was accepted: there is none in it
  gives-refusal : (work' code' : List ℕ) (f : Refused) → SettingIs b (limits_of l) work work' code code' (Err f) → Gives (e.machine (limits_of l) m₁ b q) (refused_by (answer_for f)) work work' code code' results results
  unfolding SettingIs e.machine e.checked answer_is
  gives-refusal work' code' (refused.TooLong n) o =
      let u = o.long in
      let v = o.over in
      let long : leb (length (compile o.book).code) l.code ≡ false = lt-leb (length (compile o.book).code) l.code (omega arith) in
      gives-refused LongCode (e.machine (limits_of l) m₁ b q) work work' code code' results (rw (P.limits, o.is, reads o.book o.end o.is, long, e.checked)) o.work_stays o.code_stays
  gives-refusal work' code' (refused.Fault f) o = let a = asked.is in absurd cc

  pub gives-unset : (work' code' : List ℕ) (s : Result ℕ Refused) (f : Refused) → SettingIs b (limits_of l) work work' code code' s → s ≡ Err f → (x : Result Done Answer) (a : Answer) → x ≡ Err a → a ≡ answer_for f
      → Gives (e.machine (limits_of l) m₁ b q) (outcome_of x) work work' code code' results results
  gives-unset work' code' s f y z x a p i = rw (p, i) (gives-refusal work' code' f (subst (SettingIs b (limits_of l) work work' code code') z y))

  -- the code fits
  module _ (work' code' : List ℕ) (s : Result ℕ Refused) (n : ℕ) (x : SettingIs b (limits_of l) work work' code code' s) (y : s ≡ Ok n) where
    set : SetUp b (limits_of l) work work' code code' n
    unfolding SettingIs
    set = subst (SettingIs b (limits_of l) work work' code code') y x

    pub code-there : n ≤ length code'
    code-there = let z = set.long in let u = ap length set.coded in let v = length-append (compile set.book).code (drop n code) in omega arith

    coded : (compile set.book).code ≡ take n code'
    coded = sym (ap (take n) set.coded ∙ take_at (compile set.book).code (drop n code) n (sym set.long))

    accepted : R.Accepted (limits_of l) m₁ b q set.book asked.right
    accepted = record { limits = P.limits; book_end = set.end; reads = set.is; question_end = asked.last; asks = reads set.book set.end set.is; short = le-leb (length (compile set.book).code) l.code (let z = set.long in let u = set.fits in omega arith) }

    pub asks : Asks (limits_of l) (take n code') work' q
    asks = record {
      book = set.book;
      accepted = book-fine b set.book set.end set.is;
      fine = fine-book (limits_of l) m₁ b set.book set.end P.limits set.is accepted.short;
      coded = coded;
      tables = set.tables;
      right = asked.right;
      end = asked.last;
      reads = reads set.book set.end set.is;
    }

    pub roomy : Roomy (limits_of l) work' results
    roomy = record { nodes = range.nodes.1; pool = range.pool; budget = range.budget; most = range.results; room = all_room work' set.same; lent = lent.results }

    pub code-short : length (take n code') ≤ 262144
    code-short = let z = length-take-le n code' code-there in let u = set.fits in let v = range.code in omega arith

    not-refused : Refusal (answer_of (e.machine (limits_of l) m₁ b q)) → ⊥
    unfolding answer_of
    not-refused r = let h = refusal-high (answer_of (e.machine (limits_of l) m₁ b q)) r in let k = (ans.accepted-ended accepted).low in let z = ap (λ (o : e.Outcome). e.number_of (answer_of o)) (agree (limits_of l) m₁ b q) in omega arith

    -- the question was asked: the definition's answer, counts and results
    pub gives-asked : (d : Done) (work'' results' : List ℕ) → AskDone (limits_of l) (take n code') work' q results results' d → length results' ≡ length results → Gives (e.machine (limits_of l) m₁ b q) (given_by d) work work'' code code' results results'
    unfolding asks
    gives-asked d work'' results' D z =
        gives-done d (e.machine (limits_of l) m₁ b q) (compile set.book).code work work'' code code' results results'
        (R.machine-asks accepted ∙ ap (λ (c : List ℕ). e.closed c (e.ask (m.turn (compile set.book)) (limits_of l) m.from_start asked.right)) coded ∙ D.is asks ∙ ap (λ (c : List ℕ). e.outcome (answer_is d.answer) (counts_in d.state) (take d.state.written results') c) (sym coded))
        (let w = D.written in let v = lent.results in omega arith) D.behind (set.coded ∙ ap (λ (k : ℕ). (compile set.book).code ++ drop k code) set.long) not-refused

-- the definition looks at lent lengths only to see that they are enough
machine-lent : (l : e.Limits) (m m' : e.Lent) (b q : List ℕ) → (e.in_range l && e.lent_fits l m) ≡ true → (e.in_range l && e.lent_fits l m') ≡ true → e.machine l m b q ≡ e.machine l m' b q
unfolding e.machine e.checked
machine-lent l m m' b q t u = rw (t, u, e.checked)

-- a part of work memory is lent on
module _ (l : Limits) (b q work code results : List ℕ) (P : Passed l b q work code results) where
  abbrev whole : e.Lent
  whole = lent_of (length work) (length code) (length results)

  -- what computing the size asked needs
  pub size-asks : (l.nodes ≤ 16384) × (l.pool ≤ 1024)
  size-asks = let r = range l b q work code results P in (r.nodes.1, r.pool.1)

  pub size-lent : e.work_size (limits_of l) ≤ length work
  size-lent = (lent l b q work code results P).work

  -- a part that is long enough is accepted as the whole is
  pub part-passed : (size : ℕ) → size ≤ length work → e.work_size (limits_of l) ≤ size → Passed l b q (take size work) code results
  part-passed size within enough =
      let f = lent l b q work code results P in
      let y = length-take-le size work within in
      let part : e.Lent = lent_of (length (take size work)) (length code) (length results) in
      let t = (both (e.in_range (limits_of l)) (e.lent_fits (limits_of l) whole) P.limits).0 in
      record {
        limits = sym (fit-second (e.in_range (limits_of l)) (e.lent_fits (limits_of l) part) true t (lent-yes (limits_of l) part (record { work = omega arith; code = f.code; results = f.results })));
        verdict = P.verdict;
      }

  -- a part of the size asked, put back: nothing beyond that size has changed
  pub ran-part : (size : ℕ) → size ≡ e.work_size (limits_of l) → (r : Outcome) (s code' results' : List ℕ) → length s ≡ length (take size work)
      → Gives (e.machine (limits_of l) (lent_of (length (take size work)) (length code) (length results)) b q) r (take size work) s code code' results results'
      → Ran l b q r work (s ++ drop size work) code code' results results'
  ran-part size k r s code' results' z G =
      let part : e.Lent = lent_of (length (take size work)) (length code) (length results) in
      let y = size-lent in
      let within : size ≤ length work = omega arith in
      record {
        is =
            subst (λ (o : e.Outcome). Gives o r work (s ++ drop size work) code code' results results') (machine-lent (limits_of l) part whole b q (part-passed size within (omega arith)).limits P.limits)
            (record {
              answered = G.answered;
              counted = G.counted;
              told = G.told;
              written = G.written;
              results_hold = G.results_hold;
              code_holds = G.code_holds;
              work_stays = λ x. ap (λ (t : List ℕ). t ++ drop size work) (G.work_stays x) ∙ take-append-drop size work;
            });
        work_beyond = subst (λ (n : ℕ). drop n (s ++ drop size work) ≡ drop n work) k (drop_at s (drop size work) size (z ∙ length-take-le size work within));
      }
