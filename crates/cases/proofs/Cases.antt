-- What the engine gives for all bytes of a case is what it gives for those that are kept, settled by the first pass over all of the question.
-- Here, in order: a question; a book; the machine's run; the contract.
-- Assumes nothing.
use Prim.Native.Nat.{ℕ, ◌<◌}
use mathlib.Core.Path.{◌≡◌, refl, ap, sym, ◌∙◌, subst⁻¹}
use mathlib.Core.Logic.{inl, inr}
use mathlib.Core.Bool.{Bool, true, false, ◌&&◌}
use mathlib.Core.List.{List, [], ◌++◌, append-nil, map}
use mathlib.Core.Option.{none}
use lib.ListN.{length, length-append}
use lib.Dec.{leb}
use native.Mathlib.Omega.{arith}
use borrow.Author.Tests.{lt-leb}
use Rattle.book.specs.Syntax.{Book, Right, arity, con_arities}
use Rattle.book.specs.declared.Sort.{Sort}
use Rattle.book.specs.declared.Sort.TheVariants.{Unknown, End}
use Rattle.std.specs.Prelude.{Result, Ok, Err}
use Rattle.book.specs.declared.Fault.{Fault}
use Rattle.book.specs.Record.{Got, got, fault, bad, scan, any_fits}
use Rattle.book.specs.Reading.{after, read_right, last, read_alone, read_book, read_question}
use Rattle.book.proofs.Fronts.{step-got, step-fault, after-got, after-fault}
use Rattle.engine.specs.Compile.{compile}
use Rattle.engine.specs.Run as e
use Rattle.run.specs.declared.Limits.{Limits}
use Rattle.run.specs.declared.Answer.{Answer}
use Rattle.run.specs.declared.Outcome.{Outcome}
use Rattle.run.specs.Given.{answer_is, counts_is, told_by, answer_of, counts_of, Refusal, Gives, Ran}
use Rattle.cases.specs.declared.Passed.{Passed}
use Rattle.cases.specs.declared.Passed.TheVariants.{Whole, Begun, Lost}
use Rattle.cases.specs.Parts.{passed, start, found}
use Rattle.cases.specs.Whole.{AtEnd, BookKept, QuestionKept, Kept, first, settled, settled_in, CaseRan}
use Rattle.cases.proofs.Passes.{parts, pass-lost, first-pass}
use Rattle.cases.proofs.Long.{right-front, last-front}

-- a question at fault in its first pass; and one that is not
alone-fault : (cons funcs q : List ℕ) {f : Fault} → found (passed start q) ≡ Err f → read_alone cons funcs q ≡ fault f.sort f.at
unfolding read_alone
alone-fault cons funcs q h = after-fault _ (step-fault (scan q any_fits (length q) 0 0) (sym (first-pass q) ∙ h))

alone-next : (cons funcs q : List ℕ) {k : ℕ} → found (passed start q) ≡ Ok k → read_alone cons funcs q ≡ after (read_right q cons funcs none 0) (last q)
unfolding read_alone
alone-next cons funcs q h = let g = step-got (scan q any_fits (length q) 0 0) (sym (first-pass q) ∙ h) in after-got _ g.1

-- a question, by what is kept of it and by the first pass over all of it
unfoldable Judged : Result ℕ Fault → Got Right → Got Right → Type 0
Judged (Ok k) all kept = all ≡ kept
Judged (Err f) all kept = (all ≡ fault f.sort f.at) × ((v : Sort) × ((q : ℕ) × (kept ≡ fault v q)))

module _ (cons funcs q rest : List ℕ) where
  -- a question all of which is kept
  judged-all : rest ≡ [] → (x : Result ℕ Fault) → found (passed start (q ++ rest)) ≡ x → Judged x (read_alone cons funcs (q ++ rest)) (read_alone cons funcs q)
  unfolding Judged
  judged-all r (Ok k) f = ap (read_alone cons funcs) (ap (λ (l : List ℕ). q ++ l) r ∙ append-nil q)
  judged-all r (Err v) f =
      let z = ap (read_alone cons funcs) (ap (λ (l : List ℕ). q ++ l) r ∙ append-nil q) in
      let g = alone-fault cons funcs (q ++ rest) f in
      (g, (v.sort, (v.at, sym z ∙ g)))

  -- one whose start is kept: whole records, or an unknown kind
  judged-whole : 768 < length q → (n : ℕ) → passed start q ≡ Whole n → (x : Result ℕ Fault) → found (passed start (q ++ rest)) ≡ x → Judged x (read_alone cons funcs (q ++ rest)) (read_alone cons funcs q)
  unfolding Judged found
  judged-whole h n w x f =
      let r = right-front q rest n cons funcs h w in
      let l = last-front q rest (read_right q cons funcs none 0) h r.within in
      let here = alone-next cons funcs q (ap found w) in
      go x f l here r.same
    where
      go : (x : Result ℕ Fault) → found (passed start (q ++ rest)) ≡ x
          → (after (read_right q cons funcs none 0) (last (q ++ rest)) ≡ after (read_right q cons funcs none 0) (last q)) × ((w : Sort) × ((p : ℕ) × (after (read_right q cons funcs none 0) (last q) ≡ fault w p)))
          → read_alone cons funcs q ≡ after (read_right q cons funcs none 0) (last q)
          → read_right (q ++ rest) cons funcs none 0 ≡ read_right q cons funcs none 0
          → Judged x (read_alone cons funcs (q ++ rest)) (read_alone cons funcs q)
      go (Ok k) f l here same = alone-next cons funcs (q ++ rest) f ∙ ap (λ (y : Got Right). after y (last (q ++ rest))) same ∙ l.0 ∙ sym here
      go (Err v) f l here same = (alone-fault cons funcs (q ++ rest) f, (l.1.0, (l.1.1.0, here ∙ l.1.1.1)))

  judged-lost : (j : ℕ) → passed start q ≡ Lost j → (x : Result ℕ Fault) → found (passed start (q ++ rest)) ≡ x → Judged x (read_alone cons funcs (q ++ rest)) (read_alone cons funcs q)
  unfolding Judged found
  judged-lost j w (Ok k) f =
      let z : found (passed start (q ++ rest)) ≡ bad Unknown j = rw (parts start q rest, w, pass-lost j rest) in
      let y : ◌≡◌ {A = ℕ} 0 1 = cc in
      absurd (omega arith)
  judged-lost j w (Err v) f = (alone-fault cons funcs (q ++ rest) f, (Unknown, (j, alone-fault cons funcs q (ap found w))))

  judged-start : 768 < length q → (s : Passed) → passed start q ≡ s → AtEnd s → (x : Result ℕ Fault) → found (passed start (q ++ rest)) ≡ x → Judged x (read_alone cons funcs (q ++ rest)) (read_alone cons funcs q)
  unfolding AtEnd
  judged-start h (Whole n) w a x f = judged-whole h n w x f
  judged-start h (Begun k m e) w a x f = absurd a
  judged-start h (Lost j) w a x f = judged-lost j w x f

  judged : QuestionKept q rest → Judged (found (passed start (q ++ rest))) (read_alone cons funcs (q ++ rest)) (read_alone cons funcs q)
  judged (inl r) = judged-all r (found (passed start (q ++ rest))) refl
  judged (inr s) = judged-start s.0 (passed start q) refl s.1 (found (passed start (q ++ rest))) refl

-- a book
book-long : (b : List ℕ) → 32768 < length b → read_book b ≡ fault End 32768
unfolding read_book
book-long b h = rw (lt-leb (length b) 32768 h, read_book)

book-kept : (b more : List ℕ) → BookKept b more → read_book (b ++ more) ≡ read_book b
book-kept b more (inl r) = ap read_book (ap (λ (l : List ℕ). b ++ l) r ∙ append-nil b)
book-kept b more (inr h) = let long = length-append b more in book-long (b ++ more) (omega arith) ∙ sym (book-long b h)

-- where the first pass finds nothing, an answer stands
settled-next : (k : ℕ) (o : e.Outcome) → settled_in (Ok k) o ≡ o
unfolding settled_in settled first
settled-next k (e.outcome e.emptied c r d) = refl
settled-next k (e.outcome e.spent c r d) = refl
settled-next k (e.outcome e.no_nodes c r d) = refl
settled-next k (e.outcome e.no_places c r d) = refl
settled-next k (e.outcome e.no_room c r d) = refl
settled-next k (e.outcome e.bad_limits c r d) = refl
settled-next k (e.outcome (e.bad_book w p) c r d) = refl
settled-next k (e.outcome (e.bad_question w p) c r d) = refl
settled-next k (e.outcome e.long_code c r d) = refl
settled-next k (e.outcome e.never c r d) = refl

-- what comes after the book
unfoldable asked : e.Limits → Book → (Book → Right → e.Outcome) → Got Right → e.Outcome
asked l book go x = elim x [
  | fault w p ↦ e.refused (e.bad_question w p)
  | got right _ ↦ elim (leb (length (compile book).code) l.code) [
    | false ↦ e.refused e.long_code
    | true ↦ go book right
  ]
]

asked-settled : (l : e.Limits) (book : Book) (go : Book → Right → e.Outcome) (x : Result ℕ Fault) (all kept : Got Right) → Judged x all kept → asked l book go all ≡ settled_in x (asked l book go kept)
unfolding Judged asked settled_in settled first e.refused
asked-settled l book go (Ok k) all kept j = ap (asked l book go) j ∙ sym (settled-next k (asked l book go kept))
asked-settled l book go (Err v) all kept j = rw (j.0, j.1.1.1)

module _ (l : e.Limits) (m : e.Lent) (go : Book → Right → e.Outcome) where
  checked-limits : (b q : List ℕ) → (e.in_range l && e.lent_fits l m) ≡ false → e.checked l m b q go ≡ e.refused e.bad_limits
  unfolding e.checked
  checked-limits b q h = rw (h, e.checked)

  checked-book : (b q : List ℕ) {w : Sort} {p : ℕ} → (e.in_range l && e.lent_fits l m) ≡ true → read_book b ≡ fault w p → e.checked l m b q go ≡ e.refused (e.bad_book w p)
  unfolding e.checked
  checked-book b q h r = rw (h, e.checked, r)

  checked-asked : (b q : List ℕ) {book : Book} {k : ℕ} → (e.in_range l && e.lent_fits l m) ≡ true → read_book b ≡ got book k → e.checked l m b q go ≡ asked l book go (read_question book q)
  unfolding e.checked asked
  checked-asked b q h r = rw (h, e.checked, r)

  module _ (b more q rest : List ℕ) (p : Passed) (K : Kept b more q rest p) where
    checked-settled : e.checked l m (b ++ more) (q ++ rest) go ≡ settled_in (found p) (e.checked l m b q go)
    unfolding settled_in settled e.refused read_question
    checked-settled = limits (e.in_range l && e.lent_fits l m) refl
      where
        same : read_book (b ++ more) ≡ read_book b
        same = book-kept b more K.book

        books : (e.in_range l && e.lent_fits l m) ≡ true → (x : Got Book) → read_book b ≡ x → e.checked l m (b ++ more) (q ++ rest) go ≡ settled_in (found p) (e.checked l m b q go)
        books h (fault w k) r = checked-book (b ++ more) (q ++ rest) h (same ∙ r) ∙ sym (ap (settled_in (found p)) (checked-book b q h r))
        books h (got book k) r =
            let j = judged (con_arities book.types) (map arity book.funcs) q rest K.question in
            checked-asked (b ++ more) (q ++ rest) h (same ∙ r)
            ∙ asked-settled l book go (found (passed start (q ++ rest))) _ _ j
            ∙ ap (λ (s : Passed). settled_in (found s) (asked l book go (read_question book q))) K.pass
            ∙ sym (ap (settled_in (found p)) (checked-asked b q h r))

        limits : (t : Bool) → (e.in_range l && e.lent_fits l m) ≡ t → e.checked l m (b ++ more) (q ++ rest) go ≡ settled_in (found p) (e.checked l m b q go)
        limits false h = checked-limits (b ++ more) (q ++ rest) h ∙ sym (ap (settled_in (found p)) (checked-limits b q h))
        limits true h = books h (read_book b) refl

-- the machine's run
pub machine-settled : (l : e.Limits) (m : e.Lent) (b more q rest : List ℕ) (p : Passed) → Kept b more q rest p → e.machine l m (b ++ more) (q ++ rest) ≡ settled_in (found p) (e.machine l m b q)
unfolding e.machine
machine-settled l m b more q rest p K = checked-settled l m _ b more q rest p K

-- a refusal that is settled was one
refusal-settled : (s : Result ℕ Fault) (a : e.Answer) → Refusal (settled s a) → Refusal a
unfolding settled first
refusal-settled s e.emptied x = x
refusal-settled s e.spent x = x
refusal-settled s e.no_nodes x = x
refusal-settled s e.no_places x = x
refusal-settled s e.no_room x = x
refusal-settled s e.bad_limits x = tt
refusal-settled s (e.bad_book w p) x = tt
refusal-settled s (e.bad_question w p) x = tt
refusal-settled s e.long_code x = tt
refusal-settled s e.never x = x

-- an outcome with another answer
abbrev answered : Answer → Outcome → Outcome
answered a o = record {
  answer = a;
  turns = o.turns;
  nodes = o.nodes;
  begun = o.begun;
  split = o.split;
  values = o.values;
  failed = o.failed;
  misfits = o.misfits;
  written = o.written;
}

gives-settled : (s : Result ℕ Fault) (o : e.Outcome) (r : Outcome) (a : Answer) {work work' code code' results results' : List ℕ} → answer_is a ≡ settled s (answer_is r.answer)
    → Gives o r work work' code code' results results' → Gives (settled_in s o) (answered a r) work work' code code' results results'
unfolding settled_in answer_of counts_of counts_is told_by e.tells e.results_of e.code_of e.results_after e.code_after
gives-settled s (e.outcome x k out code) r a h G =
    let z : answer_is a ≡ settled s x = h ∙ ap (settled s) G.answered in
    record {
      answered = z;
      counted = G.counted;
      told = rw (z, G.counted);
      written = G.written;
      results_hold = G.results_hold;
      code_holds = G.code_holds;
      work_stays = λ y. G.work_stays (refusal-settled s x y);
    }

-- the contract of a case's run
pub case-ran : (l : Limits) (b q : List ℕ) (p : Passed) (r : Outcome) (a : Answer) {work work' code code' results results' : List ℕ} → answer_is a ≡ settled (found p) (answer_is r.answer)
    → Ran l b q r work work' code code' results results' → CaseRan l b q p (answered a r) work work' code code' results results'
case-ran l b q p r a {work} {work'} {code} {code'} {results} {results'} h R =
    record {
      ran = λ more rest K. record {
        is = subst⁻¹ (λ (o : e.Outcome). Gives o (answered a r) work work' code code' results results') (machine-settled _ _ b more q rest p K) (gives-settled (found p) _ r a h R.is);
        work_beyond = R.work_beyond;
      };
    }
