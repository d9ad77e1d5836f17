-- The runs of the two readings are equal: demand 3.
-- Here, in order: pools side by side; what comes of a moment; a question asked; the refusals; `agree`.
-- Assumes nothing.
use Prim.Native.Nat.{ℕ, zero, suc, ◌+◌, ◌≤◌}
use native.Mathlib.Nat.{not-suc-le-zero}
use native.Mathlib.Omega.{arith}
use mathlib.Core.Path.{◌≡◌, refl, sym, ap, ◌∙◌, subst}
use mathlib.Core.Bool.{Bool, true, false, ◌&&◌}
use mathlib.Core.List.{List, [], ◌∷◌, ◌++◌, append-nil}
use lib.Dec.{leb, ltb}
use lib.ListN.{length, replicate, length-append, length-replicate}
use borrow.Author.Tests.{leb-true}
use Rattle.book.specs.Syntax.{Right, Book}
use Rattle.book.specs.Record.{got}
use Rattle.book.specs.Reading.{read_book}
use Rattle.book.specs.Answers.{Counts, zeros}
use Rattle.book.proofs.Acceptance.{book-fine, question-fine}
use Rattle.heap.specs.Graph.{var, Comp}
use Rattle.heap.specs.Build.{up_from, build_right, start}
use Rattle.heap.proofs.Laws.Copies.{Whole}
use Rattle.heap.proofs.Laws.Numbers.{up_from-mem}
use Rattle.engine.specs.Turn.{Turned, goes, splits, value}
use Rattle.engine.specs.Plain as Plain
use Rattle.engine.specs.Compile.{Program, compile}
use Rattle.engine.specs.Machine as Machine
use Rattle.engine.specs.Machine.{Kept, from_start}
use Rattle.engine.specs.Run.{Limits, Lent, in_range, lent_fits, Answer, turns_of, result_record, Moment, moment, Next, ends, next, fits, taken, step, run_from, opening, ask, closed, plain, machine}
use Rattle.agreement.proofs.Fine.{Takes, FineTerm}
use Rattle.agreement.proofs.Simulate.{grown-build}
use Rattle.agreement.proofs.Builds.{right-made, back-self}
use Rattle.agreement.proofs.Calls.{FineBook}
use Rattle.agreement.proofs.Accept.{fine_of, question-of}
use Rattle.agreement.proofs.Refusals.{Case, at-limits, at-book, at-question, at_code, runs, case, plain-asks, machine-asks}
use Rattle.agreement.proofs.Agree.{Sound, Pools, Same, same-goes, same-splits, same-value, same_ended, turns}

vars-fit : (q : Right) → q.vars ≤ length (build_right q [] []).0
unfolding build_right
vars-fit q =
    let w = grown-build q.term (replicate q.vars var) [] (up_from 0 q.vars) (replicate q.vars var) ([], sym (append-nil (replicate q.vars var))) in
    rw (w.1, length-append (replicate q.vars var) w.0, length-replicate q.vars var) (omega arith)

module _ (book : Book) (B : FineBook book) where
  abbrev m : Program
  m = compile book

  pub pools-append : (a : List Comp) (a' : List Kept) (b : List Comp) (b' : List Kept) → Pools book B a a' → Pools book B b b' → Pools book B (a ++ b) (a' ++ b')
  pools-append [] [] b b' p q = q
  pools-append [] (k ∷ a') b b' p q = absurd p
  pools-append (c ∷ a) [] b b' p q = absurd p
  pools-append (c ∷ a) (k ∷ a') b b' (e, s, p) q = (e, s, pools-append a a' b b' p q)

  pools-length : (a : List Comp) (a' : List Kept) → Pools book B a a' → length a ≡ length a'
  pools-length [] [] p = refl
  pools-length [] (k ∷ a') p = absurd p
  pools-length (c ∷ a) [] p = absurd p
  pools-length (c ∷ a) (k ∷ a') (e, s, p) = ap suc (pools-length a a' p)

  pub same_turn : (c : Comp) (k : Kept) → k.comp ≡ c → Sound book B c k.stack → Same book B (Plain.turn book c) (Machine.turn m k)
  same_turn c k e s =
      subst (λ (x : Comp). Same book B (Plain.turn book c) (Machine.turn m (record { comp = x; stack = k.stack }))) (sym e)
      (turns book B c.graph c.value c.askers s.whole k.stack s.chain).0

  -- two moments side by side: the same computations, the machine's with their stacks; the same counts and results
  pub data Alike : Moment Comp → Moment Kept → Type 0 where
    alike : {pool : List Comp} {pool' : List Kept} {k : Counts} {out : List ℕ} → Pools book B pool pool' → Alike (moment pool k out) (moment pool' k out)

  -- and what comes of them: the same answer, or moments side by side
  pub data AlikeNext : Next Comp → Next Kept → Type 0 where
    both_end : {a : Answer} → AlikeNext (ends a) (ends a)
    both_go : {x : Moment Comp} {y : Moment Kept} → Alike x y → AlikeNext (next x) (next y)

  module _ (l : Limits) where
    taken-alike : (pool : List Comp) (pool' : List Kept) → Pools book B pool pool' → (k : Counts) (out : List ℕ) (x : Turned Comp) (y : Turned Kept) → Same book B x y
        → AlikeNext (taken (Plain.turn book) l pool k out x) (taken (Machine.turn m) l pool' k out y)
    unfolding taken
    taken-alike pool pool' p k out _ _ (same-goes {c = d} {k = d'} {n = j} q s) = go (fits l k j) refl
      where
        go : (b : Bool) → fits l k j ≡ b → AlikeNext (taken (Plain.turn book) l pool k out (goes d j)) (taken (Machine.turn m) l pool' k out (goes d' j))
        go true t = rw (t, taken) (both_go (alike (pools-append pool pool' (d ∷ []) (d' ∷ []) p (q, s, tt))))
        go false t = rw (t, taken) both_end
    taken-alike pool pool' p k out _ _ (same-splits {cs = ds} {ks = ds'} {n = j} q) = go (fits l k j) (leb (length pool + length ds) l.pool) refl refl
      where
        lp : length pool' ≡ length pool
        lp = sym (pools-length pool pool' p)

        ld : length ds' ≡ length ds
        ld = sym (pools-length ds ds' q)

        go : (a b : Bool) → fits l k j ≡ a → leb (length pool + length ds) l.pool ≡ b → AlikeNext (taken (Plain.turn book) l pool k out (splits ds j)) (taken (Machine.turn m) l pool' k out (splits ds' j))
        go true true t u = rw (t, lp, ld, u, taken) (rw ld (both_go (alike (pools-append pool pool' ds ds' p q))))
        go true false t u = rw (t, lp, ld, u, taken) both_end
        go false b t u = rw (t, taken) both_end
    taken-alike pool pool' p k out _ _ (same-value {b}) = go (leb (length (out ++ result_record (suc (turns_of k)) b)) l.results) refl
      where
        go : (a : Bool) → leb (length (out ++ result_record (suc (turns_of k)) b)) l.results ≡ a → AlikeNext (taken (Plain.turn book) l pool k out (value b)) (taken (Machine.turn m) l pool' k out (value b))
        go true t = rw (t, taken) (both_go (alike p))
        go false t = rw (t, taken) both_end
    taken-alike pool pool' p k out _ _ same_ended = both_go (alike p)

    pub step-alike : (x : Moment Comp) (y : Moment Kept) → Alike x y → AlikeNext (step (Plain.turn book) l x) (step (Machine.turn m) l y)
    unfolding step
    step-alike (moment [] k out) (moment [] k' out') (alike p) = both_end
    step-alike (moment [] k out) (moment (c' ∷ pool') k' out') (alike p) = absurd p
    step-alike (moment (c ∷ pool) k out) (moment [] k' out') (alike p) = absurd p
    step-alike (moment (c ∷ pool) k out) (moment (c' ∷ pool') k' out') (alike (e, s, p)) = go (ltb (turns_of k) l.budget) refl
      where
        go : (b : Bool) → ltb (turns_of k) l.budget ≡ b → AlikeNext (step (Plain.turn book) l (moment (c ∷ pool) k out)) (step (Machine.turn m) l (moment (c' ∷ pool') k out))
        go true t = rw (t, step) (taken-alike pool pool' p k out (Plain.turn book c) (Machine.turn m c') (same_turn c c' e s))
        go false t = rw (t, step) both_end

    runs-alike : (code : List ℕ) (n : ℕ) (x : Moment Comp) (y : Moment Kept) → Alike x y → closed code (run_from (Machine.turn m) l n y) ≡ closed code (run_from (Plain.turn book) l n x)
    unfolding run_from closed
    runs-alike code zero (moment pool k out) (moment pool' k' out') (alike p) = refl
    runs-alike code (suc n) x y a = go (runs-alike code n) (step (Plain.turn book) l x) (step (Machine.turn m) l y) refl refl (step-alike x y a)
      where
        shown : (b : Answer) (x : Moment Comp) (y : Moment Kept) → Alike x y → closed code (b, y) ≡ closed code (b, x)
        shown b (moment pool k out) (moment pool' k' out') (alike p) = refl

        go : ((x : Moment Comp) (y : Moment Kept) → Alike x y → closed code (run_from (Machine.turn m) l n y) ≡ closed code (run_from (Plain.turn book) l n x))
            → (s : Next Comp) (t : Next Kept) → step (Plain.turn book) l x ≡ s → step (Machine.turn m) l y ≡ t → AlikeNext s t
            → closed code (run_from (Machine.turn m) l (suc n) y) ≡ closed code (run_from (Plain.turn book) l (suc n) x)
        go ih _ _ e e' (both_end {a = b}) = rw (e, e', run_from) (shown b x y a)
        go ih _ _ e e' (both_go {x = x'} {y = y'} a') = rw (e, e', run_from) (ih x' y' a')

  -- a question's computation
  pub start-whole : (q : Right) → FineTerm m 0 q.vars q.term → Whole (Takes m) (start q)
  unfolding start
  start-whole q f =
      let p = build_right q [] [] in
      let M = right-made m (λ k. Unit) 0 0 [] q f [] (λ i a. absurd (not-suc-le-zero a)) (back-self m (λ k. Unit) []) in
      let b = M.0.back in
      record {
        good = record { rank = λ x. x; low = λ x i. i; kid = λ x k i w. (let a = b.kid x k (omega arith) i w in let c = a.0 in (omega arith, c)); fine = λ x s hs e. b.fine x s hs (omega arith) e };
        value_in = M.1.inside;
        askers-in = λ k w. (let a = up_from-mem q.vars 0 k w in let c = vars-fit q in omega arith);
      }

  pub begun : (q : Right) → FineTerm m 0 q.vars q.term → Alike (opening (λ c. c) (start q)) (opening from_start (start q))
  unfolding opening from_start
  begun q f = alike {pool = start q ∷ []} {pool' = from_start (start q) ∷ []} (refl, record { whole = start-whole q f; chain = tt }, tt)

  pub asks : (l : Limits) (q : Right) → FineTerm m 0 q.vars q.term → closed m.code (ask (Machine.turn m) l from_start q) ≡ closed m.code (ask (Plain.turn book) l (λ c. c) q)
  unfolding ask closed
  asks l q f = go (fits l zeros (length (start q).graph)) refl
    where
      go : (b : Bool) → fits l zeros (length (start q).graph) ≡ b → closed m.code (ask (Machine.turn m) l from_start q) ≡ closed m.code (ask (Plain.turn book) l (λ c. c) q)
      go true t = rw (t, ask) (runs-alike l m.code (suc l.budget) _ _ (begun q f))
      go false t = rw (t, ask)

both_true : (a b : Bool) → (a && b) ≡ true → (a ≡ true) × (b ≡ true)
both_true true b e = (refl, e)
both_true false b e = let z : ◌≡◌ {A = ℕ} 0 1 = cc in absurd (omega arith)

code-range : (l : Limits) (m : Lent) → (in_range l && lent_fits l m) ≡ true → l.code ≤ 262144
unfolding in_range
code-range l m e =
    leb-true l.code 262144
    (both_true (leb 1 l.nodes && leb l.nodes 16384 && leb 1 l.pool && leb l.pool 1024 && leb l.budget 1000000 && leb l.results 65536) (leb l.code 262144)
    (both_true (in_range l) (lent_fits l m) e).0).1

-- an accepted book whose code fits is as the agreement needs it
pub fine-book : (l : Limits) (m : Lent) (b : List ℕ) (book : Book) (e : ℕ) → (in_range l && lent_fits l m) ≡ true → read_book b ≡ got book e → leb (length (compile book).code) l.code ≡ true → FineBook book
fine-book l m b book e t r u =
    let h : length (compile book).code ≤ l.code = leb-true _ _ u in
    let i : l.code ≤ 262144 = code-range l m t in
    fine_of book (book-fine b book e r) (omega arith)

-- The machine and the plain reading give the same outcome (answer, place, counts, results and code written): for all limits, lent memory, books and questions.
pub agree : (l : Limits) (m : Lent) (b q : List ℕ) → machine l m b q ≡ plain l m b q
unfolding machine plain
agree l m b q = go (case l m b q)
  where
    go : Case l m b q → machine l m b q ≡ plain l m b q
    go (at-limits t e) = e _ ∙ sym (e _)
    go (at-book w p t e) = e _ ∙ sym (e _)
    go (at-question book x w p t u e) = e _ ∙ sym (e _)
    go (at_code book x r d t u e) = e _ ∙ sym (e _)
    go (runs book r A) =
        machine-asks A ∙ asks book (fine-book l m b book A.book_end A.limits A.reads A.short) l r (question-of book r (question-fine book q r A.question_end A.asks).1) ∙ sym (plain-asks A)
