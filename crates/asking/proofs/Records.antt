-- A question's records, from the last to the first: each suffix of them is some terms, and one record more takes its arguments from these.
-- Here, in order: the terms of a suffix; what each record is like; that what is read is so; what is known of an accepted question.
-- Assumes nothing.
use Prim.Native.Nat.{ℕ, zero, suc, ◌+◌, ◌*◌, ◌≤◌, ◌<◌}
use native.Mathlib.Omega.{arith}
use mathlib.Core.Path.{◌≡◌, refl, sym, ◌∙◌, subst}
use mathlib.Core.Logic.{◌⊎◌, inl, inr}
use mathlib.Core.Bool.{Bool, true, false}
use mathlib.Core.List.{List, map}
use mathlib.Core.Option.{none}
use lib.ListN.{length, get_or}
use lib.Dec.{ltb, eqb}
use borrow.Author.Tests.{ltb-true, leb-true, eq-eqb, ne_eqb}
use Rattle.book.specs.Syntax.{con, fun, Terms, fresh, done, arg, Right, arity, con_arities}
use Rattle.book.specs.Record.{body_of, rec_at, scan, any_fits}
use Rattle.book.specs.Reading.{Names, Head, applied, alone, slot_case, read_head, joined, read_terms, the_one, read_right, last, read_alone, read_question}
use Rattle.book.specs.Accepted.{count}
use Rattle.book.proofs.Fairness.{both_hold}
use Rattle.book.proofs.Acceptance.{question-ends}
use Rattle.book.proofs.Enough.{terms-are-due}
use Rattle.asking.specs.Question.{AskedOf}
use Rattle.asking.proofs.Holding.{Holds, holds, lost, rec_one, hold-got, hold-make, hold-after, both, any, hold-pick}

-- a record's head: CON 7, CALL 8, else a FRESH
unfoldable pub head_of : List ℕ → List ℕ → ℕ → ℕ → Head
head_of cons funcs kind n = elim (eqb kind 7) [
  | true ↦ applied (con n) (get_or cons n 0)
  | false ↦ elim (eqb kind 8) [ true ↦ applied (fun n) (get_or funcs n 0) | false ↦ alone (fresh n) ]
]

module _ (cons funcs : List ℕ) (kind n : ℕ) where
  pub head-con : kind ≡ 7 → head_of cons funcs kind n ≡ applied (con n) (get_or cons n 0)
  unfolding head_of
  head-con h = rw (eq-eqb kind 7 h, head_of)

  pub head-fun : kind ≡ 8 → head_of cons funcs kind n ≡ applied (fun n) (get_or funcs n 0)
  unfolding head_of
  head-fun h = rw (ne_eqb kind 7 (λ z. omega arith), head_of, eq-eqb kind 8 h)

  pub head-fresh : kind ≡ 10 → head_of cons funcs kind n ≡ alone (fresh n)
  unfolding head_of
  head-fresh h = rw (ne_eqb kind 7 (λ z. omega arith), head_of, ne_eqb kind 8 (λ z. omega arith))

-- the terms that n records from place k on are
unfoldable pub terms_from : List ℕ → List ℕ → List ℕ → ℕ → ℕ → Terms
terms_from cons funcs q k zero = done
terms_from cons funcs q k (suc n) = joined (head_of cons funcs (get_or q k 0) (get_or q (k + 1) 0)) (terms_from cons funcs q (k + 2) n)

-- a record before some terms: there are terms for a symbol's arguments, and a FRESH's variable is declared
abbrev pub Fits : List ℕ → List ℕ → ℕ → Terms → ℕ → ℕ → Type 0
Fits cons funcs vars ts kind n = ((kind ≡ 7) × (get_or cons n 0 ≤ count ts)) ⊎ (((kind ≡ 8) × (get_or funcs n 0 ≤ count ts)) ⊎ ((kind ≡ 10) × (n < vars)))

-- so is each of the records
unfoldable pub Deep : List ℕ → List ℕ → ℕ → List ℕ → ℕ → ℕ → Type 0
Deep cons funcs vars q k zero = Unit
Deep cons funcs vars q k (suc n) = Fits cons funcs vars (terms_from cons funcs q (k + 2) n) (get_or q k 0) (get_or q (k + 1) 0) × Deep cons funcs vars q (k + 2) n

-- and each of a suffix
pub deep-at : (cons funcs : List ℕ) (vars : ℕ) (q : List ℕ) (j n k m : ℕ) → n ≡ j + m → Deep cons funcs vars q k n → Deep cons funcs vars q (k + 2 * j) m
unfolding Deep
deep-at cons funcs vars q zero n k m e d =
    let a : n ≡ m = omega arith in
    let b : k + 2 * zero ≡ k = omega arith in
    rw b (rw a at d)
deep-at cons funcs vars q (suc j) zero k m e d = absurd (omega arith)
deep-at cons funcs vars q (suc j) (suc n) k m e d =
    let b : k + 2 * suc j ≡ k + 2 + 2 * j = omega arith in
    rw b (deep-at cons funcs vars q j n (k + 2) m (omega arith) d.1)

-- terms that were read: so many records
record Records (cons funcs : List ℕ) (vars : ℕ) (q : List ℕ) (room k : ℕ) (ts : Terms) (e : ℕ) : Type 0 where
  n : ℕ
  at : e ≡ k + 2 * n
  few : n ≤ room
  is : terms_from cons funcs q k n ≡ ts
  deep : Deep cons funcs vars q k n

-- a head that was read
record HeadTold (cons funcs : List ℕ) (vars : ℕ) (q : List ℕ) (more : Bool) (k : ℕ) (h : Head) (e : ℕ) : Type 0 where
  next : e ≡ k + 2
  same : head_of cons funcs (get_or q k 0) (get_or q (k + 1) 0) ≡ h
  fits : (ts : Terms) → h.args ≤ count ts → Fits cons funcs vars ts (get_or q k 0) (get_or q (k + 1) 0)
  allowed : more ≡ true

module _ (q cons funcs : List ℕ) (vars : ℕ) where
  abbrev names : Names
  names = record { cons = cons; funcs = funcs; slots = none; vars = vars }

  head-told : (more : Bool) (k : ℕ) → Holds (HeadTold cons funcs vars q more k) (read_head q names more k)
  unfolding read_head body_of slot_case
  head-told more k = hold-pick q k (HeadTold cons funcs vars q more k) _ (
    (λ c b e r t.
        (let o = rec_one q k r refl in
        holds (record { next = o.2; same = head-con cons funcs _ _ o.0 ∙ rw o.1; fits = λ ts l. inl (o.0, rw o.1 l); allowed = (both_hold more _ t).0 }))),
    (
      (λ f b e r t.
          (let o = rec_one q k r refl in
          holds (record { next = o.2; same = head-fun cons funcs _ _ o.0 ∙ rw o.1; fits = λ ts l. inr (inl (o.0, rw o.1 l)); allowed = (both_hold more _ t).0 }))),
      (
        (λ v b e r t.
            (let o = rec_one q k r refl in
            let u = both_hold more _ t in
            holds (record { next = o.2; same = head-fresh cons funcs _ _ o.0 ∙ rw o.1; fits = λ ts l. inr (inr (o.0, rw o.1 (ltb-true v vars u.1))); allowed = u.0 }))),
        tt,
      ),
    ),
  ) (rec_at q k) refl

  one_more : (room due k e : ℕ) (h : Head) → HeadTold cons funcs vars q true k h e → (ts : Terms) (f : ℕ) → Records cons funcs vars q room e ts f → count ts ≡ h.args + due → Records cons funcs vars q (suc room) k (joined h ts) f
  unfolding terms_from Deep
  one_more room due k e h p ts f r c =
      let a : terms_from cons funcs q (k + 2) r.n ≡ ts = rw p.next at r.is in
      record {
        n = suc r.n;
        at = omega (arith, r.at, p.next);
        few = omega (arith, r.few);
        is = rw (a, p.same);
        deep = (rw a (p.fits ts (omega arith)), rw p.next at r.deep);
      }

  terms-told : (room due k : ℕ) → Holds (Records cons funcs vars q room k) (read_terms q names room due k)
  unfolding read_terms terms_from Deep
  terms-told zero zero k = holds {e = k} (record { n = 0; at = omega arith; few = omega arith; is = refl; deep = tt })
  terms-told (suc room) zero k = holds {e = k} (record { n = 0; at = omega arith; few = omega arith; is = refl; deep = tt })
  terms-told zero (suc due) k = hold-after (head-told false k) (λ h e p. (let t = p.allowed in cc))
  terms-told (suc room) (suc due) k =
      hold-after (head-told true k) (λ h e p. hold-make (joined h) (both (terms-told room (h.args + due) e) (λ ts f u. terms-are-due q names room (h.args + due) e ts f u)) (λ ts f r. one_more room due k e h p ts f r.0 r.1))

-- what is known of a RIGHT that was read at the start
pub record RightTold (q cons funcs : List ℕ) (r : Right) (e : ℕ) : Type 0 where
  pub vars : r.vars ≡ get_or q 1 0
  pub eight : r.vars ≤ 8
  pub n : ℕ
  pub at : e ≡ 2 + 2 * n
  pub few : n ≤ 255
  pub is : terms_from cons funcs q 2 n ≡ arg r.term done
  pub deep : Deep cons funcs r.vars q 2 n

the_one_lem : (ts : Terms) → count ts ≡ 1 → ts ≡ arg (the_one ts) done
unfolding the_one
the_one_lem done c = absurd (omega arith)
the_one_lem (arg t done) c = refl
the_one_lem (arg t (arg u ts)) c = absurd (omega arith)

module _ (q cons funcs : List ℕ) where
  right-told : Holds (RightTold q cons funcs) (read_right q cons funcs none 0)
  unfolding read_right body_of
  right-told = hold-pick q 0 (RightTold q cons funcs) _ (
    (λ v b e r t.
        (let o = rec_one q 0 r refl in
        let two : e ≡ 2 = omega (arith, o.2) in
        let w = leb-true v 8 t in
        hold-make _ (both (terms-told q cons funcs v 255 1 e) (λ ts f u. terms-are-due q (names q cons funcs v) 255 1 e ts f u)) (λ ts f p. (let x = p.0 in record {
          vars = sym o.1;
          eight = w;
          n = x.n;
          at = omega (arith, x.at);
          few = x.few;
          is = (rw two at x.is) ∙ the_one_lem ts p.1;
          deep = rw two at x.deep;
        })))),
    tt,
  ) (rec_at q 0) refl

  last-told : (r : Right) (e : ℕ) → RightTold q cons funcs r e → Holds (RightTold q cons funcs) (last q r e)
  unfolding last
  last-told r e p = go (ltb e (length q)) refl
    where
      go : (b : Bool) → ltb e (length q) ≡ b → Holds (RightTold q cons funcs) (last q r e)
      go true t = rw (t, last) lost
      go false t = rw (t, last) (holds p)

  alone-told : Holds (RightTold q cons funcs) (read_alone cons funcs q)
  unfolding read_alone
  alone-told = hold-after (any (scan q any_fits (length q) 0 0)) (λ u e p. hold-after right-told (λ r f p. last-told r f p))

-- the arities of the book of a question
abbrev pub cons_in : {L base : ℕ} {s q : List ℕ} → AskedOf L base s q → List ℕ
cons_in x = con_arities x.book.types

abbrev pub funcs_in : {L base : ℕ} {s q : List ℕ} → AskedOf L base s q → List ℕ
funcs_in x = map arity x.book.funcs

-- An accepted question is two bytes for its variables, and then the two bytes of each record of its term.
pub question-told : {L base : ℕ} {s q : List ℕ} (x : AskedOf L base s q) → RightTold q (cons_in x) (funcs_in x) x.right (length q)
unfolding read_question
question-told {q = q} x =
    let e : x.end ≡ length q = question-ends x.book q x.right x.end x.reads in
    subst (RightTold q (cons_in x) (funcs_in x) x.right) e (hold-got (alone-told q (cons_in x) (funcs_in x)) x.reads)
