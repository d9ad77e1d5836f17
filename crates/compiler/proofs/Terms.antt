-- Terms as they stand in the book: by the count of terms still due, and their code, which is that of their records, the last one's first.
use Prim.Native.Nat.{ℕ, zero, suc, ◌+◌, ◌-◌, ◌*◌, ◌≤◌, ◌<◌}
use native.Mathlib.Nat.{suc-add}
use native.Mathlib.Numerals.{add-one}
use native.Mathlib.Omega.{arith}
use mathlib.Core.Path.{◌≡◌, refl, ap, sym, ◌∙◌}
use mathlib.Core.List.{List, [], ◌∷◌, ◌++◌, append_assoc, append-nil, map}
use lib.ListN.{length, get_or, drop, length-append, length-drop}
use lib.Seq.{drop-cons, drop-drop, drop-append_seam}
use Rattle.book.specs.Syntax.{Symbol, con, fun, Term, Terms, app, slot, fresh, done, arg, con_arities}
use Rattle.book.specs.Accepted.{count, records, records_of, FineTerm, FineTerms}
use Rattle.heap.specs.Build.{up_from}
use Rattle.engine.specs.Code.{Instr, make_term, store_var, encode, emit}
use Rattle.engine.specs.Compile.{Positions, of_term, of_terms}
use Rattle.compiler.specs.declared.Lore.{Lore}
use Rattle.compiler.specs.Records.{a_symbol, bytes_of, bytes, term_recs, terms_recs}
use Rattle.compiler.specs.Rows.{Rows, num_code, back, vars_code, args_at}
use Rattle.compiler.specs.Here.{TermHere}
use Rattle.compiler.proofs.Bytes.{bytes-append}
use Rattle.compiler.proofs.Loops.{args-con, args-fun, args_none, code-con, code-fun, code-fresh, code-slot}

-- what stands at a place: some bytes, one by one
pub record Two (s : List ℕ) (k a b : ℕ) (l : List ℕ) : Type 0 where
  pub first : get_or s k 0 ≡ a
  pub second : get_or s (k + 1) 0 ≡ b
  pub inside : k + 2 ≤ length s
  pub rest : drop (k + 2) s ≡ l

pub head-is : (s : List ℕ) (k a : ℕ) (l : List ℕ) → drop k s ≡ a ∷ l → (get_or s k 0 ≡ a) × (k + 1 ≤ length s) × (drop (k + 1) s ≡ l)
head-is s k a l h =
    let n = ap length h in
    let m = length-drop k s in
    let p : k < length s = omega arith in
    let q = drop-cons s k 0 p in
    let r : get_or s k 0 ∷ drop (suc k) s ≡ a ∷ l = sym q ∙ h in
    (cc, omega arith, rw (add-one k) (cc))

pub two-are : (s : List ℕ) (k a b : ℕ) (l : List ℕ) → drop k s ≡ a ∷ b ∷ l → Two s k a b l
two-are s k a b l h =
    let p = head-is s k a (b ∷ l) h in
    let q = head-is s (k + 1) b l p.2 in
    let e : k + 2 ≡ k + 1 + 1 = omega arith in
    record { first = p.0; second = q.0; inside = omega (arith, q.1); rest = rw e q.2 }

-- behind bytes that stand there
pub skipped : (s : List ℕ) (k : ℕ) (x y : List ℕ) → drop k s ≡ x ++ y → drop (k + length x) s ≡ y
skipped s k x y h = sym (drop-drop (length x) k s) ∙ rw h (drop-append_seam x y)

-- arguments before others
unfoldable onto : Terms → Terms → Terms
onto done us = us
onto (arg t ts) us = arg t (onto ts us)

onto-bytes : (ts us : Terms) → bytes (terms_recs (onto ts us)) ≡ bytes (terms_recs ts) ++ bytes (terms_recs us)
unfolding onto
onto-bytes done us = refl
onto-bytes (arg t ts) us =
    rw (bytes-append (term_recs t) (terms_recs (onto ts us)), bytes-append (term_recs t) (terms_recs ts), append_assoc (bytes (term_recs t)) (bytes (terms_recs ts)) (bytes (terms_recs us)), onto-bytes ts us)

onto-records : (ts us : Terms) → records_of (onto ts us) ≡ records_of ts + records_of us
unfolding onto
onto-records done us = omega arith
onto-records (arg t ts) us = let h = onto-records ts us in omega arith

onto-count : (ts us : Terms) → count (onto ts us) ≡ count ts + count us
unfolding onto
onto-count done us = omega arith
onto-count (arg t ts) us = let h = onto-count ts us in omega arith

onto-fine : (cons funcs : List ℕ) (slots vars : ℕ) (ts us : Terms) → FineTerms cons funcs slots vars ts → FineTerms cons funcs slots vars us → FineTerms cons funcs slots vars (onto ts us)
unfolding onto
onto-fine cons funcs slots vars done us f g = g
onto-fine cons funcs slots vars (arg t ts) us f g = (f.0, onto-fine cons funcs slots vars ts us f.1 g)

-- a record of a term has two bytes
mutual
  pub term-long : (t : Term) → length (bytes (term_recs t)) ≡ 2 * records t
  term-long (app (con c) ts) = let h = terms-long ts in omega arith
  term-long (app (fun f) ts) = let h = terms-long ts in omega arith
  term-long (slot i) = refl
  term-long (fresh i) = refl

  pub terms-long : (ts : Terms) → length (bytes (terms_recs ts)) ≡ 2 * records_of ts
  terms-long done = refl
  terms-long (arg t ts) =
      let h = term-long t in
      let i = terms-long ts in
      rw (bytes-append (term_recs t) (terms_recs ts)) (omega (arith, length-append (bytes (term_recs t)) (bytes (terms_recs ts))))

some-record : (t : Term) → 1 ≤ records t
some-record (app f ts) = omega arith
some-record (slot i) = omega arith
some-record (fresh i) = omega arith

count-records : (ts : Terms) → count ts ≤ records_of ts
count-records done = omega arith
count-records (arg t ts) = let h = count-records ts in let i = some-record t in omega arith

-- the terms that are still due at a place, and how many records they have
pub record Due (s : List ℕ) (lore : Lore) (k : ℕ) (x : TermHere s lore k) (at due n : ℕ) : Type 0 where
  pub terms : Terms
  pub is : drop at s ≡ bytes (terms_recs terms) ++ x.rest
  pub fine : FineTerms (con_arities x.types) x.funcs x.slots x.vars terms
  pub count : count terms ≡ due
  pub total : n + records_of terms ≡ records x.term

module _ {s : List ℕ} {lore : Lore} {k : ℕ} (x : TermHere s lore k) where
  pub due-start : Due s lore k x k 1 0
  due-start = record {
    terms = arg x.term done;
    is = x.is ∙ rw (bytes-append (term_recs x.term) [], append-nil (bytes (term_recs x.term)));
    fine = (x.fine, tt);
    count = refl;
    total = omega arith;
  }

  pub term-inside : k + 2 * records x.term ≤ length s
  term-inside =
      let a = ap length x.is in
      let b = length-append (bytes (term_recs x.term)) x.rest in
      let c = length-drop k s in
      let d = term-long x.term in
      let e = some-record x.term in
      omega arith

  module _ {at due n : ℕ} (d : Due s lore k x at due n) where
    pub due-small : due + n ≤ length s
    due-small = let a = count-records d.terms in let b = term-inside in omega (arith, d.total, d.count)

    pub due-none : due ≤ 0 → n ≡ records x.term
    due-none h = go d.terms d.count d.total
      where
        go : (ts : Terms) → count ts ≡ due → n + records_of ts ≡ records x.term → n ≡ records x.term
        go done p q = omega arith
        go (arg t ts) p q = absurd (omega arith)

    -- one record on
    pub record Goes : Type 0 where
      pub inside : at + 2 ≤ length s
      pub next : Due s lore k x (at + 2) (due - 1 + args_at lore (get_or s at 0) (get_or s (at + 1) 0)) (n + 1)

    abbrev Fine : Terms → Type 0
    Fine ts = FineTerms (con_arities x.types) x.funcs x.slots x.vars ts

    pub due-goes : 0 < due → Goes
    due-goes h = go d.terms d.is d.fine d.count d.total
      where
        alone : (a b : ℕ) (ts : Terms) → drop at s ≡ a ∷ b ∷ bytes (terms_recs ts) ++ x.rest → args_at lore a b ≡ 0 → Fine ts → suc (count ts) ≡ due → n + (1 + records_of ts) ≡ records x.term → Goes
        alone a b ts p q f u v =
            let w = two-are s at a b (bytes (terms_recs ts) ++ x.rest) p in
            let z : args_at lore (get_or s at 0) (get_or s (at + 1) 0) ≡ 0 = rw (w.first, w.second) q in
            record { inside = w.inside; next = record { terms = ts; is = w.rest; fine = f; count = rw z (omega arith); total = omega arith } }

        applied : (a b : ℕ) (us ts : Terms) → drop at s ≡ a ∷ b ∷ bytes (terms_recs (onto us ts)) ++ x.rest → args_at lore a b ≡ count us → Fine us → Fine ts → suc (count ts) ≡ due → n + (suc (records_of us) + records_of ts) ≡ records x.term → Goes
        applied a b us ts p q e f u v =
            let w = two-are s at a b (bytes (terms_recs (onto us ts)) ++ x.rest) p in
            let z : args_at lore (get_or s at 0) (get_or s (at + 1) 0) ≡ count us = rw (w.first, w.second) q in
            let m = onto-count us ts in
            let o = onto-records us ts in
            record { inside = w.inside; next = record { terms = onto us ts; is = w.rest; fine = onto-fine _ _ _ _ us ts e f; count = rw z (omega arith); total = omega arith } }

        joins : (f : Symbol) (us ts : Terms) → bytes (terms_recs (arg (app f us) ts)) ≡ bytes_of (a_symbol f) ++ bytes (terms_recs (onto us ts))
        joins (con c) us ts = rw (bytes-append (terms_recs us) (terms_recs ts), onto-bytes us ts)
        joins (fun c) us ts = rw (bytes-append (terms_recs us) (terms_recs ts), onto-bytes us ts)

        go : (ts : Terms) → drop at s ≡ bytes (terms_recs ts) ++ x.rest → Fine ts → count ts ≡ due → n + records_of ts ≡ records x.term → Goes
        go done p f u v = absurd (omega arith)
        go (arg (app (con c) us) ts) p f u v =
            applied 7 c us ts (p ∙ ap (λ (l : List ℕ). l ++ x.rest) (joins (con c) us ts)) (args-con lore c ∙ x.told.con_ars c f.0.0 ∙ sym f.0.1) f.0.2 f.1 u v
        go (arg (app (fun c) us) ts) p f u v =
            applied 8 c us ts (p ∙ ap (λ (l : List ℕ). l ++ x.rest) (joins (fun c) us ts)) (args-fun lore c ∙ x.told.fun_ars c f.0.0 ∙ sym f.0.1) f.0.2 f.1 u v
        go (arg (slot i) ts) p f u v = alone 9 i ts p (args_none lore i 9 (λ z. omega arith) (λ z. omega arith)) f.1 u v
        go (arg (fresh i) ts) p f u v = alone 10 i ts p (args_none lore i 10 (λ z. omega arith) (λ z. omega arith)) f.1 u v

pub emit-append : (a b : List Instr) → emit (a ++ b) ≡ emit a ++ emit b
unfolding emit
emit-append [] b = refl
emit-append (i ∷ a) b = rw (emit-append a b, append_assoc (encode i) (emit a) (emit b))

back-add : (rows s : List ℕ) (k n m : ℕ) → back rows s k (n + m) ≡ back rows s (k + 2 * n) m ++ back rows s k n
unfolding back
back-add rows s k zero m =
    let e : zero + m ≡ m = omega arith in
    let f : k + 2 * zero ≡ k = omega arith in
    rw (e, f, append-nil)
back-add rows s k (suc n) m =
    let f : k + 2 + 2 * n ≡ k + 2 * suc n = omega arith in
    let h = rw f at (back-add rows s (k + 2) n m) in
    ap (back rows s k) (suc-add n m)
    ∙ ap (λ (l : List ℕ). l ++ num_code rows (get_or s k 0) (get_or s (k + 1) 0)) h
    ∙ append_assoc (back rows s (k + 2 * suc n) m) (back rows s (k + 2) n) (num_code rows (get_or s k 0) (get_or s (k + 1) 0))

module _ (rows : List ℕ) (pos : Positions) (are : Rows rows pos) (s cons funcs : List ℕ) (vars : ℕ) where
  mutual
    unfolding back of_term of_terms emit encode

    -- A term's code is that of its records, the last one's first.
    pub term-code : (t : Term) (k : ℕ) (rest : List ℕ) → drop k s ≡ bytes (term_recs t) ++ rest → FineTerm cons funcs (length pos) vars t → back rows s k (records t) ≡ emit (of_term pos t)
    term-code (app (con c) ts) k rest h f =
        let w = two-are s k 7 c (bytes (terms_recs ts) ++ rest) h in
        rw (w.first, w.second, code-con rows c, terms-code ts (k + 2) rest w.rest f.2, emit-append (of_terms pos ts) (make_term (con c) ∷ []))
    term-code (app (fun c) ts) k rest h f =
        let w = two-are s k 8 c (bytes (terms_recs ts) ++ rest) h in
        rw (w.first, w.second, code-fun rows c, terms-code ts (k + 2) rest w.rest f.2, emit-append (of_terms pos ts) (make_term (fun c) ∷ []))
    term-code (slot i) k rest h f =
        let w = two-are s k 9 i rest h in
        rw (w.first, w.second, code-slot rows i 9 (λ z. omega arith) (λ z. omega arith) (λ z. omega arith), are.are i f)
    term-code (fresh i) k rest h f =
        let w = two-are s k 10 i rest h in
        rw (w.first, w.second, code-fresh rows i)

    terms-code : (ts : Terms) (k : ℕ) (rest : List ℕ) → drop k s ≡ bytes (terms_recs ts) ++ rest → FineTerms cons funcs (length pos) vars ts → back rows s k (records_of ts) ≡ emit (of_terms pos ts)
    terms-code done k rest h f = refl
    terms-code (arg t ts) k rest h f =
        let h' : drop k s ≡ bytes (term_recs t) ++ (bytes (terms_recs ts) ++ rest) = h ∙ rw (bytes-append (term_recs t) (terms_recs ts), append_assoc (bytes (term_recs t)) (bytes (terms_recs ts)) rest) in
        let g = skipped s k (bytes (term_recs t)) (bytes (terms_recs ts) ++ rest) h' in
        let g' = rw (term-long t) at g in
        back-add rows s k (records t) (records_of ts)
        ∙ rw (term-code t k (bytes (terms_recs ts) ++ rest) h' f.0, terms-code ts (k + 2 * records t) rest g' f.1, emit-append (of_terms pos ts) (of_term pos t))

up-snoc : (a n : ℕ) → up_from a (suc n) ≡ up_from a n ++ (a + n) ∷ []
unfolding up_from
up-snoc a zero = let e : a + zero ≡ a = omega arith in rw e
up-snoc a (suc n) = let e : a + suc n ≡ suc a + n = omega arith in rw e (ap (λ (l : List ℕ). a ∷ l) (up-snoc (suc a) n))

store-snoc : (l : List ℕ) (x : ℕ) → emit (map store_var (l ++ x ∷ [])) ≡ emit (map store_var l) ++ 0x36 ∷ x ∷ []
unfolding emit encode
store-snoc [] x = refl
store-snoc (y ∷ l) x = ap (λ (l : List ℕ). 0x36 ∷ y ∷ l) (store-snoc l x)

up-last : (n : ℕ) → up_from 0 (suc n) ≡ up_from 0 n ++ n ∷ []
up-last n = let e : 0 + n ≡ n = omega arith in rw e at (up-snoc 0 n)

none-emit : vars_code 0 ≡ emit (map store_var (up_from 0 0))
unfolding vars_code up_from emit
none-emit = refl

more-emit : (n : ℕ) → vars_code n ≡ emit (map store_var (up_from 0 n)) → vars_code (suc n) ≡ emit (map store_var (up_from 0 n ++ n ∷ []))
unfolding vars_code
more-emit n h = rw h (sym (store-snoc (up_from 0 n) n))

pub vars-emit : (n : ℕ) → vars_code n ≡ emit (map store_var (up_from 0 n))
vars-emit zero = none-emit
vars-emit (suc n) = more-emit n (vars-emit n) ∙ ap (λ (l : List ℕ). emit (map store_var l)) (sym (up-last n))
