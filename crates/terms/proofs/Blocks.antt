-- The code of terms, of RIGHTs and of a variable's arm has room on the pre-term stack.
-- Here, in order: the first of some instructions; FAIL; terms; RIGHTs and a RULE; a variable's arm.
-- Assumes nothing.
use Prim.Native.Nat.{ℕ, zero, suc, ◌+◌, ◌-◌, ◌≤◌, ◌<◌}
use native.Mathlib.Omega.{arith}
use mathlib.Core.Path.{◌≡◌, refl}
use mathlib.Core.List.{List, [], ◌∷◌, ◌++◌, append_assoc, map}
use lib.ListN.{length, get_or, replicate}
use Rattle.book.specs.Syntax.{Symbol, con, Term, Terms, app, slot, fresh, done, arg, Right, con_arities}
use Rattle.book.specs.Accepted as A
use Rattle.heap.specs.Build.{up_from}
use Rattle.engine.specs.Code.{Instr, load, branch, go, push, pop, make_anon, store_var, make_var, make_term, replace, narrow, choice, fail, wrong, encode, emit, decode, width}
use Rattle.engine.specs.Compile.{Program, Positions, of_term, of_terms, of_right, of_rights, of_rule, of_instances}
use Rattle.engine.specs.Machine.{arity_of}
use Rattle.agreement.proofs.Fine.{FineTerm, FineTerms}
use Rattle.agreement.proofs.Accept.{term-fine}
use Rattle.agreement.proofs.Decoding.{Writable, decode-encode, drop-encode}
use Rattle.agreement.proofs.Simulate.{code-append}
use Rattle.agreement.proofs.Rights.{Arities}
use Rattle.terms.specs.Depth.{term_bound, Fit, Fits, Runs}

module _ (m : Program) where
  -- room with any bound is room with each
  at_bound : (i : Instr) (I : List ℕ) (t n : ℕ) → Fit m i (λ I' t'. Runs m I' t') I t → Fit m i (λ I' t'. Fits m n I' t') I t
  unfolding Fit
  at_bound (load p) I t n f = f n
  at_bound (branch y) I t n f = (f.0 n, λ j q. f.1 j q n)
  at_bound (go o) I t n f = tt
  at_bound push I t n f = (f.0, f.1 n)
  at_bound pop I t n f = f n
  at_bound make_anon I t n f = (f.0, f.1 n)
  at_bound (store_var v) I t n f = f n
  at_bound (make_var v) I t n f = (f.0, f.1 n)
  at_bound (make_term y) I t n f = λ q. ((f q).0, (f q).1 n)
  at_bound replace I t n f = tt
  at_bound narrow I t n f = tt
  at_bound choice I t n f = tt
  at_bound fail I t n f = tt
  at_bound wrong I t n f = tt

  -- an instruction at the front of the code
  runs-encode : (i : Instr) (I : List ℕ) (t : ℕ) → Writable i → Fit m i (λ I' t'. Runs m I' t') I t → Runs m (encode i ++ I) t
  unfolding Fits
  runs-encode i I t w f zero = tt
  runs-encode i I t w f (suc n) = rw (decode-encode i I w, drop-encode i I) (at_bound i I t n f)

  load_read : (p I : List ℕ) → (q : List ℕ) × (decode (encode (load p) ++ I) ≡ load q)
  unfolding decode encode
  load_read p I = (_, refl)

  -- a LOAD, whatever its position
  load-encode : (p I : List ℕ) (t : ℕ) → Runs m I t → Runs m (encode (load p) ++ I) t
  unfolding Fits Fit width
  load-encode p I t f zero = tt
  load-encode p I t f (suc n) = rw ((load_read p I).1, drop-encode (load p) I) (f n)

  -- the first of some instructions
  pub runs-next : (i : Instr) (more : List Instr) (I : List ℕ) (t : ℕ) → Writable i → Fit m i (λ I' t'. Runs m I' t') (emit more ++ I) t → Runs m (emit (i ∷ more) ++ I) t
  unfolding emit
  runs-next i more I t w f = rw (append_assoc (encode i) (emit more) I) (runs-encode i (emit more ++ I) t w f)

  pub runs-load : (p : List ℕ) (more : List Instr) (I : List ℕ) (t : ℕ) → Runs m (emit more ++ I) t → Runs m (emit (load p ∷ more) ++ I) t
  unfolding emit
  runs-load p more I t f = rw (append_assoc (encode (load p)) (emit more) I) (load-encode p (emit more ++ I) t f)

  runs-push : (more : List Instr) (I : List ℕ) (t : ℕ) → t < term_bound → Runs m (emit more ++ I) (suc t) → Runs m (emit (push ∷ more) ++ I) t
  runs-push more I t l f = runs-next push more I t tt (unfold Fit in (l, f))

  runs-var : (v : ℕ) (more : List Instr) (I : List ℕ) (t : ℕ) → t < term_bound → Runs m (emit more ++ I) (suc t) → Runs m (emit (make_var v ∷ more) ++ I) t
  runs-var v more I t l f = runs-next (make_var v) more I t tt (unfold Fit in (l, f))

  runs-anon : (more : List Instr) (I : List ℕ) (t : ℕ) → t < term_bound → Runs m (emit more ++ I) (suc t) → Runs m (emit (make_anon ∷ more) ++ I) t
  runs-anon more I t l f = runs-next make_anon more I t tt (unfold Fit in (l, f))

  -- a node over the entries that are its arguments
  runs-term : (y : Symbol) (more : List Instr) (I : List ℕ) (t d : ℕ) → t ≡ arity_of m y + d → d < term_bound → Runs m (emit more ++ I) (suc d) → Runs m (emit (make_term y ∷ more) ++ I) t
  unfolding Fit
  runs-term y more I t d e l f = let z : t - arity_of m y ≡ d = omega arith in runs-next (make_term y) more I t tt (λ q. (omega arith, rw z f))

  -- a FAIL
  pub fail-fits : (I : List ℕ) (t : ℕ) → Runs m (emit (fail ∷ []) ++ I) t
  fail-fits I t = runs-next fail [] I t tt (unfold Fit in tt)

  records-some : (t : Term) → 1 ≤ A.records t
  records-some (app s ts) = omega arith
  records-some (slot i) = omega arith
  records-some (fresh i) = omega arith

  count-few : (ts : Terms) → A.count ts ≤ A.records_of ts
  count-few done = omega arith
  count-few (arg t ts) = let h = count-few ts in let k = records-some t in omega arith

  module _ (pos : Positions) (slots vars : ℕ) where
    mutual
      unfolding of_term of_terms emit

      -- a term needs no more entries than it has records
      pub term_fits : (t : Term) → FineTerm m slots vars t → (I : List ℕ) (d : ℕ) → d + A.records t ≤ term_bound → Runs m I (suc d) → Runs m (emit (of_term pos t) ++ I) d
      term_fits (app s ts) (k, e, f) I d l r =
          rw (code-append (of_terms pos ts) (make_term s ∷ []) I)
          (terms-fit ts f (emit (make_term s ∷ []) ++ I) d (omega arith) (runs-term s [] I (A.count ts + d) d (rw e) (omega arith) r))
      term_fits (slot i) f I d l r = runs-load (get_or pos i []) (push ∷ []) I d (runs-push [] I d (omega arith) r)
      term_fits (fresh i) f I d l r = runs-var i [] I d (omega arith) r

      pub terms-fit : (ts : Terms) → FineTerms m slots vars ts → (I : List ℕ) (d : ℕ) → d + A.records_of ts ≤ term_bound → Runs m I (A.count ts + d) → Runs m (emit (of_terms pos ts) ++ I) d
      terms-fit done f I d l r = rw (native.Mathlib.Nat.zero-add d) at r
      terms-fit (arg t ts) (f, g) I d l r =
          let c = count-few ts in
          let z : suc (A.count ts) + d ≡ suc (A.count ts + d) = omega arith in
          rw (code-append (of_terms pos ts) (of_term pos t) I)
          (terms-fit ts g (emit (of_term pos t) ++ I) d (omega arith) (term_fits t f I (A.count ts + d) (omega arith) (rw z at r)))

  stores-fit : (vs : List ℕ) (I : List ℕ) (d : ℕ) → Runs m I d → Runs m (emit (map store_var vs) ++ I) d
  unfolding emit Fit
  stores-fit [] I d r = r
  stores-fit (v ∷ vs) I d r = runs-next (store_var v) (map store_var vs) I d tt (stores-fit vs I d r)

  module _ (pos : Positions) (slots : ℕ) where
    -- a RIGHT, above the terms of at most 15 others
    right-fits : (x : Right) → A.FineRight (con_arities m.types) m.arities slots x → (I : List ℕ) (d : ℕ) → d < 16 → Runs m I (suc d) → Runs m (emit (of_right pos x) ++ I) d
    unfolding of_right
    right-fits x (v, f, l) I d p r =
        rw (code-append (map store_var (up_from 0 x.vars)) (of_term pos x.term) I)
        (stores-fit (up_from 0 x.vars) (emit (of_term pos x.term) ++ I) d
        (term_fits pos slots x.vars x.term (term-fine m slots x.vars x.term f) I d (omega arith) r))

    rights-fit : (xs : List Right) → A.FineRights (con_arities m.types) m.arities slots xs → (I : List ℕ) (d : ℕ) → d + length xs ≤ 16 → Runs m I (length xs + d) → Runs m (emit (of_rights pos xs) ++ I) d
    unfolding of_rights emit
    rights-fit [] f I d p r = rw (native.Mathlib.Nat.zero-add d) at r
    rights-fit (x ∷ xs) (f, g) I d p r =
        let z : suc (length xs) + d ≡ length xs + suc d = omega arith in
        rw (code-append (of_right pos x) (of_rights pos xs) I)
        (right-fits x f (emit (of_rights pos xs) ++ I) d (omega arith) (rights-fit xs g I (suc d) (omega arith) (rw z at r)))

    -- a RULE
    pub rule_fits : (xs : List Right) → length xs ≤ 16 → A.FineRights (con_arities m.types) m.arities slots xs → (I : List ℕ) → Runs m (emit (of_rule pos xs) ++ I) 0
    unfolding of_rule
    rule_fits [] p f I = runs-next choice [] I 0 tt (unfold Fit in tt)
    rule_fits (x ∷ []) p (f, g) I =
        rw (code-append (of_right pos x) (pop ∷ replace ∷ []) I)
        (right-fits x f (emit (pop ∷ replace ∷ []) ++ I) 0 (omega arith)
        (runs-next pop (replace ∷ []) I 1 tt (unfold Fit in (runs-next replace [] I 0 tt tt))))
    rule_fits (x ∷ x' ∷ xs) p f I =
        rw (code-append (of_rights pos (x ∷ x' ∷ xs)) (choice ∷ []) I)
        (rights-fit (x ∷ x' ∷ xs) f (emit (choice ∷ []) ++ I) 0 (omega arith) (runs-next choice [] I (length (x ∷ x' ∷ xs) + 0) tt (unfold Fit in tt)))

  anons-fit : (a : ℕ) (I : List ℕ) (d : ℕ) → d + a ≤ term_bound → Runs m I (a + d) → Runs m (emit (replicate a make_anon) ++ I) d
  unfolding emit
  anons-fit zero I d p r = rw (native.Mathlib.Nat.zero-add d) at r
  anons-fit (suc a) I d p r =
      let z : suc a + d ≡ a + suc d = omega arith in
      runs-anon (replicate a make_anon) I d (omega arith) (anons-fit a I (suc d) (omega arith) (rw z at r))

  -- a variable's arm: a term for each of at most 32 constructors, each with at most 8 arguments
  pub instances-fit : ((c : ℕ) → get_or (con_arities m.types) c 0 ≤ 8) → (more : List ℕ) (c : ℕ) → Arities m c more → (I : List ℕ) (d : ℕ) → d + length more ≤ 32 → Runs m (emit (of_instances c more) ++ I) d
  unfolding of_instances arity_of
  instances-fit low [] c ar I d p = runs-next narrow [] I d tt (unfold Fit in tt)
  instances-fit low (a ∷ more) c (e, ar) I d p =
      let l = low c in
      rw (code-append (replicate a make_anon) (make_term (con c) ∷ of_instances (suc c) more) I)
      (anons-fit a (emit (make_term (con c) ∷ of_instances (suc c) more) ++ I) d (omega arith)
      (runs-term (con c) (of_instances (suc c) more) I (a + d) d (rw e) (omega arith) (instances-fit low more (suc c) ar I (suc d) (omega arith))))
