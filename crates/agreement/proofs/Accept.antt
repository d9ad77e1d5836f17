-- What an accepted book is like (book, Accepted), as the agreement needs it: over the compiled program, and with positions where the reading keeps their lengths.
-- Assumes nothing.
use Prim.Native.Nat.{ℕ, suc, ◌+◌, ◌≤◌, ◌<◌, ◌^◌}
use native.Mathlib.Nat.{not-suc-le-zero}
use native.Mathlib.Decide.{ℕ_discrete, dec_lt}
use native.Mathlib.Omega.{arith}
use mathlib.Core.Path.{◌≡◌, sym, ap, ◌∙◌}
use mathlib.Core.Logic.{◌⊎◌, inl, inr}
use mathlib.Core.List.{List, [], ◌∷◌, ◌++◌, map}
use lib.ListN.{length, get_or, set, replicate, length-append, length-set, length-replicate, get_or-replicate, get_or-append, get_or-eq_default}
use lib.Seq.{get_or-append-add, get_or-set_same, get_or-set_other}
use Rattle.book.specs.Syntax.{con, fun, Term, Terms, app, slot, fresh, done, arg, Right, Tree, Trees, split, rule, norule, stop, child, arity, Book, con_arities, cons_of}
use Rattle.book.specs.Reading.{under}
use Rattle.book.specs.Accepted as A
use Rattle.engine.specs.Compile.{Program, Positions, below, compile}
use Rattle.engine.specs.Machine.{arity_of}
use Rattle.engine.specs.Plain.{no_func}
use Rattle.agreement.proofs.Arms.{cases}
use Rattle.agreement.proofs.Calls.{arg_positions, arg-at, args-length, FineBook}
use Rattle.agreement.proofs.Trees.{below_length, below-low, below-high}
use Rattle.agreement.proofs.Fine.{FineTerm, FineTerms, FineRights, Some, FineTree, FineTrees}

module _ (m : Program) (n v : ℕ) where
  mutual
    unfolding arity_of

    -- a term, over the program
    pub term-fine : (t : Term) → A.FineTerm (con_arities m.types) m.arities n v t → FineTerm m n v t
    term-fine (app (con c) ts) (k, e, f) = (k, e, terms-fine ts f)
    term-fine (app (fun g) ts) (k, e, f) = (k, e, terms-fine ts f)
    term-fine (slot i) f = f
    term-fine (fresh i) f = f

    terms-fine : (ts : Terms) → A.FineTerms (con_arities m.types) m.arities n v ts → FineTerms m n v ts
    terms-fine done f = tt
    terms-fine (arg t ts) (f, g) = (term-fine t f, terms-fine ts g)

-- slots and positions side by side: the length of each that is not split
pub record Match (slots : List ℕ) (pos : Positions) : Type 0 where
  pub same : length slots ≡ length pos
  pub deep : (i : ℕ) → get_or slots i 8 < 8 → length (get_or pos i []) ≡ get_or slots i 8

match-args : (a : ℕ) → Match (replicate a 1) (arg_positions a)
match-args a = record { same = length-replicate a 1 ∙ sym (args-length a); deep = λ i h. go i h (dec_lt i a) }
  where
    go : (i : ℕ) → get_or (replicate a 1) i 8 < 8 → Dec (i < a) → length (get_or (arg_positions a) i []) ≡ get_or (replicate a 1) i 8
    go i h (yes p) = rw (arg-at a i p, get_or-replicate {A = ℕ} a i 1 8 p)
    go i h (no p) = let z : ◌≡◌ {A = ℕ} (get_or (replicate a 1) i 8) 8 = get_or-eq_default (replicate a 1) 8 (rw (length-replicate {A = ℕ} a 1) (omega arith)) in absurd (omega arith)

-- they stay so under a SPLIT
match-under : (slots : List ℕ) (pos : Positions) (s a : ℕ) → Match slots pos → s < length slots → get_or slots s 8 < 8 → Match (under slots s a) (below pos s a)
unfolding under
match-under slots pos s a M p d = record {
  same = rw (long, below_length pos s a, M.same);
  deep = λ i h. go i h (cases (length slots) i);
}
  where
    new : List ℕ
    new = replicate a (get_or slots s 8 + 1)

    long : length (set slots s 8 ++ new) ≡ length slots + a
    long = rw (length-append (set slots s 8) new, length-set slots s 8, length-replicate a (get_or slots s 8 + 1))

    old : (i : ℕ) → i < length slots → get_or (set slots s 8) i 8 < 8 → Dec (i ≡ s) → length (get_or pos i []) ≡ get_or (set slots s 8) i 8
    old i l h (yes e) = let z : get_or (set slots s 8) i 8 ≡ 8 = rw e (get_or-set_same slots s 8 8 p) in absurd (omega arith)
    old i l h (no n) = let z : get_or (set slots s 8) i 8 ≡ get_or slots i 8 = get_or-set_other slots s i 8 8 n in rw z (M.deep i (rw z at h))

    fresh-slot : (q : ℕ) → get_or new q 8 < 8 → Dec (q < a) → length (get_or (below pos s a) (length pos + q) []) ≡ get_or new q 8
    fresh-slot q h (yes l) = rw (below-high pos s a q l, length-append (get_or pos s []) (suc q ∷ []), M.deep s d, get_or-replicate a q (get_or slots s 8 + 1) 8 l)
    fresh-slot q h (no l) = let z : get_or new q 8 ≡ 8 = get_or-eq_default new 8 (rw (length-replicate a (get_or slots s 8 + 1)) (omega arith)) in absurd (omega arith)

    go : (i : ℕ) → get_or (set slots s 8 ++ new) i 8 < 8 → (i < length slots) ⊎ ((q : ℕ) × (i ≡ length slots + q)) → length (get_or (below pos s a) i []) ≡ get_or (set slots s 8 ++ new) i 8
    go i h (inl l) =
        let z : get_or (set slots s 8 ++ new) i 8 ≡ get_or (set slots s 8) i 8 = get_or-append (set slots s 8) new 8 i (rw (length-set slots s 8) l) in
        rw (below-low pos s a i (rw M.same at l), z) (old i l (rw z at h) (ℕ_discrete i s))
    go i h (inr (q, e)) =
        let z : get_or (set slots s 8 ++ new) (length slots + q) 8 ≡ get_or new q 8 = ap (λ (k : ℕ). get_or (set slots s 8 ++ new) (k + q) 8) (sym (length-set slots s 8)) ∙ get_or-append-add (set slots s 8) new q 8 in
        rw (e, z, M.same) (fresh-slot q (rw (e, z) at h) (dec_lt q a))

module _ (m : Program) where
  rights-fine : (n : ℕ) (rs : List Right) → A.FineRights (con_arities m.types) m.arities n rs → FineRights m n rs
  rights-fine n [] f = tt
  rights-fine n (r ∷ rs) ((v, f, l), g) = (term-fine m n r.vars r.term f, rights-fine n rs g)

  some_of : (rs : List Right) → 1 ≤ length rs → Some rs
  some_of [] p = absurd (not-suc-le-zero p)
  some_of (r ∷ rs) p = tt

  mutual
    -- a tree, over the program and the positions of its slots
    tree-fine : (t : Tree) (slots : List ℕ) (pos : Positions) → Match slots pos → A.FineTree m.types m.arities slots t → FineTree m pos t
    tree-fine (split s t ts) slots pos M (p, d, k, f, w) =
        (rw M.same at p, rw (M.deep s d) d, trees-fine ts slots pos s (cons_of m.types t) (λ a. match-under slots pos s a M p d) f)
    tree-fine (rule rs) slots pos M (p, q, f) = (some_of rs p, rights-fine (length pos) rs (rw M.same at f))
    tree-fine norule slots pos M f = tt

    trees-fine : (ts : Trees) (slots : List ℕ) (pos : Positions) (s : ℕ) (arities : List ℕ) → ((a : ℕ) → Match (under slots s a) (below pos s a)) → A.FineTrees m.types m.arities slots s ts arities → FineTrees m pos s ts arities
    trees-fine stop slots pos s [] M f = tt
    trees-fine stop slots pos s (a ∷ more) M f = absurd f
    trees-fine (child t ts) slots pos s [] M f = absurd f
    trees-fine (child t ts) slots pos s (a ∷ more) M (f, g) = (tree-fine t (under slots s a) (below pos s a) (M a) f, trees-fine ts slots pos s more M g)

-- an accepted book whose code is not too long for a GO
pub fine_of : (book : Book) → A.FineBook book → length (compile book).code < 2 ^ 32 → FineBook book
unfolding compile
fine_of book B small = record {
  trees = λ f p. tree-fine (compile book) (get_or book.funcs f no_func).tree (replicate (get_or book.funcs f no_func).arity 1) (arg_positions (get_or book.funcs f no_func).arity) (match-args (get_or book.funcs f no_func).arity) (B.funcs f no_func p).1;
  small = small;
}

-- an accepted question
pub question-of : (book : Book) (q : Right) → A.FineTerm (con_arities book.types) (map arity book.funcs) 0 q.vars q.term → FineTerm (compile book) 0 q.vars q.term
unfolding compile
question-of book q f = term-fine (compile book) 0 q.vars q.term f
