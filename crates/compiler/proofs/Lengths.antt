-- How long the code is: each record of the book brings its own bytes of it.
use Prim.Native.Nat.{ℕ, suc, ◌+◌, ◌*◌, ◌<◌}
use native.Mathlib.Nat.{zero-add}
use native.Mathlib.Omega.{arith}
use mathlib.Core.Path.{◌≡◌, refl, ap, sym, ◌∙◌}
use mathlib.Core.List.{List, [], ◌∷◌, ◌++◌, map}
use mathlib.Core.Bool.{Bool, true, false}
use lib.ListN.{length, get_or, drop, length-append}
use lib.Dec.{eqb}
use Rattle.book.specs.Syntax.{con, fun, Term, Terms, app, slot, fresh, done, arg, Right, Tree, Trees, split, rule, norule, stop, child, Func, arity, Book, cons_of, first_con}
use Rattle.book.specs.Accepted.{FineTree, FineTrees, FineFunc, FineBook}
use Rattle.engine.specs.Code.{Instr, emit, encode, make_term}
use Rattle.engine.specs.Compile.{Positions, of_term, of_terms, of_rights, of_tree, of_trees, of_funcs, of_instances, below, flat, compile}
use Rattle.heap.specs.Build.{up_from}
use Rattle.compiler.specs.Records.{Rcd, a_cons, a_rule, term_recs, terms_recs, rights_recs, tree_recs, trees_recs, funcs_recs, types_recs, book_recs, arm_cost, cost, costs}
use Rattle.compiler.specs.Rows.{arm_code, vars_code, load_body}
use Rattle.compiler.proofs.Loops.{vars-long, instance-long}
use Rattle.compiler.proofs.Terms.{emit-append}
use Rattle.compiler.proofs.Trees.{ending, rule-emit}
use Rattle.compiler.proofs.Rights.{right-emit, no-rights}
use Rattle.compiler.proofs.Splits.{arm-emit, load-long, split-long, four-long, trees-long}

costs-append : (types : List (List ℕ)) (a b : List Rcd) → costs types (a ++ b) ≡ costs types a + costs types b
costs-append types [] b = sym (zero-add (costs types b))
costs-append types (r ∷ a) b = let h = costs-append types a b in omega arith

pub arm-cost : (c : ℕ) (l : List ℕ) → length (arm_code c l) ≡ arm_cost l
unfolding arm_code
arm-cost c [] = refl
arm-cost c (a ∷ l) = let h = arm-cost (suc c) l in instance-long a 0x35 (0x38 ∷ 0 ∷ c ∷ arm_code (suc c) l) ∙ omega arith

module _ (types : List (List ℕ)) where
  mutual
    unfolding of_term of_terms cost emit encode

    term-cost : (pos : Positions) (t : Term) → length (emit (of_term pos t)) ≡ costs types (term_recs t)
    term-cost pos (app (con c) ts) = let h = terms-cost pos ts in rw (emit-append (of_terms pos ts) (make_term (con c) ∷ [])) (length-append (emit (of_terms pos ts)) (0x38 ∷ 0 ∷ c ∷ []) ∙ omega arith)
    term-cost pos (app (fun c) ts) = let h = terms-cost pos ts in rw (emit-append (of_terms pos ts) (make_term (fun c) ∷ [])) (length-append (emit (of_terms pos ts)) (0x38 ∷ 1 ∷ c ∷ []) ∙ omega arith)
    term-cost pos (slot i) = ap suc (length-append (load_body (get_or pos i [])) (0x33 ∷ []) ∙ rw (load-long (get_or pos i [])))
    term-cost pos (fresh i) = refl

    terms-cost : (pos : Positions) (ts : Terms) → length (emit (of_terms pos ts)) ≡ costs types (terms_recs ts)
    terms-cost pos done = refl
    terms-cost pos (arg t ts) =
        let h = term-cost pos t in
        let i = terms-cost pos ts in
        rw (emit-append (of_terms pos ts) (of_term pos t)) (length-append (emit (of_terms pos ts)) (emit (of_term pos t)) ∙ omega (arith, costs-append types (term_recs t) (terms_recs ts)))

  rights-cost : (pos : Positions) (rs : List Right) → length (emit (of_rights pos rs)) ≡ costs types (rights_recs rs)
  unfolding cost
  rights-cost pos [] = ap length (no-rights pos)
  rights-cost pos (r ∷ rs) =
      let h = rights-cost pos rs in
      let i = term-cost pos r.term in
      ap length (right-emit pos r rs)
      ∙ omega (arith, length-append (vars_code r.vars) (emit (of_term pos r.term) ++ emit (of_rights pos rs)), length-append (emit (of_term pos r.term)) (emit (of_rights pos rs)), vars-long r.vars, costs-append types (term_recs r.term) (rights_recs rs))

  ending-cost : (n : ℕ) → length (ending n) ≡ cost types (a_rule n)
  unfolding ending cost
  ending-cost n = go (eqb n 1) refl
    where
      go : (b : Bool) → eqb n 1 ≡ b → length (ending n) ≡ cost types (a_rule n)
      go true e = rw (e, ending, cost)
      go false e = rw (e, ending, cost)

  module _ (funcs : List ℕ) where
    mutual
      unfolding of_tree of_trees cost flat emit encode

      tree-cost : (slots : List ℕ) (t : Tree) → FineTree types funcs slots t → (pos : Positions) (at : ℕ) → length (emit (of_tree types t pos at)) ≡ costs types (tree_recs t)
      tree-cost slots (split i t ts) f pos at =
          let m = trees-long types funcs slots i ts (cons_of types t) pos i (at + 12 + 5 * suc (length (cons_of types t)) + length (emit (of_instances (first_con types t) (cons_of types t)))) (cons_of types t) f.3 in
          let h = trees-cost slots i ts (cons_of types t) f.3 pos i (at + 12 + 5 * suc (length (cons_of types t)) + length (emit (of_instances (first_con types t) (cons_of types t)))) (cons_of types t) in
          let a = ap length (arm-emit (first_con types t) (cons_of types t)) in
          let b = arm-cost (first_con types t) (cons_of types t) in
          split-long types i t ts pos at (four-long _) m ∙ omega arith
      tree-cost slots (rule rs) f pos at = ap length (rule-emit pos rs) ∙ omega (arith, length-append (emit (of_rights pos rs)) (ending (length rs)), rights-cost pos rs, ending-cost (length rs))
      tree-cost slots norule f pos at = refl

      trees-cost : (slots : List ℕ) (s : ℕ) (ts : Trees) (l : List ℕ) → FineTrees types funcs slots s ts l → (pos : Positions) (i at : ℕ) (arities : List ℕ) → length (emit (flat (of_trees types ts arities pos i at))) ≡ costs types (trees_recs ts)
      trees-cost slots s stop l f pos i at arities = refl
      trees-cost slots s (child t ts) [] f pos i at arities = absurd f
      trees-cost slots s (child t ts) (a ∷ l) f pos i at arities =
          let b : List Instr = of_tree types t (below pos i (get_or arities 0 0)) at in
          let h = tree-cost _ t f.0 (below pos i (get_or arities 0 0)) at in
          let k = trees-cost slots s ts l f.1 pos i (at + length (emit b)) (drop 1 arities) in
          ap length (emit-append b (flat (of_trees types ts (drop 1 arities) pos i (at + length (emit b)))))
          ∙ omega (arith, length-append (emit b) (emit (flat (of_trees types ts (drop 1 arities) pos i (at + length (emit b))))), costs-append types (tree_recs t) (trees_recs ts))

types-cost : (types ts : List (List ℕ)) → costs types (types_recs ts) ≡ 0
unfolding cost
types-cost types [] = refl
types-cost types (cs ∷ ts) = let h = types-cost types ts in let i = cons-cost cs in omega (arith, costs-append types (map a_cons cs) (types_recs ts))
  where
    cons-cost : (cs : List ℕ) → costs types (map a_cons cs) ≡ 0
    cons-cost [] = refl
    cons-cost (c ∷ cs) = let h = cons-cost cs in omega arith

abbrev pub FineAll : List (List ℕ) → List ℕ → List Func → Type 0
FineAll types funcs [] = Unit
FineAll types funcs (f ∷ fs) = FineFunc types funcs f × FineAll types funcs fs

funcs-cost : (types : List (List ℕ)) (funcs : List ℕ) (fs : List Func) → FineAll types funcs fs → (at : ℕ) → length (emit (flat (of_funcs types fs at))) ≡ costs types (funcs_recs fs)
unfolding of_funcs flat cost emit
funcs-cost types funcs [] g at = refl
funcs-cost types funcs (f ∷ fs) g at =
    let b : List Instr = of_tree types f.tree (map (λ i. i ∷ []) (up_from 1 f.arity)) at in
    let h = tree-cost types funcs _ f.tree g.0.1 (map (λ i. i ∷ []) (up_from 1 f.arity)) at in
    let k = funcs-cost types funcs fs g.1 (at + length (emit b)) in
    ap length (emit-append b (flat (of_funcs types fs (at + length (emit b)))))
    ∙ omega (arith, length-append (emit b) (emit (flat (of_funcs types fs (at + length (emit b))))), costs-append types (tree_recs f.tree) (funcs_recs fs))

pub fine-all : (types : List (List ℕ)) (funcs : List ℕ) (fs : List Func) → ((f : ℕ) (other : Func) → f < length fs → FineFunc types funcs (get_or fs f other)) → FineAll types funcs fs
fine-all types funcs [] h = tt
fine-all types funcs (f ∷ fs) h = (h 0 f (omega arith), fine-all types funcs fs (λ g other p. h (suc g) other (omega arith)))

pub code-cost : (book : Book) → FineBook book → length (compile book).code ≡ costs book.types (book_recs book)
unfolding compile
code-cost book f =
    funcs-cost book.types (map arity book.funcs) book.funcs (fine-all book.types (map arity book.funcs) book.funcs f.funcs) 0
    ∙ omega (arith, costs-append book.types (types_recs book.types) (funcs_recs book.funcs), types-cost book.types book.types)
