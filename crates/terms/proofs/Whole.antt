-- The code of each function of an accepted book has room on the pre-term stack, from an empty one.
-- Here, in order: a SPLIT; trees; where a function's code stands; a book.
-- Assumes nothing.
use Prim.Native.Nat.{ℕ, zero, suc, ◌+◌, ◌*◌, ◌≤◌, ◌<◌, ◌^◌}
use native.Mathlib.Nat.{le_of_suc-le-suc, not-suc-le-zero}
use native.Mathlib.Omega.{arith}
use mathlib.Core.Path.{◌≡◌, refl, sym, ap, ◌∙◌}
use mathlib.Core.List.{List, [], ◌∷◌, ◌++◌, append-nil, map}
use lib.ListN.{length, get_or, drop, replicate, length-append}
use Rattle.book.specs.Syntax.{Tree, Trees, split, rule, norule, stop, child, Func, Book, first_con, cons_of}
use Rattle.book.specs.Reading.{under}
use Rattle.book.specs.Accepted as Q
use Rattle.engine.specs.Plain.{no_func}
use Rattle.engine.specs.Code.{Instr, load, branch, go, encode, emit, from_four}
use Rattle.engine.specs.Compile.{Program, Positions, of_instances, of_tree, of_trees, of_funcs, offsets, flat, below, compile}
use Rattle.engine.specs.Machine.{jump}
use Rattle.agreement.proofs.Decoding.{emit-append, load-length}
use Rattle.agreement.proofs.Simulate.{code-append}
use Rattle.agreement.proofs.Calls.{arg_positions}
use Rattle.agreement.proofs.Places.{At, at_front, at_back, gos-at, gos-length, offsets-length, offsets-bound, arities-at}
use Rattle.terms.specs.Depth.{Fit, Fits, Runs}
use Rattle.terms.proofs.Blocks.{runs-next, runs-load, fail-fits, rule_fits, instances-fit}

front : (p : List ℕ) (t : ℕ) (more : List Instr) → length (emit (load p ∷ branch t ∷ more)) ≡ 12 + length (emit more)
unfolding emit
front p t more =
    rw (length-append (encode (load p)) (encode (branch t) ++ emit more), load-length p, length-append (encode (branch t)) (emit more), two) (omega arith)
  where
    two : length (encode (branch t)) ≡ 2
    two = unfold encode in refl

module _ (m : Program) (small : length m.code < 2 ^ 32) (Y : Q.FineTypes m.types) where
  trees-length : (ts : Trees) (pos : Positions) (slots : List ℕ) (s : ℕ) (arities : List ℕ) (at₀ : ℕ) → Q.FineTrees m.types m.arities slots s ts arities
      → length (of_trees m.types ts arities pos s at₀) ≡ length arities
  unfolding of_trees
  trees-length stop pos slots s [] at₀ f = refl
  trees-length stop pos slots s (a ∷ more) at₀ f = absurd f
  trees-length (child t ts) pos slots s [] at₀ f = absurd f
  trees-length (child t ts) pos slots s (a ∷ more) at₀ (f, fs) = ap suc (trees-length ts pos slots s more (at₀ + length (emit (of_tree m.types t (below pos s a) at₀))) fs)

  -- each of the children's trees has room
  abbrev TreesFit : Trees → Type 0
  TreesFit ts = (arities : List ℕ) (pos : Positions) (slots : List ℕ) (s at₀ : ℕ) → At m.code at₀ (emit (flat (of_trees m.types ts arities pos s at₀))) → Q.FineTrees m.types m.arities slots s ts arities
      → (j : ℕ) → j < length arities → Runs m (drop (get_or (offsets at₀ (of_trees m.types ts arities pos s at₀)) j 0) m.code) 0

  -- a SPLIT
  module _ (s t : ℕ) (ts : Trees) (fit-ts : TreesFit ts) (pos : Positions) (slots : List ℕ) (at₀ : ℕ) (A : At m.code at₀ (emit (of_tree m.types (split s t ts) pos at₀)))
      (f : Q.FineTree m.types m.arities slots (split s t ts)) where
    abbrev arm : List Instr
    arm = of_instances (first_con m.types t) (cons_of m.types t)

    abbrev arm_at : ℕ
    arm_at = at₀ + 12 + 5 * suc (length (cons_of m.types t))

    abbrev rest-blocks : List (List Instr)
    rest-blocks = of_trees m.types ts (cons_of m.types t) pos s (arm_at + length (emit arm))

    abbrev offs : List ℕ
    offs = offsets arm_at (arm ∷ rest-blocks)

    abbrev behind : List Instr
    behind = map go offs ++ flat (arm ∷ rest-blocks)

    offs-length : length offs ≡ suc (length (cons_of m.types t))
    offs-length = offsets-length (arm ∷ rest-blocks) arm_at ∙ ap suc (trees-length ts pos slots s (cons_of m.types t) (arm_at + length (emit arm)) f.3)

    front_length : at₀ + length (emit (load (get_or pos s []) ∷ branch t ∷ map go offs)) ≡ arm_at
    front_length = rw (front (get_or pos s []) t (map go offs), gos-length offs, offs-length) (omega arith)

    blocks_at : At m.code arm_at (emit (flat (arm ∷ rest-blocks)))
    unfolding of_tree
    blocks_at =
        let e = emit-append (load (get_or pos s []) ∷ branch t ∷ map go offs) (flat (arm ∷ rest-blocks)) in
        let A' : At m.code at₀ (emit (load (get_or pos s []) ∷ branch t ∷ map go offs) ++ emit (flat (arm ∷ rest-blocks))) = rw e at A in
        rw front_length at (at_back m.code at₀ (emit (load (get_or pos s []) ∷ branch t ∷ map go offs)) (emit (flat (arm ∷ rest-blocks))) A')

    -- the code that the j-th GO leads to
    jumps : (j : ℕ) → j < length offs → jump m (emit behind ++ A.rest) j ≡ drop (get_or offs j 0) m.code
    unfolding jump
    jumps j p =
        let e : from_four (drop (5 * j + 1) (emit behind ++ A.rest)) ≡ get_or offs j 0 =
        rw (code-append (map go offs) (flat (arm ∷ rest-blocks)) A.rest)
        (gos-at offs j (emit (flat (arm ∷ rest-blocks)) ++ A.rest) p (bound (offsets-bound (arm ∷ rest-blocks) arm_at j (rw (offsets-length (arm ∷ rest-blocks) arm_at) at p)))) in
        ap (λ (o : ℕ). drop o m.code) e
      where
        bound : get_or offs j 0 ≤ arm_at + length (emit (flat (arm ∷ rest-blocks))) → get_or offs j 0 < 2 ^ 32
        bound h = let k = blocks_at.fits in omega arith

    arm-at : At m.code arm_at (emit arm)
    unfolding flat
    arm-at = at_front m.code arm_at (emit arm) (emit (flat rest-blocks)) (rw (emit-append arm (flat rest-blocks)) at blocks_at)

    rest_at : At m.code (arm_at + length (emit arm)) (emit (flat rest-blocks))
    unfolding flat
    rest_at = at_back m.code arm_at (emit arm) (emit (flat rest-blocks)) (rw (emit-append arm (flat rest-blocks)) at blocks_at)

    to-arm : Runs m (jump m (emit behind ++ A.rest) 0) 0
    unfolding offsets
    to-arm = rw (jumps 0 (rw offs-length (omega arith)), arm-at.here) (instances-fit m Y.arities (cons_of m.types t) (first_con m.types t) (arities-at m t) arm-at.rest 0 (omega (arith, (Y.each t f.2).1)))

    to-child : (j : ℕ) → j < length (cons_of m.types t) → Runs m (jump m (emit behind ++ A.rest) (suc j)) 0
    unfolding offsets
    to-child j q = rw (jumps (suc j) (rw offs-length (omega arith))) (fit-ts (cons_of m.types t) pos slots s (arm_at + length (emit arm)) rest_at f.3 j q)

    split-fits : Runs m (drop at₀ m.code) 0
    unfolding of_tree
    split-fits = rw A.here (runs-load m (get_or pos s []) (branch t ∷ behind) A.rest 0 (runs-next m (branch t) behind A.rest 0 tt (unfold Fit in (to-arm, to-child))))

  mutual
    unfolding of_tree of_trees offsets flat

    -- a tree's code, wherever it stands
    pub tree-fits : (t : Tree) (pos : Positions) (slots : List ℕ) (at₀ : ℕ) → At m.code at₀ (emit (of_tree m.types t pos at₀)) → Q.FineTree m.types m.arities slots t → Runs m (drop at₀ m.code) 0
    tree-fits (split s t ts) pos slots at₀ A f = split-fits s t ts (λ arities pos slots s at₀ A f j p. trees-fit ts arities pos slots s at₀ A f j p) pos slots at₀ A f
    tree-fits (rule xs) pos slots at₀ A f = rw A.here (rule_fits m pos (length slots) xs f.1 f.2 A.rest)
    tree-fits norule pos slots at₀ A f = rw A.here (fail-fits m A.rest 0)

    pub trees-fit : (ts : Trees) (arities : List ℕ) (pos : Positions) (slots : List ℕ) (s at₀ : ℕ) → At m.code at₀ (emit (flat (of_trees m.types ts arities pos s at₀))) → Q.FineTrees m.types m.arities slots s ts arities
        → (j : ℕ) → j < length arities → Runs m (drop (get_or (offsets at₀ (of_trees m.types ts arities pos s at₀)) j 0) m.code) 0
    trees-fit stop [] pos slots s at₀ A f j p = absurd (not-suc-le-zero p)
    trees-fit stop (a ∷ more) pos slots s at₀ A f j p = absurd f
    trees-fit (child t ts) [] pos slots s at₀ A f j p = absurd f
    trees-fit (child t ts) (a ∷ more) pos slots s at₀ A (f, fs) zero p =
        let b = of_tree m.types t (below pos s a) at₀ in
        let bs = of_trees m.types ts more pos s (at₀ + length (emit b)) in
        tree-fits t (below pos s a) (under slots s a) at₀ (at_front m.code at₀ (emit b) (emit (flat bs)) (rw (emit-append b (flat bs)) at A)) f
    trees-fit (child t ts) (a ∷ more) pos slots s at₀ A (f, fs) (suc j) p =
        let b = of_tree m.types t (below pos s a) at₀ in
        let bs = of_trees m.types ts more pos s (at₀ + length (emit b)) in
        trees-fit ts more pos slots s (at₀ + length (emit b)) (at_back m.code at₀ (emit b) (emit (flat bs)) (rw (emit-append b (flat bs)) at A)) fs j (le_of_suc-le-suc p)

-- where a function's code stands
funcs_at : (types : List (List ℕ)) (code : List ℕ) (fs : List Func) (at₀ : ℕ) → At code at₀ (emit (flat (of_funcs types fs at₀))) → (f : ℕ) → f < length fs
    → At code (get_or (offsets at₀ (of_funcs types fs at₀)) f 0) (emit (of_tree types (get_or fs f no_func).tree (arg_positions (get_or fs f no_func).arity) (get_or (offsets at₀ (of_funcs types fs at₀)) f 0)))
unfolding of_funcs offsets flat
funcs_at types code [] at₀ A f p = absurd (not-suc-le-zero p)
funcs_at types code (x ∷ fs) at₀ A zero p =
    let b = of_tree types x.tree (arg_positions x.arity) at₀ in
    at_front code at₀ (emit b) (emit (flat (of_funcs types fs (at₀ + length (emit b))))) (rw (emit-append b (flat (of_funcs types fs (at₀ + length (emit b))))) at A)
funcs_at types code (x ∷ fs) at₀ A (suc f) p =
    let b = of_tree types x.tree (arg_positions x.arity) at₀ in
    funcs_at types code fs (at₀ + length (emit b))
    (at_back code at₀ (emit b) (emit (flat (of_funcs types fs (at₀ + length (emit b))))) (rw (emit-append b (flat (of_funcs types fs (at₀ + length (emit b))))) at A)) f (le_of_suc-le-suc p)

pub code_at : (book : Book) (f : ℕ) → f < length book.funcs → At (compile book).code (get_or (compile book).starts f 0)
    (emit (of_tree book.types (get_or book.funcs f no_func).tree (arg_positions (get_or book.funcs f no_func).arity) (get_or (compile book).starts f 0)))
unfolding compile
code_at book f p = funcs_at book.types (compile book).code book.funcs 0 (record { rest = []; here = sym (append-nil _); fits = omega arith }) f p

-- the code of a function of an accepted book has room from an empty pre-term stack on, however many instructions are run
pub code_fits : (book : Book) → Q.FineBook book → length (compile book).code < 2 ^ 32 → (f : ℕ) → f < length book.funcs
    → (n : ℕ) → Fits (compile book) n (drop (get_or (compile book).starts f 0) (compile book).code) 0
unfolding compile
code_fits book B small f p =
    let x = get_or book.funcs f no_func in
    tree-fits (compile book) small B.types x.tree (arg_positions x.arity) (replicate x.arity 1) (get_or (compile book).starts f 0) (code_at book f p) (B.funcs f no_func p).1
