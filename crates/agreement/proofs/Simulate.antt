-- Running the code of a term builds the term.
-- Assumes nothing.
use Prim.Native.Nat.{ℕ, zero, suc, ◌+◌, ◌≤◌, ◌<◌}
use native.Mathlib.Nat.{le_of_suc-le-suc, not-suc-le-zero}
use native.Mathlib.Omega.{arith}
use mathlib.Core.Path.{◌≡◌, refl, ap, ◌∙◌}
use mathlib.Core.List.{List, [], ◌∷◌, ◌++◌, append_assoc}
use lib.ListN.{length, get_or, length-append, get_elem?}
use lib.Seq.{take_at, drop_at}
use Rattle.book.specs.Syntax.{Term, Terms, app, slot, fresh, done, arg}
use Rattle.heap.specs.Graph.{Graph, Node, cell}
use Rattle.heap.specs.Build.{build, build_all}
use Rattle.engine.specs.Code.{Instr, load, push, make_term, make_var, encode, emit}
use Rattle.engine.specs.Compile.{Program, Positions, of_term, of_terms}
use Rattle.engine.specs.Machine.{arity_of, State, st, Stop, Step, on, ends, at, need, when, made, own, run, step, exec}
use mathlib.Core.Option.{Option, some}
use mathlib.Core.Bool.{Bool, true, false}
use lib.Dec.{leb, le→leb}
use Rattle.agreement.proofs.Decoding.{Writable, decode-encode, drop-encode, emit-append}
use Rattle.book.specs.Accepted.{count}
use Rattle.agreement.proofs.Fine.{FineTerm, FineTerms}

-- with b instructions or more allowed, the machine stops from s with x
abbrev pub Halts : Program → ℕ → State Graph → Stop Graph → Type 0
Halts m b s x = (n : ℕ) → b ≤ n → exec (λ x. x) own n m s ≡ x

module _ (m : Program) where
  pub halts-more : (a b : ℕ) (s : State Graph) (x : Stop Graph) → a ≤ b → Halts m a s x → Halts m b s x
  halts-more a b s x h r n p = r n (omega arith)

  pub halts-on : (b : ℕ) (s s' : State Graph) (x : Stop Graph) → step (λ x. x) own m s ≡ on s' → Halts m b s' x → Halts m (suc b) s x
  unfolding exec
  halts-on b s s' x e r zero p = absurd (not-suc-le-zero p)
  halts-on b s s' x e r (suc n) p = rw (e, exec) (r n (le_of_suc-le-suc p))

  pub halts-ends : (s : State Graph) (x : Stop Graph) → step (λ x. x) own m s ≡ ends x → Halts m 1 s x
  unfolding exec
  halts-ends s x e zero p = absurd (not-suc-le-zero p)
  halts-ends s x e (suc n) p = rw (e, exec)

  -- an instruction at the front of the code is the one that is run
  pub step-encode : (i : Instr) (I N : List ℕ) (R : Option ℕ) (T F : List ℕ) (g : Graph) → Writable i → step (λ x. x) own m (st (encode i ++ I) N R T F g) ≡ run (λ x. x) own m i (st I N R T F g)
  unfolding step
  step-encode i I N R T F g w = rw (decode-encode i I w, drop-encode i I)

  -- the first of some instructions, of which it is known where it leads
  pub halts-next : (i : Instr) (more : List Instr) (I N : List ℕ) (R : Option ℕ) (T F : List ℕ) (g : Graph) (b : ℕ) (s : State Graph) (x : Stop Graph)
      → Writable i → run (λ x. x) own m i (st (emit more ++ I) N R T F g) ≡ on s → Halts m b s x → Halts m (suc b) (st (emit (i ∷ more) ++ I) N R T F g) x
  unfolding emit
  halts-next i more I N R T F g b s x w e r =
      rw (append_assoc (encode i) (emit more) I) (halts-on b (st (encode i ++ (emit more ++ I)) N R T F g) s x (step-encode i (emit more ++ I) N R T F g w ∙ e) r)

  -- the first of some instructions, where it ends the code
  pub halts-last : (i : Instr) (more : List Instr) (I N : List ℕ) (R : Option ℕ) (T F : List ℕ) (g : Graph) (x : Stop Graph)
      → Writable i → run (λ x. x) own m i (st (emit more ++ I) N R T F g) ≡ ends x → Halts m 1 (st (emit (i ∷ more) ++ I) N R T F g) x
  unfolding emit
  halts-last i more I N R T F g x w e =
      rw (append_assoc (encode i) (emit more) I) (halts-ends (st (encode i ++ (emit more ++ I)) N R T F g) x (step-encode i (emit more ++ I) N R T F g w ∙ e))

pub code-append : (a b : List Instr) (I : List ℕ) → emit (a ++ b) ++ I ≡ emit a ++ (emit b ++ I)
code-append a b I = rw (emit-append a b) (append_assoc (emit a) (emit b) I)

pub when-fits : (a : ℕ) (T : List ℕ) (x : Step Graph) → a ≤ length T → when (leb a (length T)) x ≡ x
unfolding when
when-fits a T x p = go (leb a (length T)) (le→leb a (length T) p)
  where
    go : (b : Bool) → lib.Dec.T b → when b x ≡ x
    go true u = refl
    go false u = absurd u

-- g is g₀ with nodes added behind
abbrev pub Grown : Graph → Graph → Type 0
Grown g₀ g = (new : Graph) × (g ≡ g₀ ++ new)

pub grown-snoc : (g₀ g : Graph) (x : Node) → Grown g₀ g → Grown g₀ (g ++ x ∷ [])
grown-snoc g₀ g x (new, e) = (new ++ x ∷ [], rw e (append_assoc g₀ new (x ∷ [])))

mutual
  unfolding build build_all

  pub grown-build : (t : Term) (g₀ : Graph) (slots vars : List ℕ) (g : Graph) → Grown g₀ g → Grown g₀ (build t slots vars g).0
  grown-build (app s ts) g₀ slots vars g w = grown-snoc g₀ (build_all ts slots vars g).0 (cell s (build_all ts slots vars g).1) (grown-build_all ts g₀ slots vars g w)
  grown-build (slot i) g₀ slots vars g w = w
  grown-build (fresh i) g₀ slots vars g w = w

  pub grown-build_all : (ts : Terms) (g₀ : Graph) (slots vars : List ℕ) (g : Graph) → Grown g₀ g → Grown g₀ (build_all ts slots vars g).0
  grown-build_all done g₀ slots vars g w = w
  grown-build_all (arg t ts) g₀ slots vars g w = grown-build t g₀ slots vars (build_all ts slots vars g).0 (grown-build_all ts g₀ slots vars g w)

pub count-build_all : (ts : Terms) (slots vars : List ℕ) (g : Graph) → length (build_all ts slots vars g).1 ≡ count ts
unfolding build_all
count-build_all done slots vars g = refl
count-build_all (arg t ts) slots vars g = ap suc (count-build_all ts slots vars g)

module _ (m : Program) (pos : Positions) (slots : List ℕ) (t₀ : ℕ) (N₀ F vars : List ℕ) (v : ℕ) (g₀ : Graph)
    (see : (g : Graph) → Grown g₀ g → (i : ℕ) → i < length pos → at g t₀ (get_or pos i []) ≡ some (get_or slots i 0))
    (short : (i : ℕ) → i < length pos → length (get_or pos i []) ≤ 8)
    (registers : (i : ℕ) → i < v → get_elem? F i ≡ some (get_or vars i 0)) where
  abbrev N : List ℕ
  N = t₀ ∷ N₀

  mutual
    unfolding build build_all of_term of_terms run emit need made own

    pub term_runs : (t : Term) → FineTerm m (length pos) v t → (g : Graph) → Grown g₀ g → (I : List ℕ) (R : Option ℕ) (T : List ℕ) (b : ℕ) (x : Stop Graph)
        → ((R' : Option ℕ) → Halts m b (st I N R' ((build t slots vars g).1 ∷ T) F (build t slots vars g).0) x)
        → Halts m (length (of_term pos t) + b) (st (emit (of_term pos t) ++ I) N R T F g) x
    term_runs (app s ts) (kn, ar, f) g w I R T b x k =
        let p = build_all ts slots vars g in
        let e : length p.1 ≡ arity_of m s = count-build_all ts slots vars g ∙ ar in
        halts-more m (length (of_terms pos ts) + suc b) (length (of_terms pos ts ++ make_term s ∷ []) + b) _ x (rw length-append (omega arith))
        (rw (code-append (of_terms pos ts) (make_term s ∷ []) I)
        (terms-runs ts f g w (emit (make_term s ∷ []) ++ I) R T (suc b) x λ R'.
        halts-next m (make_term s) [] I N R' (p.1 ++ T) F p.0 b (st I N R' (length p.0 ∷ T) F (p.0 ++ cell s p.1 ∷ [])) x tt
        (when-fits (arity_of m s) (p.1 ++ T) _ (rw (length-append p.1 T) (omega arith)) ∙ rw (take_at p.1 T (arity_of m s) e, drop_at p.1 T (arity_of m s) e)) (k R')))
    term_runs (slot i) f g w I R T b x k =
        halts-more m (suc (suc b)) (2 + b) _ x (omega arith)
        (halts-next m (load (get_or pos i [])) (push ∷ []) I N R T F g (suc b) (st (emit (push ∷ []) ++ I) N (some (get_or slots i 0)) T F g) x (short i f) (rw (see g w i f))
        (halts-next m push [] I N (some (get_or slots i 0)) T F g b (st I N (some (get_or slots i 0)) (get_or slots i 0 ∷ T) F g) x tt refl (k (some (get_or slots i 0)))))
    term_runs (fresh i) f g w I R T b x k =
        halts-more m (suc b) (1 + b) _ x (omega arith)
        (halts-next m (make_var i) [] I N R T F g b (st I N R (get_or vars i 0 ∷ T) F g) x tt (rw (registers i f)) (k R))

    pub terms-runs : (ts : Terms) → FineTerms m (length pos) v ts → (g : Graph) → Grown g₀ g → (I : List ℕ) (R : Option ℕ) (T : List ℕ) (b : ℕ) (x : Stop Graph)
        → ((R' : Option ℕ) → Halts m b (st I N R' ((build_all ts slots vars g).1 ++ T) F (build_all ts slots vars g).0) x)
        → Halts m (length (of_terms pos ts) + b) (st (emit (of_terms pos ts) ++ I) N R T F g) x
    terms-runs done f g w I R T b x k = halts-more m b (0 + b) _ x (omega arith) (k R)
    terms-runs (arg t ts) (f, fs) g w I R T b x k =
        let p = build_all ts slots vars g in
        halts-more m (length (of_terms pos ts) + (length (of_term pos t) + b)) (length (of_terms pos ts ++ of_term pos t) + b) _ x (rw length-append (omega arith))
        (rw (code-append (of_terms pos ts) (of_term pos t) I)
        (terms-runs ts fs g w (emit (of_term pos t) ++ I) R T (length (of_term pos t) + b) x λ R'.
        term_runs t f p.0 (grown-build_all ts g₀ slots vars g w) I R' (p.1 ++ T) b x k))
