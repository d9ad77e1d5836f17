-- Running the code of RIGHTs and of a variable's arm builds their terms.
-- Assumes nothing.
use Prim.Native.Nat.{ℕ, zero, suc, ◌+◌, ◌≤◌, ◌<◌}
use native.Mathlib.Nat.{le_of_suc-le-suc, not-suc-le-zero, add-zero, add-suc, suc-add}
use native.Mathlib.Omega.{arith}
use mathlib.Core.Path.{◌≡◌, refl, sym, ap, ◌∙◌}
use mathlib.Core.List.{List, [], ◌∷◌, ◌++◌, append_assoc, append-nil, map, reverse_aux}
use lib.ListN.{length, get_or, take, drop, replicate, length-append, get_or-append, length-replicate, length-map, get_elem?}
use lib.Seq.{take_at, drop_at, get_or_at, get_or-take, length-take-le}
use Rattle.book.specs.Syntax.{con, Right}
use Rattle.heap.specs.Graph.{Graph, Node, cell, var}
use Rattle.heap.specs.Build.{up_from, build_right}
use Rattle.heap.proofs.Laws.Numbers.{up_from-at, up_from-length}
use Rattle.engine.specs.Code.{store_var, make_anon, make_term, narrow, emit}
use Rattle.engine.specs.Compile.{Program, Positions, of_term, of_right, of_rights, of_instances}
use Rattle.engine.specs.Plain.{down_to, instances, build_rights}
use Rattle.engine.specs.Machine.{put, arity_of, st, Stop, on, at, made, own, run}
use mathlib.Core.Option.{Option, some}
use Rattle.agreement.proofs.Fine.{FineTerm, FineRights}
use Rattle.agreement.proofs.Simulate.{Halts, halts-more, halts-next, code-append, Grown, grown-build, term_runs, when-fits}

-- registers
put_same : (F : List ℕ) (i h : ℕ) → i ≤ length F → get_or (put F i h) i 0 ≡ h
unfolding put
put_same F i h p = get_or_at (take i F) h (drop (suc i) F) 0 i (length-take-le i F p)

put_other : (F : List ℕ) (i h j : ℕ) → i ≤ length F → j < i → get_or (put F i h) j 0 ≡ get_or F j 0
unfolding put
put_other F i h j p q = get_or-append (take i F) (h ∷ drop (suc i) F) 0 j (rw (length-take-le i F p) q) ∙ get_or-take i F j 0 q

put-length : (F : List ℕ) (i h : ℕ) → i ≤ length F → suc i ≤ length (put F i h)
unfolding put
put-length F i h p = rw (length-append, length-take-le i F p) (omega arith)

-- k registers from i on, set to the numbers from a on
regs : List ℕ → ℕ → ℕ → ℕ → List ℕ
regs F i a zero = F
regs F i a (suc k) = regs (put F i a) (suc i) (suc a) k

regs-low : (k : ℕ) (F : List ℕ) (i a j : ℕ) → i ≤ length F → j < i → get_or (regs F i a k) j 0 ≡ get_or F j 0
unfolding regs
regs-low zero F i a j p q = refl
regs-low (suc k) F i a j p q = regs-low k (put F i a) (suc i) (suc a) j (put-length F i a p) (omega arith) ∙ put_other F i a j p q

regs-at : (k : ℕ) (F : List ℕ) (i a j : ℕ) → i ≤ length F → j < k → get_or (regs F i a k) (i + j) 0 ≡ a + j
unfolding regs
regs-at zero F i a j p q = absurd (not-suc-le-zero q)
regs-at (suc k) F i a zero p q = rw (add-zero i, add-zero a) (regs-low k (put F i a) (suc i) (suc a) i (put-length F i a p) (omega arith) ∙ put_same F i a p)
regs-at (suc k) F i a (suc j) p q = rw (add-suc i j, add-suc a j) (rw (suc-add i j, suc-add a j) at (regs-at k (put F i a) (suc i) (suc a) j (put-length F i a p) (le_of_suc-le-suc q)))

pub get-some : (l : List ℕ) (i : ℕ) → i < length l → get_elem? l i ≡ some (get_or l i 0)
get-some [] i p = absurd (not-suc-le-zero p)
get-some (x ∷ l) zero p = refl
get-some (x ∷ l) (suc i) p = get-some l i (le_of_suc-le-suc p)

regs-length : (k : ℕ) (F : List ℕ) (i a : ℕ) → i ≤ length F → i + k ≤ length (regs F i a k)
unfolding regs
regs-length zero F i a p = omega arith
regs-length (suc k) F i a p = let h = regs-length k (put F i a) (suc i) (suc a) (put-length F i a p) in omega arith

regs-fresh : (k : ℕ) (F : List ℕ) (a j : ℕ) → j < k → get_elem? (regs F 0 a k) j ≡ some (get_or (up_from a k) j 0)
regs-fresh k F a j q =
    let l = regs-length k F 0 a (omega arith) in
    get-some (regs F 0 a k) j (omega arith) ∙ ap some (rw (up_from-at k a j q) (rw (native.Mathlib.Nat.zero-add j) at (regs-at k F 0 a j (omega arith) q)))

pub grown-append : (g₀ g more : Graph) → Grown g₀ g → Grown g₀ (g ++ more)
grown-append g₀ g more (new, e) = (new ++ more, rw e (append_assoc g₀ new more))

pub grown-right : (g₀ : Graph) (r : Right) (slots : List ℕ) (g : Graph) → Grown g₀ g → Grown g₀ (build_right r slots g).0
unfolding build_right
grown-right g₀ r slots g w = grown-build r.term g₀ slots (up_from (length g) r.vars) (g ++ replicate r.vars var) (grown-append g₀ g (replicate r.vars var) w)

pub grown-rights : (rs : List Right) (g₀ : Graph) (slots : List ℕ) (g : Graph) → Grown g₀ g → Grown g₀ (build_rights rs slots g).0
unfolding build_rights
grown-rights [] g₀ slots g w = w
grown-rights (r ∷ rs) g₀ slots g w = grown-rights rs g₀ slots (build_right r slots g).0 (grown-right g₀ r slots g w)

pub grown-instances : (more : List ℕ) (c : ℕ) (g₀ g : Graph) → Grown g₀ g → Grown g₀ (instances c more g).0
unfolding instances
grown-instances [] c g₀ g w = w
grown-instances (a ∷ more) c g₀ g w =
    grown-instances more (suc c) g₀ (g ++ replicate a var ++ cell (con c) (down_to (length g) a) ∷ [])
    (grown-append g₀ (g ++ replicate a var) (cell (con c) (down_to (length g) a) ∷ []) (grown-append g₀ g (replicate a var) w))

snoc-length : (g : Graph) (x : Node) → length (g ++ x ∷ []) ≡ suc (length g)
snoc-length g x = rw length-append (omega arith)

module _ (m : Program) where
  stores_run : (k i : ℕ) (I N : List ℕ) (R : Option ℕ) (T F : List ℕ) (g : Graph) (b : ℕ) (x : Stop Graph) → i ≤ length F
      → Halts m b (st I N R T (regs F i (length g) k) (g ++ replicate k var)) x
      → Halts m (k + b) (st (emit (map store_var (up_from i k)) ++ I) N R T F g) x
  unfolding regs emit up_from run made own
  stores_run zero i I N R T F g b x fi r = halts-more m b (0 + b) _ x (omega arith) (rw (append-nil g) at r)
  stores_run (suc k) i I N R T F g b x fi r =
      halts-more m (suc (k + b)) (suc k + b) _ x (omega arith)
      (halts-next m (store_var i) (map store_var (up_from (suc i) k)) I N R T F g (k + b) (st (emit (map store_var (up_from (suc i) k)) ++ I) N R T (put F i (length g)) (g ++ var ∷ [])) x tt (when-fits i F _ fi)
      (stores_run k (suc i) I N R T (put F i (length g)) (g ++ var ∷ []) b x (put-length F i (length g) fi) (rw (snoc-length g var, append_assoc g (var ∷ []) (replicate k var)) r)))

  anons-run : (a : ℕ) (I N : List ℕ) (R : Option ℕ) (T F : List ℕ) (g : Graph) (b : ℕ) (x : Stop Graph)
      → Halts m b (st I N R (down_to (length g) a ++ T) F (g ++ replicate a var)) x
      → Halts m (a + b) (st (emit (replicate a make_anon) ++ I) N R T F g) x
  unfolding down_to emit run made own
  anons-run zero I N R T F g b x r = halts-more m b (0 + b) _ x (omega arith) (rw (append-nil g) at r)
  anons-run (suc a) I N R T F g b x r =
      halts-more m (suc (a + b)) (suc a + b) _ x (omega arith)
      (halts-next m make_anon (replicate a make_anon) I N R T F g (a + b) (st (emit (replicate a make_anon) ++ I) N R (length g ∷ T) F (g ++ var ∷ [])) x tt refl
      (anons-run a I N R (length g ∷ T) F (g ++ var ∷ []) b x (rw (snoc-length g var, append_assoc g (var ∷ []) (replicate a var), down a (length g)) r)))
    where
      down : (n b : ℕ) → down_to (suc b) n ++ b ∷ T ≡ down_to b (suc n) ++ T
      down zero b = ap (λ (n : ℕ). n ∷ T) (sym (add-zero b))
      down (suc n) b = rw (down n b) (ap (λ (j : ℕ). j ∷ down_to b (suc n) ++ T) (suc-add b n ∙ sym (add-suc b n)))

  -- the constructors from number c on have these arities
  abbrev pub Arities : ℕ → List ℕ → Type 0
  Arities c [] = Unit
  Arities c (a ∷ more) = (arity_of m (con c) ≡ a) × Arities (suc c) more

  down_to-length : (b n : ℕ) → length (down_to b n) ≡ n
  unfolding down_to
  down_to-length b zero = refl
  down_to-length b (suc n) = ap suc (down_to-length b n)

  makes : (a c : ℕ) (I N : List ℕ) (R : Option ℕ) (T F : List ℕ) (g : Graph) → arity_of m (con c) ≡ a
      → run (λ x. x) own m (make_term (con c)) (st I N R (down_to (length g) a ++ T) F (g ++ replicate a var))
      ≡ on (st I N R ((length g + a) ∷ T) F (g ++ replicate a var ++ cell (con c) (down_to (length g) a) ∷ []))
  unfolding run made own
  makes a c I N R T F g e =
      let d : length (down_to (length g) a) ≡ arity_of m (con c) = down_to-length (length g) a ∙ sym e in
      when-fits (arity_of m (con c)) (down_to (length g) a ++ T) _ (rw (length-append (down_to (length g) a) T) (omega arith)) ∙ rw (take_at (down_to (length g) a) T (arity_of m (con c)) d, drop_at (down_to (length g) a) T (arity_of m (con c)) d, length-append g (replicate a var), length-replicate a var)

  pub instances-run : (more : List ℕ) (c : ℕ) (I N : List ℕ) (R : Option ℕ) (T F : List ℕ) (g : Graph) (b : ℕ) (x : Stop Graph) → Arities c more
      → Halts m b (st (emit (narrow ∷ []) ++ I) N R (reverse_aux (instances c more g).1 T) F (instances c more g).0) x
      → Halts m (length (of_instances c more) + b) (st (emit (of_instances c more) ++ I) N R T F g) x
  unfolding of_instances instances
  instances-run [] c I N R T F g b x ar r = halts-more m b (1 + b) _ x (omega arith) r
  instances-run (a ∷ more) c I N R T F g b x (e, ar) r =
      let g' = g ++ replicate a var ++ cell (con c) (down_to (length g) a) ∷ [] in
      halts-more m (a + suc (length (of_instances (suc c) more) + b)) (length (replicate a make_anon ++ make_term (con c) ∷ of_instances (suc c) more) + b) _ x (rw (length-append, length-replicate) (omega arith))
      (rw (code-append (replicate a make_anon) (make_term (con c) ∷ of_instances (suc c) more) I)
      (anons-run a (emit (make_term (con c) ∷ of_instances (suc c) more) ++ I) N R T F g (suc (length (of_instances (suc c) more) + b)) x
      (halts-next m (make_term (con c)) (of_instances (suc c) more) I N R (down_to (length g) a ++ T) F (g ++ replicate a var) (length (of_instances (suc c) more) + b)
      (st (emit (of_instances (suc c) more) ++ I) N R ((length g + a) ∷ T) F g') x tt
      (makes a c (emit (of_instances (suc c) more) ++ I) N R T F g e)
      (instances-run more (suc c) I N R ((length g + a) ∷ T) F g' b x ar r))))

-- a call's code sees the slots of the plain walk: the places of the slots, also while nodes are added
pub record Sees (pos : Positions) (slots : List ℕ) (t₀ : ℕ) (g₀ : Graph) : Type 0 where
  pub same : length slots ≡ length pos
  pub see : (g : Graph) → Grown g₀ g → (i : ℕ) → i < length pos → at g t₀ (get_or pos i []) ≡ some (get_or slots i 0)
  pub short : (i : ℕ) → i < length pos → length (get_or pos i []) ≤ 8
  pub inside : (i : ℕ) → i < length pos → get_or slots i 0 < length g₀

module _ (m : Program) (pos : Positions) (slots : List ℕ) (t₀ : ℕ) (N₀ : List ℕ) (g₀ : Graph) (S : Sees pos slots t₀ g₀) where
  abbrev N : List ℕ
  N = t₀ ∷ N₀

  pub right-runs : (r : Right) → FineTerm m (length pos) r.vars r.term → (I : List ℕ) (R : Option ℕ) (T F : List ℕ) (g : Graph) → Grown g₀ g → (b : ℕ) (x : Stop Graph)
      → ((R' : Option ℕ) (F' : List ℕ) → Halts m b (st I N R' ((build_right r slots g).1 ∷ T) F' (build_right r slots g).0) x)
      → Halts m (length (of_right pos r) + b) (st (emit (of_right pos r) ++ I) N R T F g) x
  unfolding of_right build_right
  right-runs r f I R T F g w b x k =
      halts-more m (r.vars + (length (of_term pos r.term) + b)) (length (map store_var (up_from 0 r.vars) ++ of_term pos r.term) + b) _ x (rw (length-append, length-map (up_from 0 r.vars) store_var, up_from-length r.vars 0) (omega arith))
      (rw (code-append (map store_var (up_from 0 r.vars)) (of_term pos r.term) I)
      (stores_run m r.vars 0 (emit (of_term pos r.term) ++ I) N R T F g (length (of_term pos r.term) + b) x (omega arith)
      (term_runs m pos slots t₀ N₀ (regs F 0 (length g) r.vars) (up_from (length g) r.vars) r.vars g₀ S.see S.short (regs-fresh r.vars F (length g))
      r.term f (g ++ replicate r.vars var) (grown-append g₀ g (replicate r.vars var) w) I R T b x (λ R'. k R' (regs F 0 (length g) r.vars)))))

  pub rights-run : (rs : List Right) → FineRights m (length pos) rs → (I : List ℕ) (R : Option ℕ) (T F : List ℕ) (g : Graph) → Grown g₀ g → (b : ℕ) (x : Stop Graph)
      → ((R' : Option ℕ) (F' : List ℕ) → Halts m b (st I N R' (reverse_aux (build_rights rs slots g).1 T) F' (build_rights rs slots g).0) x)
      → Halts m (length (of_rights pos rs) + b) (st (emit (of_rights pos rs) ++ I) N R T F g) x
  unfolding of_rights build_rights emit
  rights-run [] f I R T F g w b x k = halts-more m b (0 + b) _ x (omega arith) (k R F)
  rights-run (r ∷ rs) (f, fs) I R T F g w b x k =
      let p = build_right r slots g in
      halts-more m (length (of_right pos r) + (length (of_rights pos rs) + b)) (length (of_right pos r ++ of_rights pos rs) + b) _ x (rw length-append (omega arith))
      (rw (code-append (of_right pos r) (of_rights pos rs) I)
      (right-runs r f (emit (of_rights pos rs) ++ I) R T F g w (length (of_rights pos rs) + b) x λ R' F'.
      rights-run rs fs I R' (p.1 ∷ T) F' p.0 (grown-right g₀ r slots g w) b x k))
