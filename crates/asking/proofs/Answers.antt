-- An accepted question asked: the code's answer is what the definition lays down.
-- Here, in order: the answer by its parts; the question's graph; nodes that do not fit; nodes that do; what callers pass.
-- Assumes nothing.
use Prim.Native.Nat.{ℕ, suc, ◌+◌, ◌-◌, ◌*◌, ◌/◌, ◌≤◌, ◌<◌}
use native.Mathlib.Omega.{arith}
use mathlib.Core.Path.{◌≡◌, refl, ap, sym, ◌∙◌, subst}
use mathlib.Core.List.{List, [], ◌∷◌}
use mathlib.Core.Option.{Option, some}
use lib.ListN.{length, get_or, drop, replicate, length-replicate}
use lib.Seq.{take_at, get_or-drop}
use Rattle.book.specs.Syntax.{done, arg}
use Rattle.book.proofs.Acceptance.{question-fine}
use Rattle.heap.specs.Graph.{Graph, var, Comp}
use Rattle.heap.specs.Build.{up_from, build, build_all, build_right, start}
use Rattle.heap.specs.Store.{Store}
use Rattle.store.specs.Regions.{graph_of, rest_of, store_of}
use Rattle.engine.specs.Machine as m
use Rattle.standing.specs.Shared.{pour}
use Rattle.store.specs.declared.Roots.{Roots}
use Rattle.store.specs.Roots.{roots_of}
use Rattle.pool.specs.Ring.{chain, stack_of, held_in}
use Rattle.std.specs.Prelude.{Some, None}
use Rattle.asking.specs.declared.Walk.{Walk}
use Rattle.asking.specs.Question.{terms_at, Arities, AskedOf, terms_of, pre_terms, over, VarsPut, cells, term_over, WalkDone, answer_of, Asked}
use Rattle.asking.proofs.Records.{RightTold, cons_in, funcs_in, question-told}
use Rattle.asking.proofs.Terms.{beside_none, beside-then, depth_is, over-over}
use Rattle.asking.proofs.Walks.{reached, built-cells}
use Rattle.asking.proofs.Pours.{below_up, low-vars, build-grows, Grows, pour-fits, pour-full}

-- the only pending handle
first-term : (L base : ℕ) (s : List ℕ) (v : ℕ) → pre_terms L base s 1 ≡ v ∷ [] → get_or (rest_of L s) (base + terms_at) 0 ≡ v
unfolding pre_terms terms_of
first-term L base s v e =
    let k : base + terms_at + 0 ≡ base + terms_at = omega arith in
    let f : get_or (drop (base + terms_at) (rest_of L s)) 0 0 ∷ [] ≡ v ∷ [] = e in
    let g : get_or (drop (base + terms_at) (rest_of L s)) 0 0 ≡ v = cc in
    ap (λ (i : ℕ). get_or (rest_of L s) i 0) (sym k) ∙ sym (get_or-drop {A = ℕ} (base + terms_at) (rest_of L s) 0 0) ∙ g

-- the answer by its parts
answer-is : (L : ℕ) (g : Graph) (v : ℕ) (askers s s₂ : List ℕ) (made : ℕ) (roots : Roots) → graph_of L s₂ ≡ over g (graph_of L s) → made ≡ length g → roots_of roots ≡ v ∷ askers
    → ◌≡◌ {A = Option (Store × m.Held)} (some (record { nodes = over g (graph_of L s); free = up_from (length g) (L - length g) }, record { value = v; askers = askers; stack = [] })) (some (store_of L made s₂, held_in L s₂ (record { roots = roots; top = 0 })))
unfolding store_of held_in stack_of chain
answer-is L g v askers s s₂ made roots a b c = rw (← a, ← b, c)

-- the question's graph: its variables, then its term
module _ {L base : ℕ} {s q : List ℕ} (x : AskedOf L base s q) where
  abbrev vars : ℕ
  vars = x.right.vars

  abbrev whole : Graph × ℕ
  whole = build x.right.term [] (up_from 0 vars) (replicate vars var)

  abbrev C : Comp
  C = record { graph = whole.0; value = whole.1; askers = up_from 0 vars }

  start_is : start x.right ≡ C
  unfolding start build_right
  start_is = refl

  first : length (replicate vars var) ≡ vars
  first = length-replicate vars var

  grown : Grows (replicate vars var) whole.0 × (whole.1 < length whole.0)
  grown = build-grows (cons_in x) (funcs_in x) vars x.right.term (question-fine x.book q x.right x.end x.reads).1 (replicate vars var) (omega (arith, first))

  told : RightTold q (cons_in x) (funcs_in x) x.right (length q)
  told = question-told x

  -- as many nodes as variables and symbols
  whole_long : (n : ℕ) → length q ≡ 2 + 2 * n → length whole.0 ≡ vars + cells q 2 n
  unfolding build_all
  whole_long n e =
      let f : told.n ≡ n = omega (arith, told.at) in
      let h = built-cells (cons_in x) (funcs_in x) vars q (replicate vars var) 2 told.n told.deep in
      let p : reached (cons_in x) (funcs_in x) vars q (replicate vars var) 2 told.n ≡ build_all (arg x.right.term done) [] (up_from 0 vars) (replicate vars var) = rw told.is in
      ap (λ (y : Graph × List ℕ). length y.0) (sym p) ∙ h ∙ rw (first, f)

  -- the nodes do not fit
  pub asked-full : (n : ℕ) → length q ≡ 2 + 2 * n → L < get_or q 1 0 + cells q 2 n → Asked L base x s None
  unfolding answer_of
  asked-full n e h =
      record {
        is = ap (λ (D : Comp). pour D (store_of L 0 s)) start_is ∙ pour-full C L s (omega (arith, whole_long n e, told.vars));
        made = tt;
        count = tt;
        kept = refl;
        beside = beside_none L _ _ s;
      }

  -- they do
  module _ (s₁ s₂ : List ℕ) (w : Walk) (V₁ : VarsPut L vars s s₁) (D : WalkDone L base x.right s₁ s₂ w) where
    over-vars : term_over x.right (graph_of L s₁) ≡ whole
    unfolding over
    over-vars = rw (V₁.graph, take_at (replicate vars var) (drop (length (replicate vars var)) (graph_of L s)) vars first)

    graph_is : graph_of L s₂ ≡ over whole.0 (graph_of L s)
    graph_is = D.graph ∙ rw (over-vars, V₁.graph) (over-over whole.0 (replicate vars var) (graph_of L s) grown.0.long)

    made-is : w.made ≡ length whole.0
    made-is = D.made ∙ rw over-vars

    value-is : get_or (rest_of L s₂) (base + terms_at) 0 ≡ whole.1
    value-is = go w.depth D.terms
      where
        go : (d : ℕ) → pre_terms L base s₂ d ≡ (term_over x.right (graph_of L s₁)).1 ∷ [] → get_or (rest_of L s₂) (base + terms_at) 0 ≡ whole.1
        go d e =
            let n : d ≡ 1 = sym (depth_is L base s₂ d) ∙ ap length e in
            let f : pre_terms L base s₂ 1 ≡ whole.1 ∷ [] = rw (n, over-vars) at e in
            first-term L base s₂ whole.1 f

    pub asked-built : (roots : Roots) (n value : ℕ) → length q ≡ 2 + 2 * n → get_or q 1 0 + cells q 2 n ≤ L → value ≡ get_or (rest_of L s₂) (base + terms_at) 0 → (roots.n ≡ suc (get_or q 1 0)) × (roots_of roots ≡ value ∷ up_from 0 (get_or q 1 0))
        → Asked L base x s₂ (Some (record { made = w.made; roots = roots }))
    unfolding answer_of
    asked-built roots n value e h v r =
        let c : roots_of roots ≡ whole.1 ∷ up_from 0 vars = r.1 ∙ rw (v, value-is, told.vars) in
        record {
          is = ap (λ (D : Comp). pour D (store_of L 0 s)) start_is
              ∙ pour-fits C L s (omega (arith, whole_long n e, told.vars)) (grown.0.low (length whole.0) (omega arith) (low-vars (length whole.0) vars)) grown.1 (below_up (length whole.0) vars 0 (omega (arith, grown.0.long, first)))
              ∙ answer-is L whole.0 whole.1 (up_from 0 vars) s s₂ w.made roots graph_is made-is c;
          made = made-is ∙ ap (λ (D : Comp). length D.graph) (sym start_is);
          count = r.0 ∙ ap suc (sym told.vars);
          kept = tt;
          beside = beside-then (V₁.beside _ _) D.beside;
        }

-- the variables leave a question as it is
abbrev pub asked-still : {L base : ℕ} {s s' q : List ℕ} → rest_of L s' ≡ rest_of L s → AskedOf L base s q → AskedOf L base s' q
asked-still {L} {base} e x = record { book = x.book; right = x.right; end = x.end; reads = x.reads; arities = subst (Arities x.book base) (sym e) x.arities }

-- how long a question is, and that its variables are few
pub asked-size : {L base : ℕ} {s q : List ℕ} → AskedOf L base s q → (length q ≡ 2 + 2 * ((length q - 2) / 2)) × ((length q - 2) / 2 ≤ 255) × (get_or q 1 0 ≤ 8)
asked-size x = let t = question-told x in (omega (arith, t.at), omega (arith, t.at, t.few), omega (arith, t.vars, t.eight))

-- the question was asked, as the code counts
pub asked-made : {L base : ℕ} {s q : List ℕ} (x : AskedOf L base s q) (s₁ s₂ : List ℕ) (w : Walk) (v n value : ℕ) (roots : Roots) → v ≡ get_or q 1 0 → VarsPut L v s s₁ → WalkDone L base x.right s₁ s₂ w → length q ≡ 2 + 2 * n → v + cells q 2 n ≤ L
    → value ≡ get_or (rest_of L s₂) (base + terms_at) 0 → (roots.n ≡ suc v) × (roots_of roots ≡ value ∷ up_from 0 v) → Asked L base x s₂ (Some (record { made = w.made; roots = roots }))
asked-made {L} {base} {s} {q} x s₁ s₂ w v n value roots e p d z h g r =
    asked-built x s₁ s₂ w (subst (λ (i : ℕ). VarsPut L i s s₁) (e ∙ sym (question-told x).vars) p) d roots n value z (rw e at h) g (rw e at r)
