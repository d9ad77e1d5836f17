-- Nodes made on both sides: on a computation's own graph and at free numbers of the store.
-- Here, in order: what making nodes comes to; states, steps and stops side by side; a new node; lists side by side; positions; what an instruction needs; a node made.
-- Assumes nothing.
use Prim.Native.Nat.{ℕ, zero, suc, ◌+◌, ◌-◌, ◌≤◌, ◌<◌}
use native.Mathlib.Omega.{arith}
use mathlib.Core.Path.{◌≡◌, refl, sym, ap, ◌∙◌, subst}
use mathlib.Core.Logic.{◌⊎◌, inl, inr}
use mathlib.Core.List.Memᴰ
use mathlib.Core.List.{List, [], ◌∷◌, ◌++◌, reverse, Memᴰ}
use native.Mathlib.Decide.{ℕ_discrete, dec_lt}
use mathlib.Core.Option.{Option, none, some}
use mathlib.Core.Bool.{Bool, true, false}
use lib.ListN.{length, get_or, get_elem?, take, drop, set, length-set, length-append, get_or-append, get_or-eq_default}
use lib.Seq.{get_or-set_other, get_or-append_seam, get_or-set_same}
use Rattle.heap.specs.Alike.{Each, Mirror, Alike}
use Rattle.heap.specs.Place.{here}
use Rattle.heap.specs.Graph.{Graph, Node, var, node, look, args}
use Rattle.heap.proofs.Laws.Alike.{Maybe, Wider, rep-keep, each_keep, rep-look, alike-new, wider-new, alike_same, reals}
use Rattle.heap.proofs.Laws.Shape.{each_append, args-alike}
use Rattle.engine.specs.Machine.{put, st, Stop, demand, becomes, parts, fails, misfits, broken, full, Step, on, ends, at, need, when, made, own}
use Rattle.heap.specs.Store.{Store, taken}
use Rattle.standing.specs.Stands.{World, Rel, Dom, Ours, Reps, Holds}

-- what making nodes comes to: all that was related still is, and only free numbers were written
pub record Grows (w : World) (g : Graph) (μ : Store) (g' : Graph) (μ' : Store) : Type 0 where
  pub world : World
  pub holds : Holds world g' μ'
  pub wider : Wider (Rel (w)) (Rel (world)) (Dom (w)) (Dom (world)) (Ours (w)) (Ours (world)) g g' μ.nodes μ'.nodes
  pub less : (x : ℕ) → Memᴰ x μ'.free → Memᴰ x μ.free
  pub frame : (x : ℕ) → ¬ (Memᴰ x μ.free) → node μ'.nodes x ≡ node μ.nodes x
  pub new : (x : ℕ) → Ours (world) x → Ours (w) x ⊎ Memᴰ x μ.free
  pub same_length : length μ'.nodes ≡ length μ.nodes
  pub count : length g' + length μ'.free ≡ length g + length μ.free
  pub longer : length g ≤ length g'

pub record States (w : World) (I N : List ℕ) (R : Option ℕ) (T F : List ℕ) (g : Graph) (I' N' : List ℕ) (R' : Option ℕ) (T' F' : List ℕ) (μ : Store) : Type 0 where
  pub code : I ≡ I'
  pub stack : Each (Reps w g μ.nodes) N N'
  pub current : Maybe (Reps w g μ.nodes) R R'
  pub terms : Each (Reps w g μ.nodes) T T'
  pub vars : Each (Reps w g μ.nodes) F F'
  pub holds : Holds w g μ

-- more than b nodes were made, if the end says
abbrev pub Over : ℕ → Stop Graph → Type 0
Over b (demand N g) = b < length g
Over b (becomes h r N g) = b < length g
Over b (parts h ks g) = b < length g
Over b (fails g) = b < length g
Over b (misfits g) = b < length g
Over b broken = Unit
Over b full = Unit

abbrev pub OverStep : ℕ → Step Graph → Type 0
OverStep b (on (st I N R T F g)) = b < length g
OverStep b (ends x) = Over b x

pub data Stops (w : World) (g : Graph) (μ : Store) : Stop Graph → Stop Store → Type 0 where
  stops-demand : {N N' : List ℕ} {g' : Graph} {μ' : Store} (o : Grows w g μ g' μ') → Each (Reps o.world g' μ'.nodes) N N' → Stops w g μ (demand N g') (demand N' μ')
  stops-becomes : {h k r r' : ℕ} {N N' : List ℕ} {g' : Graph} {μ' : Store} (o : Grows w g μ g' μ') → Rel o.world h k → Reps o.world g' μ'.nodes r r' → Each (Reps o.world g' μ'.nodes) N N' → Stops w g μ (becomes h r N g') (becomes k r' N' μ')
  stops-parts : {h k : ℕ} {ks ks' : List ℕ} {g' : Graph} {μ' : Store} (o : Grows w g μ g' μ') → Rel o.world h k → Each (Reps o.world g' μ'.nodes) ks ks' → Stops w g μ (parts h ks g') (parts k ks' μ')
  stops-fails : {g' : Graph} {μ' : Store} (o : Grows w g μ g' μ') → Stops w g μ (fails g') (fails μ')
  stops-misfits : {g' : Graph} {μ' : Store} (o : Grows w g μ g' μ') → Stops w g μ (misfits g') (misfits μ')
  stops-broken : Stops w g μ broken broken
  stops-full : {x : Stop Graph} → Over (length g + length μ.free) x → Stops w g μ x full

pub data Steps (w : World) (g : Graph) (μ : Store) : Step Graph → Step Store → Type 0 where
  steps_on : {I N : List ℕ} {R : Option ℕ} {T F : List ℕ} {g' : Graph} {I' N' : List ℕ} {R' : Option ℕ} {T' F' : List ℕ} {μ' : Store} (o : Grows w g μ g' μ')
      → States o.world I N R T F g' I' N' R' T' F' μ' → Steps w g μ (on (st I N R T F g')) (on (st I' N' R' T' F' μ'))
  steps-ends : {x : Stop Graph} {y : Stop Store} → Stops w g μ x y → Steps w g μ (ends x) (ends y)
  steps-full : {x : Step Graph} → OverStep (length g + length μ.free) x → Steps w g μ x (ends full)

abbrev pub grows_none : (w : World) (g : Graph) (μ : Store) → Holds w g μ → Grows w g μ g μ
grows_none w g μ H = record {
  world = w;
  holds = H;
  less = λ x m. m;
  frame = λ x n. refl;
  new = λ x q. inl q;
  same_length = refl;
  count = refl;
  longer = omega arith;
  wider = record { same = λ h k r. r; left = λ x p. p; right = λ x q. q; left-node = λ x p. refl; right-node = λ x q. refl };
}

abbrev pub grows_then : {w : World} {g : Graph} {μ : Store} {g' : Graph} {μ' : Store} {g'' : Graph} {μ'' : Store} (a : Grows w g μ g' μ') (b : Grows a.world g' μ' g'' μ'') → Grows w g μ g'' μ''
grows_then {w} {μ = μ} {μ' = μ'} a b = record {
  world = b.world;
  holds = b.holds;
  less = λ x m. a.less x (b.less x m);
  frame = λ x n. b.frame x (λ m. n (a.less x m)) ∙ a.frame x n;
  new = λ x q. go x (b.new x q);
  same_length = b.same_length ∙ a.same_length;
  count = b.count ∙ a.count;
  longer = (let i = a.longer in let j = b.longer in omega arith);
  wider = record {
    same = λ h k r. b.wider.same h k (a.wider.same h k r);
    left = λ x p. b.wider.left x (a.wider.left x p);
    right = λ x q. b.wider.right x (a.wider.right x q);
    left-node = λ x p. b.wider.left-node x (a.wider.left x p) ∙ a.wider.left-node x p;
    right-node = λ x q. b.wider.right-node x (a.wider.right x q) ∙ a.wider.right-node x q;
  };
}
  where
    go : (x : ℕ) → Ours a.world x ⊎ Memᴰ x μ'.free → Ours (w) x ⊎ Memᴰ x μ.free
    go x (inl q) = a.new x q
    go x (inr m) = inr (a.less x m)

-- a new node
pub grows-new : (w : World) (g : Graph) (s : Graph) (f : ℕ) (fs : List ℕ) (x y : Node) → Holds w g (record { nodes = s; free = f ∷ fs }) → Mirror (Rel (w)) (Dom (w)) (Ours (w)) g s x y
    → (o : Grows w g (record { nodes = s; free = f ∷ fs }) (g ++ x ∷ []) (record { nodes = set s f y; free = fs })) × (Rel o.world (length g) f) × Reps o.world (g ++ x ∷ []) (set s f y) (length g) f
grows-new w g s f fs x y H m = (
  record {
    world = w⁺;
    holds = record {
      alike = alike_same (alike-new A H.in_p f fits free x y m) to from to_p to_q;
      in_p = in_p';
      in_q = in_q';
      sized = length-append w.φ (some f ∷ []) ∙ ap (λ (n : ℕ). n + 1) H.sized ∙ sym (length-append g (x ∷ []));
      fits = λ z u. rw (length-set s f y) (H.fits z (Memᴰ.tail u));
      idle = λ z u q. idle' z u (Memᴰ.cases_cons q);
      distinct = H.distinct.1;
    };
    wider = record { same = λ h k r. to h k (inl r); left = λ z p. to_p z (inl p); right = λ z q. Memᴰ.tail q; left-node = W.left-node; right-node = W.right-node };
    less = λ z u. Memᴰ.tail u;
    frame = λ z n. get_or-set_other s f z y var (λ e. n (Memᴰ.head e));
    new = λ z q. new' z (Memᴰ.cases_cons q);
    same_length = length-set s f y;
    count = rw (length-append g (x ∷ [])) (omega arith);
    longer = rw (length-append g (x ∷ [])) (omega arith);
  },
  to (length g) f (inr (refl, refl)),
  record {
    from = length g;
    to = f;
    same = to (length g) f (inr (refl, refl));
    left = here (to_p (length g) (inr refl)) refl (rw (get_or-append_seam g x [] var) (reals (Rel w) (Dom w) (Ours w) g s x y m).0);
    right = here (Memᴰ.head refl) refl (rw (get_or-set_same s f y var fits) (reals (Rel w) (Dom w) (Ours w) g s x y m).1);
  },
)
  where
    A : Alike (Rel w) (Dom w) (Ours w) g s
    A = H.alike

    fits : f < length s
    fits = H.fits f (Memᴰ.head refl)

    free : ¬ (Ours w f)
    free = H.idle f (Memᴰ.head refl)

    W : Wider (Rel w) (λ h k. Rel w h k ⊎ ((h ≡ length g) × (k ≡ f))) (Dom w) (λ h. Dom w h ⊎ (h ≡ length g)) (Ours w) (λ k. Ours w k ⊎ (k ≡ f)) g (g ++ x ∷ []) s (set s f y)
    W = wider-new A H.in_p f fits free x y m

    w⁺ : World
    w⁺ = record { φ = w.φ ++ some f ∷ []; owned = f ∷ w.owned }

    to : (h k : ℕ) → Rel w h k ⊎ ((h ≡ length g) × (k ≡ f)) → get_or (w.φ ++ some f ∷ []) h none ≡ some k
    to h k (inl r) = get_or-append w.φ (some f ∷ []) none h (A.left h k r) ∙ r
    to h k (inr (a, b)) = rw (a, b, sym H.sized) (get_or-append_seam w.φ (some f) [] none)

    from : (h k : ℕ) → get_or (w.φ ++ some f ∷ []) h none ≡ some k → Rel w h k ⊎ ((h ≡ length g) × (k ≡ f))
    from h k r = go (dec_lt h (length w.φ)) (ℕ_discrete h (length w.φ))
      where
        go : Dec (h < length w.φ) → Dec (h ≡ length w.φ) → Rel w h k ⊎ ((h ≡ length g) × (k ≡ f))
        go (yes p) d = inl (sym (get_or-append w.φ (some f ∷ []) none h p) ∙ r)
        go (no p) (yes e) =
            let u : some f ≡ some k = sym (get_or-append_seam w.φ (some f) [] none) ∙ subst (λ (z : ℕ). get_or (w.φ ++ some f ∷ []) z none ≡ some k) e r in
            let v : k ≡ f = cc in
            inr (e ∙ H.sized, v)
        go (no p) (no e) =
            let l : length (w.φ ++ some f ∷ []) ≤ h = rw (length-append w.φ (some f ∷ [])) (omega arith) in
            let u : ◌≡◌ {A = Option ℕ} none (some k) = sym (get_or-eq_default (w.φ ++ some f ∷ []) none l) ∙ r in
            let z : ◌≡◌ {A = ℕ} 0 1 = cc in absurd (omega arith)

    to_p : (h : ℕ) → Dom w h ⊎ (h ≡ length g) → h < length (w.φ ++ some f ∷ [])
    to_p h (inl p) = rw (length-append w.φ (some f ∷ [])) (omega arith)
    to_p h (inr e) = let i = H.sized in rw (length-append w.φ (some f ∷ [])) (omega arith)

    to_q : (k : ℕ) → Ours w k ⊎ (k ≡ f) → Memᴰ k (f ∷ w.owned)
    to_q k (inl q) = Memᴰ.tail q
    to_q k (inr e) = Memᴰ.head e

    in_p' : (z : ℕ) → z < length (w.φ ++ some f ∷ []) → z < length (g ++ x ∷ [])
    in_p' z p = let i = H.sized in let j : z < length w.φ + 1 = rw (length-append w.φ (some f ∷ [])) at p in rw (length-append g (x ∷ [])) (omega arith)

    in_q'' : (z : ℕ) → (z ≡ f) ⊎ Ours w z → z < length (set s f y)
    in_q'' z (inr q) = rw (length-set s f y) (H.in_q z q)
    in_q'' z (inl e) = rw (length-set s f y, e) fits

    in_q' : (z : ℕ) → Memᴰ z (f ∷ w.owned) → z < length (set s f y)
    in_q' z q = in_q'' z (Memᴰ.cases_cons q)

    idle' : (z : ℕ) → Memᴰ z fs → (z ≡ f) ⊎ Ours w z → ⊥
    idle' z u (inr q) = H.idle z (Memᴰ.tail u) q
    idle' z u (inl e) = H.distinct.0 z u e

    new' : (z : ℕ) → (z ≡ f) ⊎ Ours w z → Ours w z ⊎ Memᴰ z (f ∷ fs)
    new' z (inr q) = inl q
    new' z (inl e) = inr (Memᴰ.head e)

pub maybe-get : (X : ℕ → ℕ → Type 0) (hs ks : List ℕ) → Each X hs ks → (i : ℕ) → Maybe X (get_elem? hs i) (get_elem? ks i)
maybe-get X [] [] e i = tt
maybe-get X [] (k ∷ ks) e i = absurd e
maybe-get X (h ∷ hs) [] e i = absurd e
maybe-get X (h ∷ hs) (k ∷ ks) (e, es) zero = e
maybe-get X (h ∷ hs) (k ∷ ks) (e, es) (suc i) = maybe-get X hs ks es i

pub each_take : (X : ℕ → ℕ → Type 0) (n : ℕ) (hs ks : List ℕ) → Each X hs ks → Each X (take n hs) (take n ks)
each_take X zero hs ks e = tt
each_take X (suc n) [] [] e = tt
each_take X (suc n) [] (k ∷ ks) e = absurd e
each_take X (suc n) (h ∷ hs) [] e = absurd e
each_take X (suc n) (h ∷ hs) (k ∷ ks) (e, es) = (e, each_take X n hs ks es)

pub each-drop : (X : ℕ → ℕ → Type 0) (n : ℕ) (hs ks : List ℕ) → Each X hs ks → Each X (drop n hs) (drop n ks)
each-drop X zero hs ks e = e
each-drop X (suc n) [] [] e = tt
each-drop X (suc n) [] (k ∷ ks) e = absurd e
each-drop X (suc n) (h ∷ hs) [] e = absurd e
each-drop X (suc n) (h ∷ hs) (k ∷ ks) (e, es) = each-drop X n hs ks es

pub each-reverse : (X : ℕ → ℕ → Type 0) (hs ks : List ℕ) → Each X hs ks → Each X (reverse hs) (reverse ks)
each-reverse X hs ks e = onto hs ks [] [] e tt
  where
    onto : (hs ks rs us : List ℕ) → Each X hs ks → Each X rs us → Each X (mathlib.Core.List.reverse_aux hs rs) (mathlib.Core.List.reverse_aux ks us)
    onto [] [] rs us e f = f
    onto [] (k ∷ ks) rs us e f = absurd e
    onto (h ∷ hs) [] rs us e f = absurd e
    onto (h ∷ hs) (k ∷ ks) rs us (e, es) f = onto hs ks (h ∷ rs) (k ∷ us) es (e, f)

pub each-put : (X : ℕ → ℕ → Type 0) (hs ks : List ℕ) → Each X hs ks → (v h k : ℕ) → X h k → Each X (put hs v h) (put ks v k)
unfolding put
each-put X hs ks e v h k x = each_append X (take v hs) (take v ks) (h ∷ drop (suc v) hs) (k ∷ drop (suc v) ks) (each_take X v hs ks e) (x, each-drop X (suc v) hs ks e)

-- the same position
pub at-alike : {w : World} {g : Graph} {μ : Store} → Holds w g μ → (p : List ℕ) (h k : ℕ) → Reps w g μ.nodes h k → Maybe (Reps w g μ.nodes) (at g h p) (at μ.nodes k p)
unfolding at
at-alike H [] h k r = r
at-alike {w} {g} {μ} H (i ∷ ps) h k r = go (at-alike H ps) (get_elem? (args (look g h)) (i - 1)) (get_elem? (args (look s k)) (i - 1)) refl refl
    (maybe-get (Reps w g s) (args (look g h)) (args (look s k)) (args-alike H.alike H.in_p H.in_q (look g h) (look s k) (rep-look H.alike h k r)) (i - 1))
  where
    s : Graph
    s = μ.nodes

    go : ((h k : ℕ) → Reps w g s h k → Maybe (Reps w g s) (at g h ps) (at s k ps)) → (o o' : Option ℕ) → get_elem? (args (look g h)) (i - 1) ≡ o → get_elem? (args (look s k)) (i - 1) ≡ o'
        → Maybe (Reps w g s) o o' → Maybe (Reps w g s) (at g h (i ∷ ps)) (at s k (i ∷ ps))
    go ih none none p q m = rw (p, q, at) tt
    go ih none (some y) p q m = absurd m
    go ih (some x) none p q m = absurd m
    go ih (some x) (some y) p q m = rw (p, q, at) (ih x y m)

module _ (w : World) (g : Graph) (μ : Store) where
  pub need-alike : (X : ℕ → ℕ → Type 0) (o o' : Option ℕ) → Maybe X o o' → (f : ℕ → Step Graph) (f' : ℕ → Step Store) → ((h k : ℕ) → X h k → Steps w g μ (f h) (f' k)) → Steps w g μ (need o f) (need o' f')
  unfolding need
  need-alike X none none m f f' t = steps-ends stops-broken
  need-alike X none (some y) m f f' t = absurd m
  need-alike X (some x) none m f f' t = absurd m
  need-alike X (some x) (some y) m f f' t = t x y m

  pub when-alike : (a b : Bool) → a ≡ b → (x : Step Graph) (y : Step Store) → Steps w g μ x y → Steps w g μ (when a x) (when b y)
  unfolding when
  when-alike true true e x y t = t
  when-alike true false e x y t = let z : ◌≡◌ {A = ℕ} 0 1 = cc in absurd (omega arith)
  when-alike false true e x y t = let z : ◌≡◌ {A = ℕ} 0 1 = cc in absurd (omega arith)
  when-alike false false e x y t = steps-ends stops-broken

-- a node made on both sides
pub made_alike : (w : World) (g s : Graph) (l : List ℕ) → Holds w g (record { nodes = s; free = l }) → (x y : Node) → Mirror (Rel (w)) (Dom (w)) (Ours (w)) g s x y → (f : Graph → ℕ → Step Graph) (f' : Store → ℕ → Step Store) → ((b : ℕ) (g' : Graph) (h : ℕ) → b < length g' → OverStep b (f g' h))
    → ((g' : Graph) (μ' : Store) (o : Grows w g (record { nodes = s; free = l }) g' μ') (h k : ℕ) → Reps o.world g' μ'.nodes h k → Steps w g (record { nodes = s; free = l }) (f g' h) (f' μ' k))
    → Steps w g (record { nodes = s; free = l }) (made (own g x) f) (made (taken s l y) f')
unfolding made own taken
made_alike w g s [] H x y m f f' v t = steps-full (v (length g + 0) (g ++ x ∷ []) (length g) (rw (length-append g (x ∷ [])) (omega arith)))
made_alike w g s (k ∷ fs) H x y m f f' v t = let r = grows-new w g s k fs x y H m in t (g ++ x ∷ []) (record { nodes = set s k y; free = fs }) r.0 (length g) k r.2

pub maybe-keep : {w : World} {g : Graph} {μ : Store} {g' : Graph} {μ' : Store} (o : Grows w g μ g' μ') (R R' : Option ℕ) → Maybe (Reps w g μ.nodes) R R' → Maybe (Reps o.world g' μ'.nodes) R R'
maybe-keep o none none m = tt
maybe-keep o none (some y) m = absurd m
maybe-keep o (some x) none m = absurd m
maybe-keep o (some x) (some y) m = rep-keep o.wider x y m

-- a state after nodes were made
pub state-keep : {w : World} {I N : List ℕ} {R : Option ℕ} {T F : List ℕ} {g : Graph} {I' N' : List ℕ} {R' : Option ℕ} {T' F' : List ℕ} {μ : Store} → States w I N R T F g I' N' R' T' F' μ
    → {g' : Graph} {μ' : Store} (o : Grows w g μ g' μ') → States o.world I N R T F g' I' N' R' T' F' μ'
state-keep {I = I} {N} {R} {T} {F} {I' = I'} {N'} {R'} {T'} {F'} S o = record {
  code = S.code;
  stack = each_keep o.wider N N' S.stack;
  current = maybe-keep o R R' S.current;
  terms = each_keep o.wider T T' S.terms;
  vars = each_keep o.wider F F' S.vars;
  holds = o.holds;
}
