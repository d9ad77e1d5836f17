-- A computation of the definition stands in the store: what keeps it so, and leaves the others alone.
-- Here, in order: a store changed elsewhere; a call replaced; only free numbers written; parts of lists; a computation laid down; one alternative's copy; the pool; all alternatives; the others.
-- Assumes nothing.
use Prim.Native.Nat.{ℕ, zero, suc, ◌+◌, ◌≤◌, ◌<◌}
use native.Mathlib.Omega.{arith}
use mathlib.Core.Path.{◌≡◌, refl, sym, ap, ◌∙◌, subst}
use mathlib.Core.Logic.{◌⊎◌, inl, inr, ◌≢◌}
use mathlib.Core.Bool.{Bool, true, false}
use mathlib.Core.Option.{Option, none, some}
use mathlib.Core.List.Memᴰ
use mathlib.Core.List.{List, [], ◌∷◌, ◌++◌, map, Memᴰ}
use lib.Dec.{leb, leb→le, nleb→lt}
use lib.ListN.{length, get_or, take, drop, set, length-set, length-drop, length-map, get_or-eq_default}
use native.Mathlib.Decide.{ℕ_discrete, dec_lt}
use lib.Seq.{get_or-set_other, get_or-set_same, length-take-le}
use Rattle.standing.specs.Stands.{World, Rel, Dom, Ours, Reps, Holds, Helds, Stands, Outside, Pool, empty, join, Spread, Touched}
use Rattle.heap.specs.Alike.{Each}
use Rattle.heap.specs.Place.{Distinct, NotFwd}
use Rattle.book.specs.Syntax.{Symbol}
use Rattle.heap.specs.Graph.{Graph, fwd, node, Comp, copy}
use Rattle.heap.proofs.Laws.Good.{Good}
use Rattle.heap.proofs.Laws.Alike.{Wider, rep-keep, each_keep, rep-forward, each-forward, alike-forward, alike-frame, alike_same, leads-apart, reals}
use Rattle.heap.proofs.Laws.Shape.{copy-alike}
use Rattle.heap.proofs.Laws.Pour.{laid-other, laid-length, Solid, At, In, On, poured, poured-rep, poured-reps}
use Rattle.heap.proofs.Laws.Reach.{map_at}
use Rattle.heap.proofs.Laws.Copies.{Whole, copy-whole, copy-solid-of}
use Rattle.engine.specs.Turn.{forward, alternatives, sizes}
use Rattle.engine.specs.Machine.{Kept, from_start, Held, own}
use Rattle.heap.specs.Store.{Store, laid}
use Rattle.standing.specs.Shared.{pour, pour_all}

-- the store has changed only where nothing of w is, and its free numbers are still nobody's
pub record Elsewhere (Q : ℕ → Type 0) (μ μ' : Store) : Type 0 where
  pub nodes : (x : ℕ) → Q x → node μ'.nodes x ≡ node μ.nodes x
  pub size : length μ'.nodes ≡ length μ.nodes
  pub less : (x : ℕ) → Memᴰ x μ'.free → Memᴰ x μ.free
  pub distinct : Distinct μ'.free

pub holds_frame : {w : World} {g : Graph} {μ μ' : Store} → Holds w g μ → Elsewhere (Ours (w)) μ μ' → Holds w g μ'
holds_frame {w} {g} {μ} {μ'} H E = record {
  alike = alike-frame H.alike μ'.nodes E.nodes;
  sized = H.sized;
  in_p = H.in_p;
  in_q = λ x q. rw E.size (H.in_q x q);
  fits = λ x m. rw E.size (H.fits x (E.less x m));
  idle = λ x m. H.idle x (E.less x m);
  distinct = E.distinct;
}

pub still : (w : World) (g : Graph) {μ μ' : Store} → Elsewhere (Ours (w)) μ μ' → Wider (Rel (w)) (Rel (w)) (Dom (w)) (Dom (w)) (Ours (w)) (Ours (w)) g g μ.nodes μ'.nodes
still w g E = record { same = λ h k r. r; left = λ x p. p; right = λ x q. q; left-node = λ x p. refl; right-node = E.nodes }

-- another computation stays as it is
pub stands-frame : {g : Graph} {c : Held} {μ μ' : Store} {c' : Held} (S : Stands g c μ c') → Elsewhere (Ours S.world) μ μ' → Stands g c μ' c'
stands-frame {g} {c} {μ} {μ'} {c'} S E = record {
  world = S.world;
  holds = holds_frame S.holds E;
  helds = record { value = rep-keep W c.value c'.value S.helds.value; askers = each_keep W c.askers c'.askers S.helds.askers; stack = each_keep W c.stack c'.stack S.helds.stack };
}
  where
    W : Wider (Rel S.world) (Rel S.world) (Dom S.world) (Dom S.world) (Ours S.world) (Ours S.world) g g μ.nodes μ'.nodes
    W = still S.world g E

-- a call replaced
module _ {Fine : Symbol → ℕ → Type 0} (w : World) (g : Graph) (μ : Store) (H : Holds w g μ) (h k : ℕ) (hk : Rel (w) h k) (r r' : ℕ) (rr : Reps w g μ.nodes r r') (G : Good Fine (set g h (fwd r))) where
  real-h : NotFwd (node g h)
  real-h = (reals (Rel (w)) (Dom (w)) (Ours (w)) g μ.nodes (node g h) (node μ.nodes k) (H.alike.mirror h k hk)).0

  apart : rr.from ≢ h
  apart = leads-apart {P = Dom (w)} g h r G (H.in_p h (H.alike.left h k hk)) real-h rr.from rr.left

  abbrev w⁻ : World
  w⁻ = record { φ = set w.φ h none; owned = w.owned }

  to : (x y : ℕ) → Rel w x y × (x ≢ h) → Rel w⁻ x y
  to x y (q, d) = get_or-set_other w.φ h x none none d ∙ q

  from : (x y : ℕ) → Rel w⁻ x y → Rel w x y × (x ≢ h)
  from x y q = go (ℕ_discrete x h)
    where
      go : Dec (x ≡ h) → Rel w x y × (x ≢ h)
      go (no d) = (sym (get_or-set_other w.φ h x none none d) ∙ q, d)
      go (yes e) =
          let u : ◌≡◌ {A = Option ℕ} none (some y) = sym (get_or-set_same w.φ h none none (H.alike.left h k hk)) ∙ subst (λ (z : ℕ). get_or (set w.φ h none) z none ≡ some y) e q in
          let z : ◌≡◌ {A = ℕ} 0 1 = cc in absurd (omega arith)

  to_p : (x : ℕ) → Dom w x → Dom w⁻ x
  to_p x p = rw (length-set w.φ h none) p

  abbrev g⁻ : Graph
  g⁻ = set g h (fwd r)

  abbrev μ⁻ : Store
  μ⁻ = record { nodes = set μ.nodes k (fwd r'); free = μ.free }

  pub becomes-holds : Holds w⁻ g⁻ μ⁻
  becomes-holds = record {
    alike = alike_same (alike-forward H.alike H.in_p H.in_q h k hk r r' rr apart) to from to_p (λ x q. q);
    sized = length-set w.φ h none ∙ H.sized ∙ sym (length-set g h (fwd r));
    in_p = λ x p. rw (length-set g h (fwd r)) (H.in_p x (rw (length-set w.φ h none) at p));
    in_q = λ x q. rw (length-set μ.nodes k (fwd r')) (H.in_q x q);
    fits = λ x m. rw (length-set μ.nodes k (fwd r')) (H.fits x m);
    idle = H.idle;
    distinct = H.distinct;
  }

  again : Wider (λ x y. Rel w x y × (x ≢ h)) (Rel w⁻) (Dom w) (Dom w⁻) (Ours w) (Ours w) g⁻ g⁻ (set μ.nodes k (fwd r')) (set μ.nodes k (fwd r'))
  again = record { same = to; left = to_p; right = λ x q. q; left-node = λ x p. refl; right-node = λ x q. refl }

  pub becomes-each : (hs ks : List ℕ) → Each (Reps w g μ.nodes) hs ks → Each (Reps w⁻ g⁻ (set μ.nodes k (fwd r'))) hs ks
  becomes-each hs ks e = each_keep again hs ks (each-forward H.alike H.in_p H.in_q h k hk r r' rr apart hs ks e)

  pub becomes-rep : (x y : ℕ) → Reps w g μ.nodes x y → Reps w⁻ g⁻ (set μ.nodes k (fwd r')) x y
  becomes-rep x y e = rep-keep again x y (rep-forward H.alike H.in_p H.in_q h k hk r r' rr apart x y e)

  -- a computation that stood still stands
  abbrev pub becomes-stands : (c c' : Held) → Helds w g μ.nodes c c' → Stands g⁻ c μ⁻ c'
  becomes-stands c c' a = record {
    world = w⁻;
    holds = becomes-holds;
    helds = record { value = becomes-rep c.value c'.value a.value; askers = becomes-each c.askers c'.askers a.askers; stack = becomes-each c.stack c'.stack a.stack };
  }

  -- as it is copied, forwards left out
  pub becomes-copy : (v v' : ℕ) (ws ws' : List ℕ) → Reps w g μ.nodes v v' → Each (Reps w g μ.nodes) ws ws'
      → copy (record { graph = g⁻; value = v; askers = ws }) ≡ copy (record { graph = set μ.nodes k (fwd r'); value = v'; askers = ws' })
  becomes-copy v v' ws ws' a b = copy-alike becomes-holds.alike becomes-holds.in_p becomes-holds.in_q v v' ws ws' (becomes-rep v v' a) (becomes-each ws ws' b)

outside-none : (μ : Store) → Distinct μ.free → Outside μ μ
outside-none μ d = record { nodes = λ x n. refl; size = refl; less = λ x m. m; distinct = d }

pub outside-then : {μ μ' μ'' : Store} → Outside μ μ' → Outside μ' μ'' → Outside μ μ''
outside-then A B = record {
  nodes = λ x n. B.nodes x (λ m. n (A.less x m)) ∙ A.nodes x n;
  size = B.size ∙ A.size;
  less = λ x m. A.less x (B.less x m);
  distinct = B.distinct;
}

pub elsewhere : {Q : ℕ → Type 0} {μ μ' : Store} → Outside μ μ' → ((x : ℕ) → Memᴰ x μ.free → ¬ (Q x)) → Elsewhere Q μ μ'
elsewhere O f = record { nodes = λ x q. O.nodes x (λ m. f x m q); size = O.size; less = O.less; distinct = O.distinct }

mem-take : (n : ℕ) (l : List ℕ) (x : ℕ) → Memᴰ x (take n l) → Memᴰ x l
mem-take zero l x m = absurd (Memᴰ.not-nil m)
mem-take (suc n) [] x m = m
mem-take (suc n) (y ∷ l) x m = go (mem-take n l x) (Memᴰ.cases_cons m)
  where
    go : (Memᴰ x (take n l) → Memᴰ x l) → (x ≡ y) ⊎ Memᴰ x (take n l) → Memᴰ x (y ∷ l)
    go ih (inl e) = Memᴰ.head e
    go ih (inr w) = Memᴰ.tail (ih w)

mem-drop : (n : ℕ) (l : List ℕ) (x : ℕ) → Memᴰ x (drop n l) → Memᴰ x l
mem-drop zero l x m = m
mem-drop (suc n) [] x m = m
mem-drop (suc n) (y ∷ l) x m = Memᴰ.tail (mem-drop n l x m)

distinct-take : (n : ℕ) (l : List ℕ) → Distinct l → Distinct (take n l)
distinct-take zero l d = tt
distinct-take (suc n) [] d = tt
distinct-take (suc n) (y ∷ l) d = (λ x m. d.0 x (mem-take n l x m), distinct-take n l d.1)

distinct-drop : (n : ℕ) (l : List ℕ) → Distinct l → Distinct (drop n l)
distinct-drop zero l d = d
distinct-drop (suc n) [] d = tt
distinct-drop (suc n) (y ∷ l) d = distinct-drop n l d.1

distinct-parts : (n : ℕ) (l : List ℕ) → Distinct l → (x : ℕ) → Memᴰ x (drop n l) → ¬ (Memᴰ x (take n l))
distinct-parts zero l d x m u = Memᴰ.not-nil u
distinct-parts (suc n) [] d x m u = Memᴰ.not-nil u
distinct-parts (suc n) (y ∷ l) d x m u = go (distinct-parts n l d.1 x m) (Memᴰ.cases_cons u)
  where
    go : ¬ (Memᴰ x (take n l)) → (x ≡ y) ⊎ Memᴰ x (take n l) → ⊥
    go ih (inl e) = d.0 x (mem-drop n l x m) e
    go ih (inr w) = ih w

abbrev pub at_start : Comp → Held
at_start c = record { value = c.value; askers = c.askers; stack = [] }

pub record Poured (C : Comp) (μ μ' : Store) (c : Held) : Type 0 where
  pub stands : Stands C.graph (at_start C) μ' c
  pub new : (x : ℕ) → Ours stands.world x → Memᴰ x μ.free
  pub outside : Outside μ μ'
  pub count : length C.graph + length μ'.free ≡ length μ.free

pub pour-stands : (C : Comp) → Solid C.graph → C.value < length C.graph → ((h : ℕ) → Memᴰ h C.askers → h < length C.graph) → (μ : Store) → Distinct μ.free → ((x : ℕ) → Memᴰ x μ.free → x < length μ.nodes)
    → (μ' : Store) (c : Held) → pour C μ ≡ some (μ', c) → Poured C μ μ' c
unfolding pour
pour-stands C S v a μ d f μ' c e = go (leb (length C.graph) (length μ.free)) refl
  where
    n : ℕ
    n = length C.graph

    ks : List ℕ
    ks = take n μ.free

    μ₁ : Store
    μ₁ = record { nodes = laid ks C.graph ks μ.nodes; free = drop n μ.free }

    c₁ : Held
    c₁ = record { value = get_or ks C.value 0; askers = map (λ h. get_or ks h 0) C.askers; stack = [] }

    w₁ : World
    w₁ = record { φ = map some ks; owned = ks }

    from_p₁ : n ≡ length ks → (x : ℕ) → x < length (map some ks) → x < length C.graph
    from_p₁ l x p = let q : x < length ks = rw (length-map ks some) at p in omega arith

    to_p₁ : n ≡ length ks → (x : ℕ) → x < length C.graph → x < length (map some ks)
    to_p₁ l x p = rw (length-map ks some) (omega arith)

    to₁ : n ≡ length ks → (i k : ℕ) → (i < length C.graph) × (get_or ks i 0 ≡ k) → get_or (map some ks) i none ≡ some k
    to₁ l i k (p, e) = map_at some none ks i (omega arith) ∙ ap some e

    from₁ : n ≡ length ks → (i k : ℕ) → get_or (map some ks) i none ≡ some k → (i < length C.graph) × (get_or ks i 0 ≡ k)
    from₁ l i k e = at_i (dec_lt i (length ks))
      where
        at_i : Dec (i < length ks) → (i < length C.graph) × (get_or ks i 0 ≡ k)
        at_i (yes p) = let u : some (get_or ks i 0) ≡ some k = sym (map_at some none ks i p) ∙ e in (omega arith, cc)
        at_i (no p) =
            let j : length (map some ks) ≤ i = rw (length-map ks some) (omega arith) in
            let u : ◌≡◌ {A = Option ℕ} none (some k) = sym (get_or-eq_default (map some ks) none j) ∙ e in
            let z : ◌≡◌ {A = ℕ} 0 1 = cc in absurd (omega arith)

    W₁ : (l : n ≡ length ks) (dk : Distinct ks) (fk : (k : ℕ) → Memᴰ k ks → k < length μ.nodes) → Wider (At C.graph μ.nodes ks S dk fk l) (Rel w₁) (In C.graph μ.nodes ks S dk fk l) (Dom w₁) (On C.graph μ.nodes ks S dk fk l) (Ours w₁) C.graph C.graph (laid ks C.graph ks μ.nodes) (laid ks C.graph ks μ.nodes)
    W₁ l dk fk = record { same = to₁ l; left = to_p₁ l; right = λ x q. q; left-node = λ x p. refl; right-node = λ x q. refl }

    poured₁ : n ≤ length μ.free → Poured C μ μ₁ c₁
    poured₁ i =
        let l : length C.graph ≡ length ks = sym (length-take-le n μ.free i) in
        let dk : Distinct ks = distinct-take n μ.free d in
        let fk : (k : ℕ) → Memᴰ k ks → k < length μ.nodes = (λ k m. f k (mem-take n μ.free k m)) in
        let z = laid-length ks C.graph ks μ.nodes in
        record {
          stands = record {
            world = w₁;
            holds = record {
              alike = alike_same (poured C.graph μ.nodes ks S dk fk l) (to₁ l) (from₁ l) (to_p₁ l) (λ x q. q);
              sized = length-map ks some ∙ sym l;
              in_p = λ x p. from_p₁ l x p;
              in_q = λ x q. rw z (fk x q);
              fits = λ x m. rw z (f x (mem-drop n μ.free x m));
              idle = λ x m. distinct-parts n μ.free d x m;
              distinct = distinct-drop n μ.free d;
            };
            helds = record {
              value = rep-keep (W₁ l dk fk) C.value (get_or ks C.value 0) (poured-rep C.graph μ.nodes ks S dk fk l C.value v);
              askers = each_keep (W₁ l dk fk) C.askers (map (λ h. get_or ks h 0) C.askers) (poured-reps C.graph μ.nodes ks S dk fk l C.askers a);
              stack = tt;
            };
          };
          new = λ x m. mem-take n μ.free x m;
          count = rw (length-drop n μ.free) (omega arith);
          outside = record {
            nodes = λ x u. laid-other ks C.graph ks μ.nodes x (λ m. u (mem-take n μ.free x m));
            size = z;
            less = λ x m. mem-drop n μ.free x m;
            distinct = distinct-drop n μ.free d;
          };
        }

    go : (b : Bool) → leb (length C.graph) (length μ.free) ≡ b → Poured C μ μ' c
    go false q = let u : ◌≡◌ {A = Option (Store × Held)} none (some (μ', c)) = rw (q, pour) at e in let z : ◌≡◌ {A = ℕ} 0 1 = cc in absurd (omega arith)
    go true q =
        let u : ◌≡◌ {A = Option (Store × Held)} (some (μ₁, c₁)) (some (μ', c)) = rw (q, pour) at e in
        let w : ◌≡◌ {A = Store × Held} (μ₁, c₁) (μ', c) = cc in
        subst (λ (p : Store × Held). Poured C μ p.0 p.1) w (poured₁ (leb→le n (length μ.free) (rw q tt)))

-- a copy for one alternative, laid down
module _ {Fine : Symbol → ℕ → Type 0} (w : World) (g : Graph) (μ : Store) (H : Holds w g μ) (h k : ℕ) (hk : Rel w h k) (r r' : ℕ) (rr : Reps w g μ.nodes r r') (v v' : ℕ) (ws ws' : List ℕ) (a : Reps w g μ.nodes v v') (b : Each (Reps w g μ.nodes) ws ws')
    (W : Whole Fine (record { graph = forward g h r; value = v; askers = ws })) where
  abbrev C₁ : Comp
  C₁ = record { graph = forward g h r; value = v; askers = ws }

  abbrev C₂ : Comp
  C₂ = record { graph = forward μ.nodes k r'; value = v'; askers = ws' }

  copy-same : copy C₁ ≡ copy C₂
  unfolding forward
  copy-same = becomes-copy {Fine = Fine} w g μ H h k hk r r' rr W.good v v' ws ws' a b

  pub copy-poured : (μ' : Store) (d : Held) → pour (copy C₂) μ ≡ some (μ', d) → Poured (copy C₁) μ μ' d
  copy-poured μ' d q =
      let B = copy-whole Fine C₁ W in
      pour-stands (copy C₁) (copy-solid-of Fine C₁ W) B.value_in B.askers-in μ H.distinct H.fits μ' d (ap (λ (C : Comp). pour C μ) copy-same ∙ q)

pub pool-frame : {μ μ' : Store} {ks : List Kept} {cs : List Held} {own : List ℕ} → Pool μ ks cs own → Elsewhere (λ x. Memᴰ x own) μ μ' → Pool μ' ks cs own
unfolding stands-frame
pool-frame empty E = empty
pool-frame (join {own = own} S p a) E = join (stands-frame S (record { nodes = λ x q. E.nodes x (Memᴰ.append_left own q); size = E.size; less = E.less; distinct = E.distinct }))
    (pool-frame p (record { nodes = λ x q. E.nodes x (Memᴰ.append_right S.world.owned q); size = E.size; less = E.less; distinct = E.distinct })) a

pub record PourSome (μ : Store) (c : Held) (h k : ℕ) (ks : List ℕ) (μ'' : Store) (cs : List Held) : Type 0 where
  pub first : Store × Held
  pub then : Store × List Held
  pub one : pour (copy (record { graph = forward μ.nodes h k; value = c.value; askers = c.askers })) μ ≡ some first
  pub more : pour_all first.0 c h ks ≡ some then
  pub last : then.0 ≡ μ''
  pub all : first.1 ∷ then.1 ≡ cs

pour-some : (μ : Store) (c : Held) (h k : ℕ) (ks : List ℕ) (μ'' : Store) (cs : List Held) → pour_all μ c h (k ∷ ks) ≡ some (μ'', cs) → PourSome μ c h k ks μ'' cs
unfolding pour_all
pour-some μ c h k ks μ'' cs e = go (pour (copy (record { graph = forward μ.nodes h k; value = c.value; askers = c.askers })) μ) refl
  where
    at_more : (p : Store × Held) → pour (copy (record { graph = forward μ.nodes h k; value = c.value; askers = c.askers })) μ ≡ some p → (o : Option (Store × List Held)) → pour_all p.0 c h ks ≡ o → PourSome μ c h k ks μ'' cs
    at_more p q none r = let u : ◌≡◌ {A = Option (Store × List Held)} none (some (μ'', cs)) = rw (q, r, pour_all) at e in let z : ◌≡◌ {A = ℕ} 0 1 = cc in absurd (omega arith)
    at_more p q (some x) r =
        let u : ◌≡◌ {A = Option (Store × List Held)} (some (x.0, p.1 ∷ x.1)) (some (μ'', cs)) = rw (q, r, pour_all) at e in
        let w : ◌≡◌ {A = Store × List Held} (x.0, p.1 ∷ x.1) (μ'', cs) = cc in
        record { first = p; then = x; one = q; more = r; last = ap (λ (z : Store × List Held). z.0) w; all = ap (λ (z : Store × List Held). z.1) w }

    go : (o : Option (Store × Held)) → pour (copy (record { graph = forward μ.nodes h k; value = c.value; askers = c.askers })) μ ≡ o → PourSome μ c h k ks μ'' cs
    go none q = let u : ◌≡◌ {A = Option (Store × List Held)} none (some (μ'', cs)) = rw (q, pour_all) at e in let z : ◌≡◌ {A = ℕ} 0 1 = cc in absurd (omega arith)
    go (some p) q = at_more p q (pour_all p.0 c h ks) refl

module _ (Fine : Symbol → ℕ → Type 0) (w : World) (g : Graph) (v v' : ℕ) (ws ws' : List ℕ) (st' : List ℕ) (h k : ℕ) (hk : Rel (w) h k) where
  abbrev here' : Comp
  here' = record { graph = g; value = v; askers = ws }

  abbrev there' : Held
  there' = record { value = v'; askers = ws'; stack = st' }

  pub spread : (rs rs' : List ℕ) (μ : Store) → Holds w g μ → Reps w g μ.nodes v v' → Each (Reps w g μ.nodes) ws ws' → Each (Reps w g μ.nodes) rs rs'
      → ((r : ℕ) → Memᴰ r rs → Whole Fine (record { graph = forward g h r; value = v; askers = ws })) → (μ'' : Store) (cs : List Held) → pour_all μ there' k rs' ≡ some (μ'', cs) → Spread (sizes (alternatives here' h rs)) μ μ'' (map from_start (alternatives here' h rs)) cs
  unfolding sizes alternatives from_start stands-frame forward
  spread [] [] μ H a b e W μ'' cs q =
      let u : ◌≡◌ {A = Option (Store × List Held)} (some (μ, [])) (some (μ'', cs)) = unfold pour_all in q in
      let z : ◌≡◌ {A = Store × List Held} (μ, []) (μ'', cs) = cc in
      subst (λ (p : Store × List Held). Spread 0 μ p.0 [] p.1) z (record { own = []; pool = empty; new = λ x o. absurd (Memᴰ.not-nil o); outside = outside-none μ H.distinct; count = omega arith })
  spread [] (r' ∷ rs') μ H a b e W μ'' cs q = absurd e
  spread (r ∷ rs) [] μ H a b e W μ'' cs q = absurd e
  spread (r ∷ rs) (r' ∷ rs') μ H a b (e, es) W μ'' cs q =
      let D = pour-some μ there' k r' rs' μ'' cs q in
      let μ₁ = D.first.0 in
      let C : Comp = copy (record { graph = forward g h r; value = v; askers = ws }) in
      let Z = copy-poured {Fine = Fine} w g μ H h k hk r r' e v v' ws ws' a b (W r (Memᴰ.head refl)) μ₁ D.first.1 D.one in
      let E : Elsewhere (Ours (w)) μ μ₁ = elsewhere Z.outside (λ x m. H.idle x m) in
      let K : Wider (Rel (w)) (Rel (w)) (Dom (w)) (Dom (w)) (Ours (w)) (Ours (w)) g g μ.nodes μ₁.nodes = still w g E in
      let I = spread rs rs' μ₁ (holds_frame H E) (rep-keep K v v' a) (each_keep K ws ws' b) (each_keep K rs rs' es) (λ x m. W x (Memᴰ.tail m)) D.then.0 D.then.1 D.more in
      subst (λ (p : Store). Spread (sizes (alternatives here' h (r ∷ rs))) μ p (map from_start (alternatives here' h (r ∷ rs))) cs) D.last
      (subst (λ (p : List Held). Spread (sizes (alternatives here' h (r ∷ rs))) μ D.then.0 (map from_start (alternatives here' h (r ∷ rs))) p) D.all
      (joined rs μ C Z I))
    where
      joined : (rs : List ℕ) (μ : Store) (C : Comp) {μ₁ : Store} {c : Held} (Z : Poured C μ μ₁ c) {μ₂ : Store} {ds : List Held} (I : Spread (sizes (alternatives here' h rs)) μ₁ μ₂ (map from_start (alternatives here' h rs)) ds) → Spread (length C.graph + sizes (alternatives here' h rs)) μ μ₂ (from_start C ∷ map from_start (alternatives here' h rs)) (c ∷ ds)
      joined rs μ C {μ₁} Z I = record {
        own = Z.stands.world.owned ++ I.own;
        pool = join (stands-frame Z.stands (elsewhere I.outside (λ x m. Z.stands.holds.idle x m))) I.pool (λ x p o. Z.stands.holds.idle x (I.new x o) p);
        new = λ x m. new' x (Memᴰ.append_cases Z.stands.world.owned m);
        outside = outside-then Z.outside I.outside;
        count = (let a = Z.count in let b = I.count in omega arith);
      }
        where
          new' : (x : ℕ) → Ours Z.stands.world x ⊎ Memᴰ x I.own → Memᴰ x μ.free
          new' x (inl p) = Z.new x p
          new' x (inr o) = Z.outside.less x (I.new x o)

pub pour-none : (C : Comp) (μ : Store) → pour C μ ≡ none → length μ.free < length C.graph
unfolding pour
pour-none C μ e = go (leb (length C.graph) (length μ.free)) refl
  where
    go : (b : Bool) → leb (length C.graph) (length μ.free) ≡ b → length μ.free < length C.graph
    go false q = nleb→lt (length C.graph) (length μ.free) (rw q tt)
    go true q = let u = rw (q, pour) at e in let z : ◌≡◌ {A = ℕ} 0 1 = cc in absurd (omega arith)

pour-rest : (μ : Store) (c : Held) (h k : ℕ) (ks : List ℕ) (p : Store × Held) → pour (copy (record { graph = forward μ.nodes h k; value = c.value; askers = c.askers })) μ ≡ some p → pour_all μ c h (k ∷ ks) ≡ none → pour_all p.0 c h ks ≡ none
unfolding pour_all
pour-rest μ c h k ks p e q = go (pour_all p.0 c h ks) refl
  where
    go : (o : Option (Store × List Held)) → pour_all p.0 c h ks ≡ o → o ≡ none
    go none u = refl
    go (some x) u = let y : ◌≡◌ {A = Option (Store × List Held)} (some (x.0, p.1 ∷ x.1)) none = rw (e, u, pour_all) at q in let z : ◌≡◌ {A = ℕ} 0 1 = cc in absurd (omega arith)

module _ (Fine : Symbol → ℕ → Type 0) (w : World) (g : Graph) (v v' : ℕ) (ws ws' : List ℕ) (st' : List ℕ) (h k : ℕ) (hk : Rel (w) h k) where
  -- the copies do not fit
  pub spread-full : (rs rs' : List ℕ) (μ : Store) → Holds w g μ → Reps w g μ.nodes v v' → Each (Reps w g μ.nodes) ws ws' → Each (Reps w g μ.nodes) rs rs'
      → ((r : ℕ) → Memᴰ r rs → Whole Fine (record { graph = forward g h r; value = v; askers = ws })) → pour_all μ (record { value = v'; askers = ws'; stack = st' }) k rs' ≡ none
      → length μ.free < sizes (alternatives (record { graph = g; value = v; askers = ws }) h rs)
  unfolding alternatives sizes forward
  spread-full [] [] μ H a b e W q = let u : ◌≡◌ {A = Option (Store × List Held)} (some (μ, [])) none = unfold pour_all in q in let z : ◌≡◌ {A = ℕ} 0 1 = cc in absurd (omega arith)
  spread-full [] (r' ∷ rs') μ H a b e W q = absurd e
  spread-full (r ∷ rs) [] μ H a b e W q = absurd e
  spread-full (r ∷ rs) (r' ∷ rs') μ H a b (e, es) W q =
      go (λ μ₁ E. (let K : Wider (Rel (w)) (Rel (w)) (Dom (w)) (Dom (w)) (Ours (w)) (Ours (w)) g g μ.nodes μ₁.nodes = still w g E in
      spread-full rs rs' μ₁ (holds_frame H E) (rep-keep K v v' a) (each_keep K ws ws' b) (each_keep K rs rs' es) (λ x m. W x (Memᴰ.tail m)))) (pour C₃ μ) refl
    where
      W₁ : Whole Fine (record { graph = forward g h r; value = v; askers = ws })
      W₁ = W r (Memᴰ.head refl)

      C₃ : Comp
      C₃ = copy (record { graph = forward μ.nodes k r'; value = v'; askers = ws' })

      rest : List Comp
      rest = alternatives (record { graph = g; value = v; askers = ws }) h rs

      size : length (copy (record { graph = forward g h r; value = v; askers = ws })).graph ≡ length C₃.graph
      size = ap (λ (C : Comp). length C.graph) (copy-same {Fine = Fine} w g μ H h k hk r r' e v v' ws ws' a b W₁)

      go : ((μ₁ : Store) → Elsewhere (Ours (w)) μ μ₁ → pour_all μ₁ (record { value = v'; askers = ws'; stack = st' }) k rs' ≡ none → length μ₁.free < sizes rest) → (o : Option (Store × Held)) → pour C₃ μ ≡ o
          → length μ.free < length (copy (record { graph = forward g h r; value = v; askers = ws })).graph + sizes rest
      go ih none p = let i = pour-none C₃ μ p in let n = size in omega arith
      go ih (some x) p =
          let Z = copy-poured {Fine = Fine} w g μ H h k hk r r' e v v' ws ws' a b W₁ x.0 x.1 p in
          let i = ih x.0 (elsewhere Z.outside (λ y m. H.idle y m)) (pour-rest μ (record { value = v'; askers = ws'; stack = st' }) k r' rs' x p q) in
          let j = Z.count in
          omega arith

-- the others are left alone
pub others : {Q : ℕ → Type 0} {μ μ' : Store} {ks : List Kept} {cs : List Held} {own : List ℕ} → Touched Q μ μ' → Pool μ ks cs own → ((x : ℕ) → Memᴰ x own → ¬ (Q x)) → ((x : ℕ) → Memᴰ x own → ¬ (Memᴰ x μ.free)) → Pool μ' ks cs own
others T p a b = pool-frame p (record { nodes = λ x o. T.nodes x (a x o) (b x o); size = T.size; less = T.less; distinct = T.distinct })
