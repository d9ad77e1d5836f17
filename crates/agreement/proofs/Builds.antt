-- What is built behind a graph points backwards, and into the graph only where its slots do.
-- Assumes nothing.
use Prim.Native.Nat.{ℕ, zero, suc, ◌+◌, ◌-◌, ◌≤◌, ◌<◌}
use native.Mathlib.Nat.{add-zero, add-suc, suc-add, not-suc-le-zero, le_trans}
use native.Mathlib.Decide.{dec_lt}
use native.Mathlib.Omega.{arith}
use mathlib.Core.Path.{◌≡◌, refl, sym, ap, ◌∙◌, subst}
use mathlib.Core.Logic.{◌⊎◌, inl, inr}
use mathlib.Core.List.Memᴰ
use mathlib.Core.List.{List, [], ◌∷◌, ◌++◌, append_assoc, append-nil, Memᴰ}
use lib.ListN.{length, get_or, take, replicate, length-append, length-replicate, get_or-append, get_or-eq_default}
use lib.Seq.{get_or-append-add, get_or-append_seam}
use Rattle.heap.proofs.Laws.Numbers.{up_from-at}
use Rattle.book.specs.Syntax.{Symbol, con, Right, Term, Terms, app, slot, fresh, done, arg, join, con_arities, first_con, cons_of}
use Rattle.heap.specs.Graph.{Graph, Node, cell, var, node}
use Rattle.heap.proofs.Laws.Good.{Good, kids}
use Rattle.heap.proofs.Laws.Forward.{Behind}
use Rattle.heap.specs.Build.{up_from, build, build_all, build_right}
use Rattle.engine.specs.Plain.{down_to, instances, build_rights}
use Rattle.engine.specs.Compile.{Program}
use Rattle.agreement.proofs.Fine.{Takes, FineTerm, FineTerms, FineRights}
use Rattle.agreement.proofs.Simulate.{Grown, count-build_all}
use Rattle.engine.specs.Machine.{arity_of}
use Rattle.agreement.proofs.Places.{arity-at}

-- the constructors from number c on are known, with these arities
abbrev pub Numbered : Program → ℕ → List ℕ → Type 0
Numbered m c [] = Unit
Numbered m c (a ∷ more) = Takes m (con c) a × Numbered m (suc c) more

module _ (m : Program) (P : ℕ → Type 0) (L : ℕ) where
  -- a handle of the graph, and one that P allows if it is old
  pub record Hd (g : Graph) (r : ℕ) : Type 0 where
    pub inside : r < length g
    pub allowed : r < L → P r

  -- the nodes from L on
  pub record Back (g : Graph) : Type 0 where
    pub long : L ≤ length g
    pub kid : (x k : ℕ) → L ≤ x → x < length g → Memᴰ k (kids (node g x)) → (k < x) × (k < L → P k)
    pub fine : (x : ℕ) (s : Symbol) (hs : List ℕ) → L ≤ x → node g x ≡ cell s hs → Takes m s (length hs)

  hd-more : (g g' : Graph) (r : ℕ) → length g ≤ length g' → Hd g r → Hd g' r
  hd-more g g' r l d = record { inside = le_trans d.inside l; allowed = d.allowed }

  snoc-more : (g : Graph) (x : Node) → length (g ++ x ∷ []) ≡ suc (length g)
  snoc-more g x = rw (length-append g (x ∷ [])) (omega arith)

  cell-takes : (s : Symbol) (hs : List ℕ) → Takes m s (length hs) → (s' : Symbol) (hs' : List ℕ) → cell s hs ≡ cell s' hs' → Takes m s' (length hs')
  cell-takes s hs t s' hs' e = let a : s ≡ s' = cc in let b : hs ≡ hs' = cc in subst (λ (y : Symbol). Takes m y (length hs')) a (subst (λ (l : List ℕ). Takes m s (length l)) b t)

  -- one more node
  back-snoc : (g : Graph) (x : Node) → Back g → ((k : ℕ) → Memᴰ k (kids x) → Hd g k) → ((s : Symbol) (hs : List ℕ) → x ≡ cell s hs → Takes m s (length hs)) → Back (g ++ x ∷ [])
  back-snoc g x b ks f = record {
    long = rw (snoc-more g x) (let l = b.long in omega arith);
    kid = λ y k l i w. kid' y k l (rw (snoc-more g x) at i) w (dec_lt y (length g));
    fine = λ y s hs l e. fine' y s hs l e (dec_lt y (length g));
  }
    where
      kid' : (y k : ℕ) → L ≤ y → y < suc (length g) → Memᴰ k (kids (node (g ++ x ∷ []) y)) → Dec (y < length g) → (k < y) × (k < L → P k)
      kid' y k l i w (yes p) = b.kid y k l p (rw (get_or-append g (x ∷ []) var y p) at w)
      kid' y k l i w (no p) =
          let e : y ≡ length g = omega arith in
          let d = ks k (rw (e, get_or-append_seam g x [] var) at w) in
          (rw e d.inside, d.allowed)

      last : (s : Symbol) (hs : List ℕ) (u : ℕ) → get_or (x ∷ []) u var ≡ cell s hs → Takes m s (length hs)
      last s hs zero e = f s hs e
      last s hs (suc u) e = let z : ◌≡◌ {A = ℕ} 0 1 = cc in absurd (omega arith)

      fine' : (y : ℕ) (s : Symbol) (hs : List ℕ) → L ≤ y → node (g ++ x ∷ []) y ≡ cell s hs → Dec (y < length g) → Takes m s (length hs)
      fine' y s hs l e (yes p) = b.fine y s hs l (sym (get_or-append g (x ∷ []) var y p) ∙ e)
      fine' y s hs l e (no p) =
          let q : y ≡ length g + (y - length g) = omega arith in
          last s hs (y - length g) (sym (get_or-append-add g (x ∷ []) (y - length g) var) ∙ (rw q at e))

  back-vars : (k : ℕ) (g : Graph) → Back g → Back (g ++ replicate k var)
  back-vars zero g b = rw (append-nil g) b
  back-vars (suc k) g b =
      rw (append_assoc g (var ∷ []) (replicate k var)) at (back-vars k (g ++ var ∷ []) (back-snoc g var b (λ k w. absurd (Memᴰ.not-nil w)) (λ s hs e. (let z : ◌≡◌ {A = ℕ} 0 1 = cc in absurd (omega arith)))))

  either : {g : Graph} {y : ℕ} {ys : List ℕ} (k : ℕ) → Hd g y → (Memᴰ k ys → Hd g k) → (k ≡ y) ⊎ Memᴰ k ys → Hd g k
  either k d f (inl e) = rw e d
  either k d f (inr w) = f w

  pub record Made (g g' : Graph) : Type 0 where
    pub back : Back g'
    pub more : length g ≤ length g'

  module _ (n v : ℕ) (slots vars : List ℕ) where
    mutual
      unfolding build build_all

      build-made : (t : Term) → FineTerm m n v t → (g : Graph) → ((i : ℕ) → i < n → Hd g (get_or slots i 0)) → ((i : ℕ) → i < v → Hd g (get_or vars i 0)) → Back g
          → Made g (build t slots vars g).0 × Hd (build t slots vars g).0 (build t slots vars g).1
      build-made (app s ts) (kn, ar, f) g hs hv b =
          let M = builds-made ts f g hs hv b in
          let p = build_all ts slots vars g in
          let x = cell s p.1 in
          let l = M.0.more in (
            record { back = back-snoc p.0 x M.0.back M.1 (cell-takes s p.1 (record { known = kn; exact = count-build_all ts slots vars g ∙ ar })); more = rw (snoc-more p.0 x) (omega arith) },
            record { inside = rw (snoc-more p.0 x) (omega arith); allowed = λ q. (let o = M.0.back.long in absurd (omega arith)) },
          )
      build-made (slot i) f g hs hv b = (record { back = b; more = omega arith }, hs i f)
      build-made (fresh i) f g hs hv b = (record { back = b; more = omega arith }, hv i f)

      builds-made : (ts : Terms) → FineTerms m n v ts → (g : Graph) → ((i : ℕ) → i < n → Hd g (get_or slots i 0)) → ((i : ℕ) → i < v → Hd g (get_or vars i 0)) → Back g
          → Made g (build_all ts slots vars g).0 × ((k : ℕ) → Memᴰ k (build_all ts slots vars g).1 → Hd (build_all ts slots vars g).0 k)
      builds-made done f g hs hv b = (record { back = b; more = omega arith }, λ k w. absurd (Memᴰ.not-nil w))
      builds-made (arg t ts) (f, fs) g hs hv b =
          let M = builds-made ts fs g hs hv b in
          let p = build_all ts slots vars g in
          let l = M.0.more in
          let O = build-made t f p.0 (λ i q. hd-more g p.0 (get_or slots i 0) l (hs i q)) (λ i q. hd-more g p.0 (get_or vars i 0) l (hv i q)) M.0.back in
          let l' = O.0.more in
          (record { back = O.0.back; more = omega arith }, λ k w. either k O.1 (λ w'. hd-more p.0 (build t slots vars p.0).0 k l' (M.1 k w')) (Memᴰ.cases_cons w))

  -- a RIGHT; all RIGHTs; the instances of a type
  module _ (n : ℕ) (slots : List ℕ) where
    pub right-made : (r : Right) → FineTerm m n r.vars r.term → (g : Graph) → ((i : ℕ) → i < n → Hd g (get_or slots i 0)) → Back g
        → Made g (build_right r slots g).0 × Hd (build_right r slots g).0 (build_right r slots g).1
    unfolding build_right
    right-made r f g hs b =
        let g₁ = g ++ replicate r.vars var in
        let e : length g₁ ≡ length g + r.vars = length-append g (replicate r.vars var) ∙ ap (λ (k : ℕ). length g + k) (length-replicate r.vars var) in
        let l : length g ≤ length g₁ = omega arith in
        let M = build-made n r.vars slots (up_from (length g) r.vars) r.term f g₁ (λ i q. hd-more g g₁ (get_or slots i 0) l (hs i q)) (fresh-hd r g b) (back-vars r.vars g b) in
        let l' = M.0.more in
        (record { back = M.0.back; more = omega arith }, M.1)
      where
        fresh-hd : (r : Right) (g : Graph) → Back g → (i : ℕ) → i < r.vars → Hd (g ++ replicate r.vars var) (get_or (up_from (length g) r.vars) i 0)
        fresh-hd r g b i q = rw (up_from-at r.vars (length g) i q)
            (record { inside = rw (length-append g (replicate r.vars var), length-replicate r.vars var) (omega arith); allowed = λ u. (let o = b.long in absurd (omega arith)) })

    pub rights-made : (rs : List Right) → FineRights m n rs → (g : Graph) → ((i : ℕ) → i < n → Hd g (get_or slots i 0)) → Back g
        → Made g (build_rights rs slots g).0 × ((k : ℕ) → Memᴰ k (build_rights rs slots g).1 → Hd (build_rights rs slots g).0 k)
    unfolding build_rights
    rights-made [] f g hs b = (record { back = b; more = omega arith }, λ k w. absurd (Memᴰ.not-nil w))
    rights-made (r ∷ rs) (f, fs) g hs b =
        let M = right-made r f g hs b in
        let p = build_right r slots g in
        let l = M.0.more in
        let O = rights-made rs fs p.0 (λ i q. hd-more g p.0 (get_or slots i 0) l (hs i q)) M.0.back in
        let l' = O.0.more in
        (record { back = O.0.back; more = omega arith }, λ k w. either k (hd-more p.0 (build_rights rs slots p.0).0 p.1 l' M.1) (O.1 k) (Memᴰ.cases_cons w))

  down_to-length : (b n : ℕ) → length (down_to b n) ≡ n
  unfolding down_to
  down_to-length b zero = refl
  down_to-length b (suc n) = ap suc (down_to-length b n)

  down_to-mem : (b n k : ℕ) → Memᴰ k (down_to b n) → (b ≤ k) × (k < b + n)
  unfolding down_to
  down_to-mem b zero k w = absurd (Memᴰ.not-nil w)
  down_to-mem b (suc n) k w = go (down_to-mem b n k) (Memᴰ.cases_cons w)
    where
      go : (Memᴰ k (down_to b n) → (b ≤ k) × (k < b + n)) → (k ≡ b + n) ⊎ Memᴰ k (down_to b n) → (b ≤ k) × (k < b + suc n)
      go ih (inl e) = (omega arith, omega arith)
      go ih (inr u) = let d = ih u in let p = d.0 in let q = d.1 in (omega arith, omega arith)

  pub instances-made : (more : List ℕ) (c : ℕ) → Numbered m c more → (g : Graph) → Back g
      → Made g (instances c more g).0 × ((k : ℕ) → Memᴰ k (instances c more g).1 → Hd (instances c more g).0 k)
  unfolding instances
  instances-made [] c ar g b = (record { back = b; more = omega arith }, λ k w. absurd (Memᴰ.not-nil w))
  instances-made (a ∷ more) c (t, ar) g b =
      let g₁ = g ++ replicate a var in
      let x = cell (con c) (down_to (length g) a) in
      let e : length g₁ ≡ length g + a = length-append g (replicate a var) ∙ ap (λ (k : ℕ). length g + k) (length-replicate a var) in
      let o = b.long in
      let b₁ = back-vars a g b in
      let b₂ = back-snoc g₁ x b₁ (λ k w. (let d = down_to-mem (length g) a k w in let p = d.0 in let q = d.1 in record { inside = omega arith; allowed = λ u. absurd (omega arith) }))
      (cell-takes (con c) (down_to (length g) a) (rw (down_to-length (length g) a) t)) in
      let s : length (g₁ ++ x ∷ []) ≡ suc (length g₁) = snoc-more g₁ x in
      let O = instances-made more (suc c) ar (g₁ ++ x ∷ []) b₂ in
      let l = O.0.more in (
        record { back = O.0.back; more = omega arith },
        λ k w. either k (hd-more (g₁ ++ x ∷ []) (instances (suc c) more (g₁ ++ x ∷ [])).0 (length g + a) l (record { inside = omega arith; allowed = λ u. absurd (omega arith) })) (O.1 k) (Memᴰ.cases_cons w),
      )

-- a graph is behind itself
pub back-self : (m : Program) (P : ℕ → Type 0) (g : Graph) → Back m P (length g) g
back-self m P g = record {
  long = omega arith;
  kid = λ x k l i w. absurd (omega arith);
  fine = λ x s hs l e. (let q = get_or-eq_default g var l in let z : ◌≡◌ {A = ℕ} 0 1 = cc in absurd (omega arith));
}

-- as it serves to make a forward
pub behind : (m : Program) (g : Graph) (G : Good (Takes m) g) (h : ℕ) → h < length g → (g' : Graph) (w : Grown g g') → Back m (λ k. G.rank k < G.rank h) (length g) g'
    → (r : ℕ) → Hd m (λ k. G.rank k < G.rank h) (length g) g' r → Behind G w.0 h r
behind m g G h i g' (new, e) b r d = record {
  old = i;
  back = λ x k l j u. b.kid x k l (rw e j) (rw e u);
  root = rw e at d.inside;
  down = d.allowed;
  fine = λ x s hs l u. b.fine x s hs l (rw e u);
}

con-known : (types : List (List ℕ)) (t j : ℕ) → j < length (cons_of types t) → first_con types t + j < length (con_arities types)
con-known [] t j p = absurd (not-suc-le-zero p)
con-known (l ∷ ls) zero j p = rw (length-append l (join ls)) (omega arith)
con-known (l ∷ ls) (suc t) j p = let h = con-known ls t j p in rw (length-append l (join ls), length-append l (join (take t ls))) (omega arith)

pub numbered-at : (m : Program) (t : ℕ) → Numbered m (first_con m.types t) (cons_of m.types t)
unfolding arity_of
numbered-at m t = from (cons_of m.types t) (first_con m.types t) (λ j p. (con-known m.types t j p, arity-at m.types t j p))
  where
    from : (more : List ℕ) (c : ℕ) → ((j : ℕ) → j < length more → (c + j < length (con_arities m.types)) × (get_or (con_arities m.types) (c + j) 0 ≡ get_or more j 0)) → Numbered m c more
    from [] c f = tt
    from (a ∷ more) c f =
        let d = rw (add-zero c) at (f 0 (omega arith)) in
        (record { known = d.0; exact = sym d.1 }, from more (suc c) (λ j p. rw (suc-add c j, ← add-suc c j) (f (suc j) (omega arith))))
