-- A turn keeps the walk's invariant, and fewer turns are left.
-- Here, in order: how many nodes are not finished; the invariant; its start; what a turn relies on; a turn up, down, and at a call; the path's end.
-- Assumes nothing.
use Prim.Native.Nat.{ℕ, zero, suc, ◌+◌, ◌-◌, ◌*◌, ◌≤◌, ◌<◌}
use native.Mathlib.Omega.{arith}
use native.Mathlib.Nat.{suc-mul, mul-le-mul_right}
use native.Mathlib.Numerals.{add-one}
use mathlib.Core.Path.{◌≡◌, refl, sym, ap, ◌∙◌, subst}
use mathlib.Core.Logic.{inr, ◌≢◌}
use mathlib.Core.Option.{none, some}
use mathlib.Core.List.{List, [], ◌∷◌, Memᴰ}
use lib.ListN.{length, get_or, set}
use lib.Seq.{get_or-set_same, get_or-set_other}
use Rattle.mem.specs.Words.{words}
use Rattle.book.specs.Syntax.{con}
use Rattle.heap.specs.Graph.{Graph, cell, node, look, args, first_call}
use Rattle.heap.proofs.Laws.Reach.{index_of-mem}
use Rattle.standing.specs.Part.{Handle}
use Rattle.store.specs.Regions.{graph_of, marks_of, links_of, Memory}
use Rattle.store.proofs.Laws.{length-graph}
use Rattle.store.proofs.Writes.{length-marks, length-links}
use Rattle.seek.specs.Path.{To, Shut, Closed, Open, Above, Trail, upon}
use Rattle.seek.specs.Search.{IsQuiet, IsCell, IsCall, First, AllQuiet, Fit, Up, Finished, Hits, Leaves, Walks}
use Rattle.seek.proofs.Ranks.{height, height-low}
use Rattle.seek.proofs.Finds.{found_in, find-fun}
use Rattle.seek.proofs.Shuts.{to_made, quiet-shut, shut_none, shut-more, still-finished, closed-finish}
use Rattle.seek.proofs.Trails.{Grown, Node, kid-handle, above_lower, above-node, trail-open, trail-base, trail-node, trail-linked, trail-below, hit-down, trail-kept}

-- how many are not finished
unfoldable pub weight : ℕ → ℕ
weight zero = 1
weight (suc zero) = 1
weight (suc (suc zero)) = 0
weight (suc (suc (suc n))) = 1

unfoldable pub unfinished : List ℕ → ℕ
unfinished [] = 0
unfinished (m ∷ l) = weight m + unfinished l

weight-few : (m : ℕ) → weight m ≤ 1
unfolding weight
weight-few zero = omega arith
weight-few (suc zero) = omega arith
weight-few (suc (suc zero)) = omega arith
weight-few (suc (suc (suc n))) = omega arith

weight-one : (m : ℕ) → m ≢ 2 → weight m ≡ 1
unfolding weight
weight-one zero h = refl
weight-one (suc zero) h = refl
weight-one (suc (suc zero)) h = absurd (h refl)
weight-one (suc (suc (suc n))) h = refl

pub unfinished-few : (l : List ℕ) → unfinished l ≤ length l
unfolding unfinished
unfinished-few [] = omega arith
unfinished-few (m ∷ l) = let a = weight-few m in let b = unfinished-few l in omega arith

pub unfinished-less : (l : List ℕ) (n : ℕ) → n < length l → get_or l n 0 ≢ 2 → unfinished l ≡ suc (unfinished (set l n 2))
unfolding unfinished
unfinished-less [] n h e = absurd (omega arith)
unfinished-less (m ∷ l) zero h e = let a = weight-one m e in let z : weight 2 ≡ 0 = (unfold weight in refl) in omega arith
unfinished-less (m ∷ l) (suc n) h e = let a = unfinished-less l n (omega arith) e in omega arith

-- bounds on the turns left
less-up : (a x y n : ℕ) → a + x < n → y < x → a + y < n - 1
less-up a x y n h l = omega arith

less-down : (L u x y n : ℕ) → suc u * suc L + x < n → y ≤ L → u * suc L + y < n - 1
less-down L u x y n h l = go (u * suc L) (rw suc-mul at h)
  where
    go : (a : ℕ) → a + suc L + x < n → a + y < n - 1
    go a k = omega arith

less-start : (L u x : ℕ) → u ≤ L → x ≤ L → u * suc L + x < L * (L + 1) + L + 1
less-start L u x h l = rw (add-one L) (go (u * suc L) (L * suc L) (mul-le-mul_right (suc L) h))
  where
    go : (a c : ℕ) → a ≤ c → a + x < c + L + 1
    go a c k = omega arith

-- a list's members by their places
shut-all : (f : ℕ → Type 0) (l : List ℕ) → ((j : ℕ) → j < length l → f (get_or l j 0)) → (k : ℕ) → Memᴰ k l → f k
shut-all f l h k m = let i = index_of-mem k l m in subst f i.3 (h i.0 i.2)

-- the same graph and the same marks
grown-none : (made : ℕ) (g : Graph) (marks : List ℕ) → Grown made g marks made g marks
grown-none made g marks = record { shut = λ k S. S; cells = λ x h o. refl; leads = λ e k o l. l }

-- the invariant of the walk that began with s₀ at t₀
module _ {L r b t₀ : ℕ} {s₀ : List ℕ} (W : Walks L r b t₀ s₀) where
  abbrev g : Graph
  g = graph_of L s₀

  abbrev high : ℕ → ℕ
  high = height W.ground.part

  pub record Going (s : List ℕ) (t left : ℕ) : Type 0 where
    pub leaves : Leaves L W.made W.own s₀ s
    pub trail : Trail W.made g (marks_of L s) (links_of L s) r b t
    pub bound : unfinished (marks_of L s) * suc L + high t < left

  low-high : {n : ℕ} → Node W.ground n → high n ≤ L
  low-high {n} N = let a = height-low W.ground.part n N.handle in let e = ap high N.ended in let l = length-graph L s₀ in omega arith

  node_in : {n : ℕ} → Node W.ground n → n < L
  node_in {n} N = let a = W.ground.part.inside n N.handle in let l = length-graph L s₀ in omega arith

  pub going_start : 16 * L ≤ length (words s₀) → Going s₀ t₀ (L * (L + 1) + L + 1)
  going_start room = record {
    leaves = record { graph = refl; places = refl; rest = refl; long = refl; marks = λ x o. refl; links = λ x o. refl; finished = λ x e. e; closed = W.closed };
    trail = W.trail;
    bound = (let a = unfinished-few (marks_of L s₀) in let l = length-marks L s₀ room in less-start L (unfinished (marks_of L s₀)) (high t₀) (omega arith) (low-high (trail-node W.ground W.trail)));
  }

  pub going-none : {s : List ℕ} {t : ℕ} {left : ℕ} → Going s t left → left ≤ 0 → ⊥
  going-none {s} {t} {left} J h = go (unfinished (marks_of L s) * suc L + high t) J.bound
    where
      go : (a : ℕ) → a < left → ⊥
      go a k = omega arith

  module _ {s : List ℕ} {t left : ℕ} (J : Going s t left) where
    abbrev M : List ℕ
    M = marks_of L s

    abbrev K : List ℕ
    K = links_of L s

    same : graph_of L s ≡ g
    same = J.leaves.graph

    N : Node W.ground t
    N = trail-node W.ground J.trail

    pub going-in : t < L
    going-in = node_in N

    kids : (j : ℕ) → j < length (args (node g t)) → Handle g W.own W.roots (get_or (args (node g t)) j 0)
    kids j h = kid-handle W.ground N j h

    -- what a turn relies on
    pub going-fit : Fit L b t s
    going-fit = record {
      inside = going-in;
      under = rw same (λ j h. record { own = W.own; roots = W.roots; part = W.ground.part; handle = kids j h });
      linked = trail-linked W.ground J.trail;
    }

    shut_at : (j : ℕ) → j < length (args (node g t)) → IsQuiet g M (get_or (args (node g t)) j 0) → Shut W.made g M (get_or (args (node g t)) j 0)
    shut_at j h q = quiet-shut W.ground (kids j h) q

    own-top : Memᴰ t W.own
    own-top = W.ground.part.ours t N.handle

    -- a constructor goes on the path
    module _ {s' : List ℕ} {h : ℕ} (U : Up L t s s' h) (room : 16 * L ≤ length (words s₀)) where
      F : First g M t (λ k. IsCell g M k h)
      F = subst (λ (x : Graph). First x M t (λ k. IsCell x M k h)) same U.ahead

      k : ℕ
      k = get_or (args (node g t)) F.next 0

      on : Above W.made g M t h
      unfolding k
      on = record {
        next = F.next;
        inside = F.inside;
        before = λ j l. shut_at j (let i = F.inside in omega arith) (F.before j l);
        leads = subst (λ (x : ℕ). To W.made g x k) (sym F.is.at) (to_made W.ground (kids F.next F.inside));
      }

      opened : Open g M h
      unfolding look k
      opened = record { name = F.is.name; con = subst (λ (x : ℕ). node g x ≡ cell (con F.is.name) (args (node g x))) (sym F.is.at) F.is.is; unfinished = F.is.unfinished }

      lower : high h < high t
      lower = above_lower W.ground N on

      links-are : links_of L s' ≡ set K h (t + 1)
      links-are = ap (λ (m : Memory). m.links) U.did.is

      marks-are : marks_of L s' ≡ M
      marks-are = ap (λ (m : Memory). m.marks) U.did.is

      long : h < length K
      long = let l = length-links L s (let q = J.leaves.long in omega arith) in let i = node_in (above-node W.ground N on) in omega arith

      -- the path below it stays: its nodes stand higher
      below : Trail W.made g M (set K h (t + 1)) r b t
      below = trail-kept W.ground (grown-none W.made g M) J.trail (λ x i o l. o.unfinished) (λ x i o l u. get_or-set_other K h x (t + 1) 0 (λ e. (let q = ap high e in let v = lower in omega arith)))

      pub going-up : Going s' h (left - 1)
      going-up = record {
        leaves = record {
          graph = ap (λ (m : Memory). m.graph) U.did.is ∙ J.leaves.graph;
          places = ap (λ (m : Memory). m.places) U.did.is ∙ J.leaves.places;
          rest = ap (λ (m : Memory). m.rest) U.did.is ∙ J.leaves.rest;
          long = U.did.long ∙ J.leaves.long;
          marks = λ x o. ap (λ (l : List ℕ). get_or l x 0) marks-are ∙ J.leaves.marks x o;
          links = λ x o. ap (λ (l : List ℕ). get_or l x 0) links-are ∙ get_or-set_other K h x (t + 1) 0 (λ e. o (subst (λ (y : ℕ). Memᴰ y W.own) (sym e) ours)) ∙ J.leaves.links x o;
          finished = λ x e. ap (λ (l : List ℕ). get_or l x 0) marks-are ∙ J.leaves.finished x e;
          closed = subst (Closed W.made g) (sym marks-are) J.leaves.closed;
        };
        trail = subst (λ (l : List ℕ). Trail W.made g l (links_of L s') r b h) (sym marks-are) (subst (λ (l : List ℕ). Trail W.made g M l r b h) (sym links-are) (upon below on opened (get_or-set_same K h (t + 1) 0 long ∙ add-one t)));
        bound = subst (λ (l : List ℕ). unfinished l * suc L + high h < left - 1) (sym marks-are) (less-up (unfinished M * suc L) (high t) (high h) left J.bound lower);
      }
        where
          ours : Memᴰ h W.own
          ours = W.ground.part.ours h (above-node W.ground N on).handle

    -- a node is finished
    module _ {s' : List ℕ} (Z : Finished L t s s') (room : 16 * L ≤ length (words s₀)) where
      long-marks : t < length M
      long-marks = let l = length-marks L s (let q = J.leaves.long in omega arith) in let i = going-in in omega arith

      marks₂ : marks_of L s' ≡ set M t 2
      marks₂ = ap (λ (m : Memory). m.marks) Z.did.is

      links₂ : links_of L s' ≡ K
      links₂ = ap (λ (m : Memory). m.links) Z.did.is

      open-top : Open g M t
      open-top = trail-open W.ground J.trail

      all_quiet : (j : ℕ) → j < length (args (node g t)) → IsQuiet g M (get_or (args (node g t)) j 0)
      all_quiet = (subst (λ (x : Graph). AllQuiet x M t) same Z.quiet).each

      closed₂ : Closed W.made g (set M t 2)
      closed₂ = closed-finish J.leaves.closed t long-marks N.low open-top (shut-all (Shut W.made g M) (args (node g t)) (λ j h. shut_at j h (all_quiet j h)))

      pub leaves-finish : Leaves L W.made W.own s₀ s'
      leaves-finish = record {
        graph = ap (λ (m : Memory). m.graph) Z.did.is ∙ J.leaves.graph;
        places = ap (λ (m : Memory). m.places) Z.did.is ∙ J.leaves.places;
        rest = ap (λ (m : Memory). m.rest) Z.did.is ∙ J.leaves.rest;
        long = Z.did.long ∙ J.leaves.long;
        marks = λ x o. ap (λ (l : List ℕ). get_or l x 0) marks₂ ∙ get_or-set_other M t x 2 0 (λ e. o (subst (λ (y : ℕ). Memᴰ y W.own) (sym e) own-top)) ∙ J.leaves.marks x o;
        links = λ x o. ap (λ (l : List ℕ). get_or l x 0) links₂ ∙ J.leaves.links x o;
        finished = λ x e. ap (λ (l : List ℕ). get_or l x 0) marks₂ ∙ still-finished J.leaves.closed t long-marks N.low open-top x (J.leaves.finished x e);
        closed = subst (Closed W.made g) (sym marks₂) closed₂;
      }

      -- the path's end
      pub over_none : t ≡ b → (none ≡ first_call L g r) × (get_or (marks_of L s') b 0 ≡ 2)
      over_none e =
          let q : get_or (set M t 2) b 0 ≡ 2 = rw (← e) (get_or-set_same M t 2 0 long-marks) in
          (sym (shut_none closed₂ L (record { end = b; leads = trail-base W.ground J.trail; quiet = inr q })), ap (λ (l : List ℕ). get_or l b 0) marks₂ ∙ q)

      -- and the node goes from the path
      pub going-down : {p : ℕ} → t ≢ b → get_or K t 0 ≡ suc p → Going s' p (left - 1)
      going-down {p} e q =
          let d = trail-below W.ground J.trail e q in
          let u : unfinished M ≡ suc (unfinished (set M t 2)) = unfinished-less M t long-marks open-top.unfinished in
          record {
            leaves = leaves-finish;
            trail = subst (λ (l : List ℕ). Trail W.made g l (links_of L s') r b p) (sym marks₂) (subst (λ (l : List ℕ). Trail W.made g (set M t 2) l r b p) (sym links₂)
                (trail-kept W.ground (record { shut = λ k S. shut-more (still-finished J.leaves.closed t long-marks N.low open-top) S; cells = λ x l o. refl; leads = λ x k o l. l }) d.0
                (λ x i o l w. o.unfinished (sym (get_or-set_other M t x 2 0 (λ y. (let v = ap high y in let z = d.1 in omega arith))) ∙ w)) (λ x i o l c. refl)));
            bound = subst (λ (l : List ℕ). unfinished l * suc L + high p < left - 1) (sym marks₂) (less-down L (unfinished (set M t 2)) (high t) (high p) left (subst (λ (y : ℕ). y * suc L + high t < left) u J.bound) (low-high (trail-node W.ground d.0)));
          }

    -- there is a call
    module _ {s' : List ℕ} {h : ℕ} (X : Hits L t s s' h) where
      pub leaves-hit : Leaves L W.made W.own s₀ s'
      leaves-hit = record {
        graph = ap (λ (m : Memory). m.graph) X.same ∙ J.leaves.graph;
        places = ap (λ (m : Memory). m.places) X.same ∙ J.leaves.places;
        rest = ap (λ (m : Memory). m.rest) X.same ∙ J.leaves.rest;
        long = X.long ∙ J.leaves.long;
        marks = λ x o. ap (λ (m : Memory). get_or m.marks x 0) X.same ∙ J.leaves.marks x o;
        links = λ x o. ap (λ (m : Memory). get_or m.links x 0) X.same ∙ J.leaves.links x o;
        finished = λ x e. ap (λ (m : Memory). get_or m.marks x 0) X.same ∙ J.leaves.finished x e;
        closed = subst (Closed W.made g) (sym (ap (λ (m : Memory). m.marks) X.same)) J.leaves.closed;
      }

      pub trail-hit : Trail W.made g (marks_of L s') (links_of L s') r b t
      trail-hit = subst (λ (m : Memory). Trail W.made g m.marks m.links r b t) (sym X.same) J.trail

      pub found-hit : some h ≡ first_call L g r
      unfolding look
      found-hit =
          let F : First g M t (λ k. IsCall g k h) = subst (λ (x : Graph). First x M t (λ k. IsCall x k h)) same X.ahead in
          let k : ℕ = get_or (args (node g t)) F.next 0 in
          let e : first_call L g k ≡ some h = find-fun W.ground.part L (length-graph L s₀) k F.is.name (args (look g k)) (kids F.next F.inside) F.is.is ∙ ap some (sym F.is.at) in
          let i = F.inside in
          sym (hit-down W.ground L (length-graph L s₀) J.leaves.closed J.trail h (found_in (first_call L g) (args (node g t)) F.next h F.inside (λ j l. shut_none J.leaves.closed L (shut_at j (omega arith) (F.before j l))) e))
