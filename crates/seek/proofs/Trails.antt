-- Paths in a part of the graph.
-- Here, in order: a later moment; a path's nodes are handles, each lower than the one below it; a path that stays; what is found at its top is found from the root.
-- Assumes nothing.
use Prim.Native.Nat.{ℕ, suc, ◌≤◌, ◌<◌}
use native.Mathlib.Omega.{arith}
use mathlib.Core.Path.{◌≡◌, refl, sym, ap, ◌∙◌, subst}
use mathlib.Core.Logic.{◌≢◌}
use mathlib.Core.Option.{some}
use mathlib.Core.List.{List}
use lib.ListN.{length, get_or}
use Rattle.heap.specs.Graph.{Graph, node, follow, args, first_call}
use Rattle.heap.proofs.Laws.Alike.{leads-follow, leads-self, leads-end}
use Rattle.heap.proofs.Laws.Reach.{mem-at}
use Rattle.standing.specs.Part.{Handle}
use Rattle.seek.specs.Path.{To, Shut, Closed, Open, Above, Trail, lowest, upon}
use Rattle.seek.specs.Search.{Ground}
use Rattle.seek.proofs.Ranks.{height, argument}
use Rattle.seek.proofs.Finds.{all, found_in, find-con}
use Rattle.seek.proofs.Shuts.{to-look, shut_none}

-- from one moment to a later one: what is shut stays shut, and constructors that are not finished and the ways to them stay
pub record Grown (made : ℕ) (g : Graph) (marks : List ℕ) (made' : ℕ) (g' : Graph) (marks' : List ℕ) : Type 0 where
  pub shut : (k : ℕ) → Shut made g marks k → Shut made' g' marks' k
  pub cells : (x : ℕ) → x < made → Open g marks x → node g' x ≡ node g x
  pub leads : (e k : ℕ) → Open g marks e → To made g e k → To made' g' e k

opened : {made : ℕ} {g : Graph} {marks : List ℕ} {made' : ℕ} {g' : Graph} {marks' : List ℕ} → Grown made g marks made' g' marks' → (n : ℕ) → n < made → Open g marks n → get_or marks' n 0 ≢ 2 → Open g' marks' n
opened W n h o u = record { name = o.name; con = rw (W.cells n h o) o.con; unfinished = u }

module _ {made : ℕ} {g : Graph} {own roots : List ℕ} {r : ℕ} (G : Ground made g own roots r) where
  abbrev H : ℕ → Type 0
  H = Handle g own roots

  abbrev high : ℕ → ℕ
  high = height G.part

  ends_at : {e k : ℕ} → To made g e k → follow g k ≡ e
  ends_at {e} l = leads-follow (λ x. x < made) g e l

  self-end : {e k : ℕ} → To made g e k → follow g e ≡ e
  self-end {e} l = ends_at (leads-self (λ x. x < made) g e l)

  -- a node of the path: a handle, where no forward starts, made
  pub record Node (n : ℕ) : Type 0 where
    pub handle : H n
    pub ended : follow g n ≡ n
    pub low : n < made

  node_of : {e k : ℕ} → To made g e k → H k → Node e
  node_of {e} {k} l h = record { handle = subst H (ends_at l) (G.part.ended k h); ended = self-end l; low = (leads-end (λ x. x < made) g e l).0 }

  -- the argument that is above
  kid : {p : ℕ} → Node p → (j : ℕ) → j < length (args (node g p)) → H (get_or (args (node g p)) j 0) × (high (follow g (get_or (args (node g p)) j 0)) < high p)
  kid {p} N j h = argument G.part p (get_or (args (node g p)) j 0) N.handle N.ended (mem-at (args (node g p)) j h)

  pub kid-handle : {p : ℕ} → Node p → (j : ℕ) → j < length (args (node g p)) → H (get_or (args (node g p)) j 0)
  kid-handle N j h = (kid N j h).0

  pub above_lower : {marks : List ℕ} {p n : ℕ} → Node p → Above made g marks p n → high n < high p
  above_lower {p = p} N a = subst (λ (x : ℕ). high x < high p) (ends_at a.leads) (kid N a.next a.inside).1

  pub above-node : {marks : List ℕ} {p n : ℕ} → Node p → Above made g marks p n → Node n
  above-node N a = node_of a.leads (kid N a.next a.inside).0

  module _ {marks links : List ℕ} {b : ℕ} where
    pub trail-open : {n : ℕ} → Trail made g marks links r b n → Open g marks n
    trail-open (lowest o l) = o
    trail-open (upon t a o k) = o

    pub trail-base : {n : ℕ} → Trail made g marks links r b n → To made g b r
    trail-base (lowest o l) = l
    trail-base (upon t a o k) = trail-base t

    pub trail-lowest : {n : ℕ} → Trail made g marks links r b n → Open g marks b
    trail-lowest (lowest o l) = o
    trail-lowest (upon t a o k) = trail-lowest t

    pub trail-node : {n : ℕ} → Trail made g marks links r b n → Node n
    trail-node (lowest o l) = node_of l G.handle
    trail-node (upon t a o k) = above-node (trail-node t) a

    -- the top is lower than the lowest, or is it
    pub trail-lower : {n : ℕ} → Trail made g marks links r b n → high n ≤ high b
    trail-lower (lowest o l) = omega arith
    trail-lower {n} (upon {p = p} t a o k) = let x = trail-lower t in let y = above_lower (trail-node t) a in omega arith

    -- a node of the path that is not the lowest has its link
    pub trail-linked : {n : ℕ} → Trail made g marks links r b n → n ≢ b → 1 ≤ get_or links n 0
    trail-linked (lowest o l) e = absurd (e refl)
    trail-linked (upon t a o k) e = omega arith

    -- and the path below it
    pub trail-below : {n p : ℕ} → Trail made g marks links r b n → n ≢ b → get_or links n 0 ≡ suc p → Trail made g marks links r b p × (high n < high p)
    trail-below (lowest o l) e q = absurd (e refl)
    trail-below {n} {p} (upon {p = p₁} t a o k) e q =
        let w : p₁ ≡ p = (let z : suc p₁ ≡ suc p = sym k ∙ q in omega arith) in
        subst (λ (x : ℕ). Trail made g marks links r b x × (high n < high x)) w (t, above_lower (trail-node t) a)

    -- a call that a node's arguments give is the root's
    pub hit-down : (L : ℕ) → length g ≡ L → Closed made g marks → {n : ℕ} → Trail made g marks links r b n → (x : ℕ) → all L g n ≡ some x → first_call L g r ≡ some x
    hit-down L e C (lowest o l) x q = find-con G.part L e r o.name (args (node g b)) G.handle (to-look l ∙ o.con) ∙ ap (all L g) (ends_at l) ∙ q
    hit-down L e C {n} (upon {p = p} t a o k) x q =
        let j : ℕ = get_or (args (node g p)) a.next 0 in
        let h : first_call L g j ≡ some x = find-con G.part L e j o.name (args (node g n)) (kid (trail-node t) a.next a.inside).0 (to-look a.leads ∙ o.con) ∙ ap (all L g) (ends_at a.leads) ∙ q in
        hit-down L e C t x (found_in (first_call L g) (args (node g p)) a.next x a.inside (λ i l. shut_none C L (a.before i l)) h)

  -- a path stays where its nodes stay constructors that are not finished, and their links stay, but for the lowest
  pub trail-kept : {made' : ℕ} {g' : Graph} {marks links marks' links' : List ℕ} {b : ℕ} → Grown made g marks made' g' marks' → {n : ℕ} → Trail made g marks links r b n
      → ((x : ℕ) → Node x → Open g marks x → high n ≤ high x → get_or marks' x 0 ≢ 2) → ((x : ℕ) → Node x → Open g marks x → high n ≤ high x → high x < high b → get_or links' x 0 ≡ get_or links x 0)
      → Trail made' g' marks' links' r b n
  trail-kept {g' = g'} {marks' = marks'} W {n} (lowest o l) m k =
      let N = node_of l G.handle in
      lowest (opened W n N.low o (m n N o (omega arith))) (W.leads n r o l)
  trail-kept {made'} {g'} {marks} {marks' = marks'} W {n} (upon {p = p} t a o q) m k =
      let N = trail-node (upon t a o q) in
      let low = above_lower (trail-node t) a in
      let top = trail-lower t in
      let e : node g' p ≡ node g p = W.cells p (trail-node t).low (trail-open t) in
      upon {p = p} {n = n} (trail-kept W t (λ x i u h. m x i u (omega arith)) (λ x i u h c. k x i u (omega arith) c))
      (record { next = a.next; inside = rw e a.inside; before = λ j h. rw e (W.shut (get_or (args (node g p)) j 0) (a.before j h)); leads = rw e (W.leads n (get_or (args (node g p)) a.next 0) o a.leads) })
      (opened W n N.low o (m n N o (omega arith)))
      (k n N o (omega arith) (omega arith) ∙ q)
