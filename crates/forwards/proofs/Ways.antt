-- A shortcut changes where forwards lead by the way, and nothing else that is read.
-- Here, in order: a graph led otherwise; what is alike with it; a forward's number; the two nodes of a shortcut; the shortcut from a top.
-- Assumes nothing.
use Prim.Native.Nat.{ℕ, suc, ◌≤◌, ◌<◌}
use native.Mathlib.Omega.{arith}
use native.Mathlib.Decide.{ℕ_discrete, dec_lt}
use mathlib.Core.Path.{◌≡◌, refl, sym, ◌∙◌, subst}
use mathlib.Core.Logic.{◌≢◌, ◌⊎◌, inl, inr}
use mathlib.Core.List.{List, [], ◌∷◌}
use lib.ListN.{length, set, length-set, get_or-eq_default}
use lib.Seq.{get_or-set_same, get_or-set_other}
use Rattle.book.specs.Syntax.{con, fun}
use Rattle.heap.specs.Graph.{Node, cell, var, fwd, Graph, node, follow}
use Rattle.heap.specs.Place.{NotFwd, Leads, here, there}
use Rattle.heap.specs.Alike.{Each, Rep, Mirror, Alike}
use Rattle.heap.proofs.Laws.Alike.{leads-follow, leads-from, leads-end, reals}
use Rattle.forwards.specs.Shortcut.{led, led_on, shortened}
use Rattle.forwards.proofs.Cases.{one-forward, more-forwards}

-- g became g': where forwards in P end they end, what is no forward stays, and so does what is not in P
pub record LedOtherwise (P : ℕ → Type 0) (g g' : Graph) : Type 0 where
  pub leads : (e h : ℕ) → Leads P g e h → Leads P g' e h
  pub real : (h : ℕ) → NotFwd (node g h) → node g' h ≡ node g h
  pub others : (h : ℕ) → ¬ (P h) → node g' h ≡ node g h
  pub size : length g' ≡ length g

pub led-same : (P : ℕ → Type 0) (g g' : Graph) → g' ≡ g → LedOtherwise P g g'
led-same P g g' e = rw e (record { leads = λ e h l. l; real = λ h n. refl; others = λ h n. refl; size = refl })

-- what stands for something still stands for it, and what is alike with the graph is alike
module _ (R : ℕ → ℕ → Type 0) (P : ℕ → Type 0) {Q : ℕ → Type 0} (g : Graph) {s s' : Graph} (W : LedOtherwise Q s s') where
  pub rep-led : (h k : ℕ) → Rep R P Q g s h k → Rep R P Q g s' h k
  rep-led h k r = record { from = r.from; to = r.to; left = r.left; right = W.leads r.to k r.right; same = r.same }

  pub each-led : (hs ks : List ℕ) → Each (Rep R P Q g s) hs ks → Each (Rep R P Q g s') hs ks
  each-led [] [] e = tt
  each-led [] (k ∷ ks) e = absurd e
  each-led (h ∷ hs) [] e = absurd e
  each-led (h ∷ hs) (k ∷ ks) (e, es) = (rep-led h k e, each-led hs ks es)

  mirror-led : (x y : Node) → Mirror R P Q g s x y → Mirror R P Q g s' x y
  mirror-led (cell y hs) (cell z ks) (a, e) = (a, each-led hs ks e)
  mirror-led (cell y hs) var m = absurd m
  mirror-led (cell y hs) (fwd j) m = absurd m
  mirror-led var (cell z ks) m = absurd m
  mirror-led var var m = tt
  mirror-led var (fwd j) m = absurd m
  mirror-led (fwd j) y m = absurd m

  pub alike-led : Alike R P Q g s → Alike R P Q g s'
  alike-led A = record {
    left = A.left;
    right = A.right;
    to_one = A.to_one;
    of_one = A.of_one;
    mirror = λ h k r. (let m = A.mirror h k r in rw (W.real k (reals R P Q g s (node g h) (node s k) m).1) (mirror-led (node g h) (node s k) m));
  }

-- a forward is at a number of the graph
forward-inside : (g : Graph) (h j : ℕ) → node g h ≡ fwd j → h < length g
forward-inside g h j q = go (dec_lt h (length g))
  where
    go : Dec (h < length g) → h < length g
    go (yes p) = p
    go (no p) = let l : length g ≤ h = omega arith in let r = get_or-eq_default g var l in let z : ◌≡◌ {A = ℕ} 0 1 = cc in absurd (omega arith)

clash : (g : Graph) (h j : ℕ) → NotFwd (node g h) → node g h ≡ fwd j → ⊥
clash g h j r q = rw q at r

-- forwards that end do not lead to themselves
no_loop : {P : ℕ → Type 0} {g : Graph} {e : ℕ} (h : ℕ) → Leads P g e h → node g h ≡ fwd h → ⊥
no_loop {g = g} h (here p q r) u = clash g h h r u
no_loop {P} {g} {e} h (there p j q l) u = let a : j ≡ h = cc in no_loop j l (rw a u)

-- nodes a and x of the forwards from a led on
module _ (P : ℕ → Type 0) (g : Graph) (a x e y : ℕ) (q : node g a ≡ fwd x) (p : P a) (l : Leads P g e x) (d : x ≢ e) (c : (y ≡ a) ⊎ (y ≡ e)) where
  abbrev g' : Graph
  g' = set (set g a (fwd e)) x (fwd y)

  x-leads : (j : ℕ) × (node g x ≡ fwd j)
  x-leads = go l
    where
      go : Leads P g e x → (j : ℕ) × (node g x ≡ fwd j)
      go (here p u r) = absurd (d u)
      go (there p j u l) = (j, u)

  apart : a ≢ x
  apart u = no_loop x l (subst (λ (z : ℕ). node g z ≡ fwd x) u q)

  at_a : node g' a ≡ fwd e
  at_a = get_or-set_other (set g a (fwd e)) x a (fwd y) var apart ∙ get_or-set_same g a (fwd e) var (forward-inside g a x q)

  at_x : node g' x ≡ fwd y
  at_x = get_or-set_same (set g a (fwd e)) x (fwd y) var (rw length-set (forward-inside g x x-leads.0 x-leads.1))

  at_other : (h : ℕ) → h ≢ a → h ≢ x → node g' h ≡ node g h
  at_other h u v = get_or-set_other (set g a (fwd e)) x h (fwd y) var v ∙ get_or-set_other g a h (fwd e) var u

  at-real : (h : ℕ) → NotFwd (node g h) → node g' h ≡ node g h
  at-real h r = at_other h (λ u. clash g h x r (rw u q)) (λ u. clash g h x-leads.0 r (rw u x-leads.1))

  from-e : Leads P g' e e
  from-e = let r = leads-end P g e l in here r.0 refl (rw (at-real e r.1) r.1)

  from-a : Leads P g' e a
  from-a = there p e at_a from-e

  from-x : Leads P g' e x
  from-x = there (leads-from P g e l) y at_x (go c)
    where
      go : (y ≡ a) ⊎ (y ≡ e) → Leads P g' e y
      go (inl u) = subst (Leads P g' e) (sym u) from-a
      go (inr u) = subst (Leads P g' e) (sym u) from-e

  -- a number's forwards end once
  ends : (e' h : ℕ) → Leads P g e h → Leads P g e' h → e ≡ e'
  ends e' h k k' = sym (leads-follow P g e k) ∙ leads-follow P g e' k'

  leads-led : (e' h : ℕ) → Leads P g e' h → Leads P g' e' h
  leads-led e' h (here r u n) = here r u (rw (at-real h n) n)
  leads-led e' h (there r j u k) = go (leads-led e' j k) (ℕ_discrete h a) (ℕ_discrete h x)
    where
      go : Leads P g' e' j → Dec (h ≡ a) → Dec (h ≡ x) → Leads P g' e' h
      go ih (yes v) w = let i = ends e' a (there p x q l) (subst (Leads P g e') v (there r j u k)) in subst (λ (z : ℕ). Leads P g' z h) i (subst (Leads P g' e) (sym v) from-a)
      go ih (no v) (yes w) = let i = ends e' x l (subst (Leads P g e') w (there r j u k)) in subst (λ (z : ℕ). Leads P g' z h) i (subst (Leads P g' e) (sym w) from-x)
      go ih (no v) (no w) = there r j (at_other h v w ∙ u) ih

  both-otherwise : LedOtherwise P g g'
  both-otherwise = record {
    leads = leads-led;
    real = at-real;
    others = λ h n. at_other h (λ u. n (rw u p)) (λ u. n (rw u (leads-from P g e l)));
    size = length-set (set g a (fwd e)) x (fwd y) ∙ length-set g a (fwd e);
  }

-- the second node is led to the first or to the end
led-either : (x : Node) (a e : ℕ) → (led x a e ≡ a) ⊎ (led x a e ≡ e)
unfolding led
led-either (cell (fun f) hs) a e = inl refl
led-either (cell (con c) hs) a e = inr refl
led-either var a e = inr refl
led-either (fwd k) a e = inr refl

-- The forwards from a end: the graph with them shortened is led otherwise, and no more.
pub shortened-leads : (P : ℕ → Type 0) (g : Graph) (a e : ℕ) → Leads P g e a → LedOtherwise P g (shortened (suc a) g)
unfolding shortened led_on
shortened-leads P g a e l = go (node g a) refl
  where
    f : e ≡ follow g a
    f = sym (leads-follow P g e l)

    along : (x : ℕ) → node g a ≡ fwd x → P a × Leads P g e x
    along x q = at l
      where
        at : Leads P g e a → P a × Leads P g e x
        at (here p u r) = absurd (clash g a x r q)
        at (there p j u k) = let b : j ≡ x = cc in (p, subst (Leads P g e) b k)

    more : (x : ℕ) → node g a ≡ fwd x → Dec (x ≡ e) → LedOtherwise P g (shortened (suc a) g)
    more x q (yes d) = led-same P g (shortened (suc a) g) (one-forward g a x q e f d)
    more x q (no d) = let r = along x q in subst (LedOtherwise P g) (sym (more-forwards g a x q e f d)) (both-otherwise P g a x e (led (node g e) a e) q r.0 r.1 d (led-either (node g e) a e))

    go : (n : Node) → node g a ≡ n → LedOtherwise P g (shortened (suc a) g)
    go (cell s hs) q = led-same P g (shortened (suc a) g) (rw (q, shortened, led_on))
    go var q = led-same P g (shortened (suc a) g) (rw (q, shortened, led_on))
    go (fwd x) q = more x q (ℕ_discrete x e)
