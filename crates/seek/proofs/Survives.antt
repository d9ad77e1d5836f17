-- Where a search stopped is still there later: after a turn of its own computation, after turns of others.
-- Here, in order: a later moment, by what stays in the graph; marks that stay closed; a place that stays; more nodes made; no marks at all.
-- Assumes nothing.
use Prim.Native.Nat.{ℕ, ◌≤◌, ◌<◌}
use native.Mathlib.Omega.{arith}
use native.Mathlib.Decide.{dec_lt}
use mathlib.Core.Path.{◌≡◌, refl, sym, ◌∙◌, subst}
use mathlib.Core.Logic.{◌⊎◌, inl, inr, ⊎_elim}
use mathlib.Core.List.{List, Memᴰ}
use lib.ListN.{length, get_or, replicate, length-replicate, get_or-replicate, get_or-eq_default}
use Rattle.book.specs.Syntax.{con}
use Rattle.heap.specs.Graph.{Graph, Node, cell, var, fwd, node, args}
use Rattle.heap.specs.Place.{here, there, NotFwd}
use Rattle.heap.proofs.Laws.Alike.{leads-end, leads-keep}
use Rattle.standing.specs.Part.{Handle}
use Rattle.store.specs.Regions.{marks_of}
use Rattle.seek.specs.Walkable.{Clear}
use Rattle.seek.specs.Path.{To, Shut, Closed, Open, Trail, lowest, upon, Place, Resumes, CallAt, Fixed, Later}
use Rattle.seek.specs.Search.{Ground}
use Rattle.seek.proofs.Trails.{Grown, trail-base, trail-lowest, trail-kept}

-- what never changes is no call
fixed-no-call : (g : Graph) (x : ℕ) → Fixed g x → ¬ (CallAt g x)
fixed-no-call g x (inl e) (f, hs, u) = let z : ◌≡◌ {A = ℕ} 0 1 = cc in omega arith
fixed-no-call g x (inr (y, ks, e)) (f, hs, u) = let z : ◌≡◌ {A = ℕ} 0 1 = cc in omega arith

fwd-no-call : (g : Graph) (x j : ℕ) → node g x ≡ fwd j → ¬ (CallAt g x)
fwd-no-call g x j e (f, hs, u) = let z : ◌≡◌ {A = ℕ} 0 1 = cc in omega arith

-- a later moment where only calls and nodes not yet made have changed
module _ {made made' : ℕ} (g g' : Graph) (more : made ≤ made') (stay : (x : ℕ) → x < made → ¬ (CallAt g x) → node g' x ≡ node g x) where
  ways : {e k : ℕ} → Fixed g e → To made g e k → To made' g' e k
  ways {e} {k} F (here p q n) = here {h = k} (omega arith) q (subst NotFwd (sym (stay k p (fixed-no-call g k (subst (Fixed g) (sym q) F)))) n)
  ways {e} {k} F (there p j q l) = there {h = k} (omega arith) j (stay k p (fwd-no-call g k j q) ∙ q) (ways F l)

  pub later_rows : Later made g made' g'
  later_rows = record { more = more; rows = λ x h F. stay x h (fixed-no-call g x F); leads = λ e k F l. ways F l }

pub later_same : (made : ℕ) (g : Graph) → Later made g made g
later_same made g = record { more = omega arith; rows = λ x h F. refl; leads = λ e k F l. l }

-- a finished node is made, and never changes
module _ {made : ℕ} {g : Graph} {marks : List ℕ} (C : Closed made g marks) where
  pub finished-made : (n : ℕ) → get_or marks n 0 ≡ 2 → n < made
  finished-made n e = go (dec_lt n made)
    where
      go : Dec (n < made) → n < made
      go (yes h) = h
      go (no h) = let z = C.new n (omega arith) in absurd (omega arith)

  finished-fixed : (n : ℕ) → get_or marks n 0 ≡ 2 → Fixed g n
  finished-fixed n e = let y = C.name n e in inr (y.0, args (node g n), y.1)

  module _ {made' : ℕ} {g' : Graph} (W : Later made g made' g') where
    pub shut-later : (marks' : List ℕ) → ((x : ℕ) → get_or marks x 0 ≡ 2 → get_or marks' x 0 ≡ 2) → (k : ℕ) → Shut made g marks k → Shut made' g' marks' k
    shut-later marks' f k S = go S.quiet
      where
        go : (node g S.end ≡ var) ⊎ (get_or marks S.end 0 ≡ 2) → Shut made' g' marks' k
        go (inl e) = record { end = S.end; leads = W.leads S.end k (inl e) S.leads; quiet = inl (W.rows S.end (leads-end (λ x. x < made) g S.end S.leads).0 (inl e) ∙ e) }
        go (inr e) = record { end = S.end; leads = W.leads S.end k (finished-fixed S.end e) S.leads; quiet = inr (f S.end e) }

    -- the marks stay closed
    pub closed-later : (marks' : List ℕ) → ((x : ℕ) → get_or marks' x 0 ≡ get_or marks x 0) → Closed made' g' marks'
    closed-later marks' f = record {
      new = λ n h. (let i = W.more in f n ∙ C.new n (omega arith));
      name = λ n e. (let u = sym (f n) ∙ e in let y = C.name n u in (y.0, subst (λ (x : Node). x ≡ cell (con y.0) (args x)) (sym (row n u)) y.1));
      under = λ n e k m. (let u = sym (f n) ∙ e in shut-later marks' (λ x q. f x ∙ q) k (C.under n u k (subst (λ (x : Node). Memᴰ k (args x)) (row n u) m)));
    }
      where
        row : (n : ℕ) → get_or marks n 0 ≡ 2 → node g' n ≡ node g n
        row n u = W.rows n (finished-made n u) (finished-fixed n u)

    grown : (marks' : List ℕ) → ((x : ℕ) → get_or marks x 0 ≡ 2 → get_or marks' x 0 ≡ 2) → Grown made g marks made' g' marks'
    grown marks' f = record { shut = shut-later marks' f; cells = λ x h o. W.rows x h (inr (o.name, args (node g x), o.con)); leads = λ e k o l. W.leads e k (inr (o.name, args (node g e), o.con)) l }

    -- a place stays
    module _ {own roots : List ℕ} {r : ℕ} (G : Ground made g own roots r) (links marks' links' : List ℕ) (more : (x : ℕ) → get_or marks x 0 ≡ 2 → get_or marks' x 0 ≡ 2)
        (marked : (x : ℕ) → Memᴰ x own → get_or marks' x 0 ≡ get_or marks x 0) (linked : (x : ℕ) → Memᴰ x own → ¬ (CallAt g x) → get_or links' x 0 ≡ get_or links x 0) where
      ours : {x : ℕ} → Handle g own roots x → Memᴰ x own
      ours {x} h = G.part.ours x h

      open-no-call : (x : ℕ) → Open g marks x → ¬ (CallAt g x)
      open-no-call x o = fixed-no-call g x (inr (o.name, args (node g x), o.con))

      root-no-call : {b k : ℕ} → Open g marks b → To made g b k → ¬ (CallAt g k)
      root-no-call {b} {k} o (here p q n) = subst (λ (x : ℕ). ¬ (CallAt g x)) (sym q) (open-no-call b o)
      root-no-call {b} {k} o (there p j q l) = fwd-no-call g k j q

      place-later : Place made g marks links r → Place made' g' marks' links' r
      place-later P = record {
        base = P.base;
        top = P.top;
        linked = linked r (ours G.handle) (root-no-call (trail-lowest G P.trail) (trail-base G P.trail)) ∙ P.linked;
        trail = trail-kept G (grown marks' more) P.trail (λ x i o h e. o.unfinished (sym (marked x (ours i.handle)) ∙ e)) (λ x i o h c. linked x (ours i.handle) (open-no-call x o));
      }

      pub resumes-later : Resumes made g marks links r → Resumes made' g' marks' links' r
      resumes-later R m = ⊎_elim (λ S. inl (shut-later marks' more r S)) (λ P. inr (place-later P)) (R (sym (marked r (ours G.handle)) ∙ m))

-- with more nodes made
module _ {made made' : ℕ} (more : made ≤ made') where
  to-wider : {g : Graph} {e k : ℕ} → To made g e k → To made' g e k
  to-wider {g} l = leads-keep g (λ x h. omega arith) (λ x h. refl) l

  shut-wider : {g : Graph} {marks : List ℕ} {k : ℕ} → Shut made g marks k → Shut made' g marks k
  shut-wider S = record { end = S.end; leads = to-wider S.leads; quiet = S.quiet }

  pub closed-wider : {g : Graph} {marks : List ℕ} → Closed made g marks → Closed made' g marks
  closed-wider C = record { new = λ n h. C.new n (omega arith); name = C.name; under = λ n e k m. shut-wider (C.under n e k m) }

  trail-wider : {g : Graph} {marks links : List ℕ} {r b n : ℕ} → Trail made g marks links r b n → Trail made' g marks links r b n
  trail-wider (lowest o l) = lowest o (to-wider l)
  trail-wider (upon t a o k) = upon (trail-wider t) (record { next = a.next; inside = a.inside; before = λ j h. shut-wider (a.before j h); leads = to-wider a.leads }) o k

  pub resumes-wider : (g : Graph) (marks links : List ℕ) (r : ℕ) → Resumes made g marks links r → Resumes made' g marks links r
  resumes-wider g marks links r R m = ⊎_elim (λ S. inl (shut-wider S)) (λ P. inr (record { base = P.base; top = P.top; linked = P.linked; trail = trail-wider P.trail })) (R m)

-- no node is marked
no-mark : (L : ℕ) (s : List ℕ) → Clear L s → (n : ℕ) → get_or (marks_of L s) n 0 ≡ 0
no-mark L s clear n = rw clear (go (dec_lt n L))
  where
    len : length (replicate {A = ℕ} L 0) ≡ L
    len = length-replicate L 0

    go : Dec (n < L) → get_or {A = ℕ} (replicate L 0) n 0 ≡ 0
    go (yes h) = get_or-replicate L n 0 0 h
    go (no h) = get_or-eq_default (replicate L 0) 0 (omega (arith, len))

pub clear-closed : (L made : ℕ) (g : Graph) (s : List ℕ) → Clear L s → Closed made g (marks_of L s)
clear-closed L made g s c = record {
  new = λ n h. no-mark L s c n;
  name = λ n e. (let z = no-mark L s c n in absurd (omega arith));
  under = λ n e. (let z = no-mark L s c n in absurd (omega arith));
}

-- a root without a mark
pub unmarked-resumes : (made : ℕ) (g : Graph) (marks links : List ℕ) (r : ℕ) → get_or marks r 0 ≡ 0 → Resumes made g marks links r
unmarked-resumes made g marks links r e m = absurd (omega arith)

pub clear-resumes : (L made : ℕ) (g : Graph) (s links : List ℕ) (r : ℕ) → Clear L s → Resumes made g (marks_of L s) links r
clear-resumes L made g s links r c = unmarked-resumes made g (marks_of L s) links r (no-mark L s c r)
