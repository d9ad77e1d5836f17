-- The search at the bytes: a turn of the walk, its start, and what it leaves.
-- Here, in order: a turn of the loop; a constructor stands for itself; nothing found or a call at once; where the walk starts; after the walk.
-- Assumes nothing.
use Prim.Native.Nat.{ℕ, suc, ◌+◌, ◌-◌, ◌*◌, ◌≤◌, ◌<◌}
use native.Mathlib.Omega.{arith}
use native.Mathlib.Numerals.{add-one}
use mathlib.Core.Path.{◌≡◌, refl, sym, ap, ◌∙◌, subst}
use mathlib.Core.Logic.{◌⊎◌, inl, inr, ⊎_elim, ◌≢◌}
use mathlib.Core.Option.{none, some}
use mathlib.Core.List.{List, Memᴰ}
use lib.ListN.{length, get_or, set}
use lib.Seq.{get_or-set_same, get_or-set_other}
use Rattle.mem.specs.Words.{words}
use Rattle.book.specs.Syntax.{con}
use Rattle.heap.specs.Graph.{Graph, cell, var, node, follow, look, args, first_call}
use Rattle.heap.specs.Place.{here, there}
use Rattle.heap.proofs.Laws.Alike.{leads-follow}
use Rattle.store.specs.declared.NodeNo.{NodeNo}
use Rattle.store.specs.Regions.{graph_of, marks_of, links_of, Memory}
use Rattle.store.proofs.Laws.{length-graph}
use Rattle.store.proofs.Writes.{length-marks, length-links}
use Rattle.seek.specs.Walkable.{Walkable}
use Rattle.seek.specs.Path.{To, Shut, Closed, Open, Trail, lowest, Place}
use Rattle.seek.specs.Search.{IsQuiet, IsCell, IsCall, Up, Down, Leaves, Walks, Reached, Went, TopAt, Held, Resumable, Sought}
use Rattle.seek.specs.declared.Stopped.{Stopped}
use Rattle.std.specs.Prelude.{Option, Some, None}
use Rattle.seek.proofs.Finds.{find-fun}
use Rattle.seek.proofs.Ranks.{height}
use Rattle.seek.proofs.Shuts.{to_made, quiet-shut, shut_none, shut-more, word_at}
use Rattle.seek.proofs.Trails.{trail-base, trail-lowest, trail-kept}
use Rattle.seek.proofs.Steps.{Going, going-up, going-down}

-- a turn of the loop
module _ {L r b t₀ : ℕ} {s₀ : List ℕ} (W : Walks L r b t₀ s₀) {s : List ℕ} {t left : ℕ} (J : Going W s t left) (room : 16 * L ≤ length (words s₀)) where
  pub came-on : (s' : List ℕ) (n : NodeNo) → Up L t s s' n.0 ⊎ Down L b t s s' n.0 → Going W s' n.0 (left - 1)
  came-on s' n (inl u) = going-up W J u room
  came-on s' n (inr d) = going-down W J d.finished room d.above d.linked

pub came-long : {L b t n : ℕ} {s s' : List ℕ} → Up L t s s' n ⊎ Down L b t s s' n → length (words s') ≡ length (words s)
came-long (inl u) = u.did.long
came-long (inr d) = d.finished.did.long

-- a constructor stands for itself
self : {made : ℕ} {g : Graph} {e k : ℕ} → To made g e k → (y : ℕ) (hs : List ℕ) → node g k ≡ cell (con y) hs → k ≡ e
self (here p q n) y hs u = q
self (there p j q l) y hs u = let z : ◌≡◌ {A = ℕ} 0 1 = cc in absurd (omega arith)

module _ (L r : ℕ) (s : List ℕ) (G : Resumable L r s) where
  abbrev g : Graph
  g = graph_of L s

  way : To G.made g (follow g r) r
  way = to_made G.ground G.ground.handle

  pub root-walk : Walkable g r
  root-walk = record { own = G.own; roots = G.roots; part = G.ground.part; handle = G.ground.handle }

  pub root_in : r < L
  root_in = let a = G.ground.part.inside r G.ground.handle in let l = length-graph L s in omega arith

  leaves_none : Leaves L G.made G.own s s
  leaves_none = record { graph = refl; places = refl; rest = refl; long = refl; marks = λ x o. refl; links = λ x o. refl; finished = λ x e. e; closed = G.closed }

  -- nothing is written
  pub sought-none : Sought L G.made G.own r s s
  sought-none = record { leaves = leaves_none; resumes = G.resumes }

  pub quiet_none : IsQuiet g (marks_of L s) r → none ≡ first_call L g r
  quiet_none q = sym (shut_none G.closed L (quiet-shut G.ground G.ground.handle q))

  pub call-some : (n : ℕ) → IsCall g r n → some n ≡ first_call L g r
  call-some n q = sym (find-fun G.ground.part L (length-graph L s) r q.name (args (look g r)) G.ground.handle q.is ∙ ap some (sym q.at))

  -- where the walk starts
  module _ (b : ℕ) (X : IsCell g (marks_of L s) r b) where
    base-con : node g b ≡ cell (con X.name) (args (node g b))
    unfolding look
    base-con = subst (λ (x : ℕ). node g x ≡ cell (con X.name) (args (node g x))) (sym X.at) X.is

    not-shut : Shut G.made g (marks_of L s) r → ⊥
    not-shut S =
        let e : b ≡ S.end = X.at ∙ leads-follow (λ x. x < G.made) g S.end S.leads in
        ⊎_elim (λ v. (let w : node g b ≡ var = ap (node g) e ∙ v in let u = base-con in let z : ◌≡◌ {A = ℕ} 0 1 = cc in omega arith)) (λ v. X.unfinished (ap (λ (x : ℕ). get_or (marks_of L s) x 0) e ∙ v)) S.quiet

    place : get_or (marks_of L s) r 0 ≡ 1 → Place G.made g (marks_of L s) (links_of L s) r
    place m = ⊎_elim (λ S. absurd (not-shut S)) (λ p. p) (G.resumes m)

    pub root-linked : get_or (marks_of L s) r 0 ≡ 1 → 1 ≤ get_or (links_of L s) r 0
    root-linked m = let p = (place m).linked in omega arith

    pub start-walks : (t : ℕ) → TopAt L r b s t → Walks L r b t s
    start-walks t T = record { made = G.made; own = G.own; roots = G.roots; ground = G.ground; closed = G.closed; trail = ⊎_elim old new T }
      where
        old : (get_or (marks_of L s) r 0 ≡ 1) × (get_or (links_of L s) r 0 ≡ suc t) → Trail G.made g (marks_of L s) (links_of L s) r b t
        old (m, k) =
            let p = place m in
            let q = p.linked in
            let a : p.base ≡ b = sym (leads-follow (λ x. x < G.made) g p.base (trail-base G.ground p.trail)) ∙ sym X.at in
            let c : p.top ≡ t = omega arith in
            subst (λ (x : ℕ). Trail G.made g (marks_of L s) (links_of L s) r b x) c (subst (λ (x : ℕ). Trail G.made g (marks_of L s) (links_of L s) r x p.top) a p.trail)

        new : (get_or (marks_of L s) r 0 ≢ 1) × (t ≡ b) → Trail G.made g (marks_of L s) (links_of L s) r b t
        new (m, e) = subst (Trail G.made g (marks_of L s) (links_of L s) r b) (sym e)
            (lowest (record { name = X.name; con = base-con; unfinished = X.unfinished }) (subst (λ (x : ℕ). To G.made g x r) (sym X.at) way))

    -- after the walk
    module _ (t : ℕ) (T : TopAt L r b s t) (s₁ : List ℕ) (o : Option Stopped) (Y : Went L r b t s s₁ o) where
      abbrev W : Walks L r b t s
      W = start-walks t T

      abbrev M : List ℕ
      M = marks_of L s₁

      abbrev K : List ℕ
      K = links_of L s₁

      Q : Leaves L G.made G.own s s₁
      unfolding start-walks
      Q = Y.leaves W

      -- nothing was found
      pub sought-nothing : o ≡ None → Sought L G.made G.own r s s₁
      unfolding start-walks
      sought-nothing e = record { leaves = Q; resumes = λ m. inl (record { end = follow g r; leads = way; quiet = inr (subst (λ (x : ℕ). get_or M x 0 ≡ 2) X.at done) }) }
        where
          done : get_or M b 0 ≡ 2
          done = subst (Reached L G.made r b s s₁) e (Y.reached W)

      -- a call was found
      module _ (w : Stopped) (e : o ≡ Some w) (s₂ : List ℕ) (D : Held L r w.top.0 s₁ s₂) (room : 16 * L ≤ length (words s)) where
        trail₁ : Trail G.made g M K r b w.top.0
        unfolding start-walks
        trail₁ = subst (Reached L G.made r b s s₁) e (Y.reached W)

        marks₂ : marks_of L s₂ ≡ set M r 1
        marks₂ = ap (λ (m : Memory). m.marks) D.is

        links₂ : links_of L s₂ ≡ set K r (w.top.0 + 1)
        links₂ = ap (λ (m : Memory). m.links) D.is

        long-marks : r < length M
        long-marks = let l = length-marks L s₁ (let q = Y.long in omega arith) in let i = root_in in omega arith

        long-links : r < length K
        long-links = let l = length-links L s₁ (let q = Y.long in omega arith) in let i = root_in in omega arith

        open-base : Open g M b
        open-base = trail-lowest G.ground trail₁

        -- a root that is a constructor is the lowest node
        root-base : (y : ℕ) (hs : List ℕ) → node g r ≡ cell (con y) hs → r ≡ b
        root-base y hs u = self way y hs u ∙ sym X.at

        root-open : get_or M r 0 ≢ 2
        root-open q = let y = Q.closed.name r q in open-base.unfinished (subst (λ (x : ℕ). get_or M x 0 ≡ 2) (root-base y.0 (args (node g r)) y.1) q)

        more : (x : ℕ) → get_or M x 0 ≡ 2 → get_or (set M r 1) x 0 ≡ 2
        more x q = get_or-set_other M r x 1 0 (λ u. root-open (subst (λ (y : ℕ). get_or M y 0 ≡ 2) u q)) ∙ q

        less : (x : ℕ) → get_or (set M r 1) x 0 ≡ 2 → get_or M x 0 ≡ 2
        less x q = ⊎_elim (λ u. (let v = u.1 in absurd (omega arith))) (λ u. sym u.1 ∙ q) (word_at M r 1 x long-marks)

        own_root : Memᴰ r G.own
        own_root = G.ground.part.ours r G.ground.handle

        apart : (x : ℕ) → ¬ (Memᴰ x G.own) → x ≢ r
        apart x o u = o (subst (λ (y : ℕ). Memᴰ y G.own) (sym u) own_root)

        closed₂ : Closed G.made g (set M r 1)
        closed₂ = record {
          new = λ x h. get_or-set_other M r x 1 0 (λ u. (let v = G.ground.below r own_root in omega arith)) ∙ Q.closed.new x h;
          name = λ x q. Q.closed.name x (less x q);
          under = λ x q k m. shut-more more (Q.closed.under x (less x q) k m);
        }

        trail₂ : Trail G.made g (set M r 1) (set K r (w.top.0 + 1)) r b w.top.0
        trail₂ = trail-kept G.ground (record { shut = λ k S. shut-more more S; cells = λ x h o. refl; leads = λ x k o l. l }) trail₁ (λ x i o h q. o.unfinished (less x q))
            (λ x i o h c. get_or-set_other K r x (w.top.0 + 1) 0 (λ u. (let v : x ≡ b = u ∙ root-base o.name (args (node g x)) (subst (λ (y : ℕ). node g y ≡ cell (con o.name) (args (node g x))) u o.con) in let z = ap (height G.ground.part) v in omega arith)))

        pub sought-call : Sought L G.made G.own r s s₂
        sought-call = record {
          leaves = record {
            graph = ap (λ (m : Memory). m.graph) D.is ∙ Q.graph;
            places = ap (λ (m : Memory). m.places) D.is ∙ Q.places;
            rest = ap (λ (m : Memory). m.rest) D.is ∙ Q.rest;
            long = D.long ∙ Q.long;
            marks = λ x o. ap (λ (l : List ℕ). get_or l x 0) marks₂ ∙ get_or-set_other M r x 1 0 (apart x o) ∙ Q.marks x o;
            links = λ x o. ap (λ (l : List ℕ). get_or l x 0) links₂ ∙ get_or-set_other K r x (w.top.0 + 1) 0 (apart x o) ∙ Q.links x o;
            finished = λ x q. ap (λ (l : List ℕ). get_or l x 0) marks₂ ∙ more x (Q.finished x q);
            closed = subst (Closed G.made g) (sym marks₂) closed₂;
          };
          resumes = λ m. inr (subst (λ (l : List ℕ). Place G.made g l (links_of L s₂) r) (sym marks₂) (subst (λ (l : List ℕ). Place G.made g (set M r 1) l r) (sym links₂)
              (record { base = b; top = w.top.0; linked = get_or-set_same K r (w.top.0 + 1) 0 long-links ∙ add-one w.top.0; trail = trail₂ })));
        }
