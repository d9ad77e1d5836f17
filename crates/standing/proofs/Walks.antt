-- The part of the store that code walks for a computation that stands there; what walks find in it, with any bound that is at least the store's length.
-- Here, in order: a part with a copy that has no cycle; handles that stand; the part of a computation; its first call and its bytes.
-- Assumes nothing.
use Prim.Native.Nat.{ℕ, ◌≤◌, ◌<◌}
use native.Mathlib.Omega.{arith}
use mathlib.Core.Path.{◌≡◌, sym, ap, ◌∙◌, subst}
use mathlib.Core.Logic.{◌⊎◌, inl, inr}
use mathlib.Core.List.{List, [], ◌∷◌, map, Memᴰ}
use lib.ListN.{length, get_or}
use Rattle.book.specs.Syntax.{Symbol}
use Rattle.heap.specs.Alike.{Each}
use Rattle.heap.specs.Place.{Leads, here, there, Rooted}
use Rattle.heap.specs.Graph.{Graph, cell, fwd, node, follow, look, args, first_call, write, write_each, named, renamed, Comp, copy}
use Rattle.heap.specs.Store.{Store}
use Rattle.heap.proofs.Laws.Good.{Good}
use Rattle.heap.proofs.Laws.Few.{few}
use Rattle.heap.proofs.Laws.Alike.{leads_any, leads-follow, leads-from, leads-end, leads-self, rep-follow, reals}
use Rattle.heap.proofs.Laws.Shape.{each_append, args-alike}
use Rattle.heap.proofs.Laws.Bound.{Sinks, first-sinks, write-sinks, bytes-sinks}
use Rattle.heap.proofs.Laws.Reach.{seen, gc, swept, gc-length, gc-node, named-at, root_in, kid_in, mem-at}
use Rattle.heap.proofs.Laws.Copies.{copy-good}
use Rattle.engine.specs.Machine.{Held}
use Rattle.standing.specs.Stands.{World, Stands, Holds, Rel, Dom, Ours, Reps}
use Rattle.standing.specs.Contract.{shape}
use Rattle.standing.specs.Part.{roots_of, Handle, Part}
use Rattle.standing.proofs.Contract.{stands-shape}

pub mem-map-to : (f : ℕ → ℕ) (l : List ℕ) (x : ℕ) → Memᴰ x l → Memᴰ (f x) (map f l)
mem-map-to f [] x m = absurd (mathlib.Core.List.Memᴰ.not-nil m)
mem-map-to f (y ∷ l) x m = go (mem-map-to f l x) (mathlib.Core.List.Memᴰ.cases_cons m)
  where
    go : (Memᴰ x l → Memᴰ (f x) (map f l)) → (x ≡ y) ⊎ Memᴰ x l → Memᴰ (f x) (map f (y ∷ l))
    go ih (inl e) = mathlib.Core.List.Memᴰ.head (ap f e)
    go ih (inr w) = mathlib.Core.List.Memᴰ.tail (ih w)

-- the copy of the part has no cycle, and so has none the part
module _ {Fine : Symbol → ℕ → Type 0} (s : Graph) (own : List ℕ) (X : ℕ → Type 0) (roots : List ℕ) (in_q : (x : ℕ) → Memᴰ x own → x < length s) (Y : Rooted s (λ x. Memᴰ x own) X roots) (G : Good Fine (gc s (λ x. Memᴰ x own) X roots Y)) where
  abbrev P : ℕ → Type 0
  P x = Memᴰ x own

  abbrev l : List ℕ
  l = seen s P X roots Y

  abbrev H : ℕ → Type 0
  H = Handle s own roots

  abbrev place : ℕ → ℕ
  place k = named s l k

  ends_at : (k : ℕ) → H k → (place k < length l) × (get_or l (place k) 0 ≡ follow s k)
  ends_at k h = named-at s l k h.reached

  args-under : (k : ℕ) (y : Symbol) (hs : List ℕ) → H k → look s k ≡ cell y hs → (j : ℕ) → Memᴰ j hs → H j × (G.rank (place j) < G.rank (place k))
  unfolding look args renamed
  args-under k y hs h e j m =
      let a = ends_at k h in
      let e₁ : node s (get_or l (place k) 0) ≡ cell y hs = ap (λ (z : ℕ). node s z) a.1 ∙ e in
      let u : Memᴰ j (args (node s (get_or l (place k) 0))) = rw e₁ m in
      let i = place k in
      let n : node (gc s P X roots Y) i ≡ cell y (map place hs) = gc-node s P X roots Y i a.0 ∙ rw e₁ in
      let q : i < length (gc s P X roots Y) = rw (gc-length s P X roots Y) a.0 in (
        record { leads = (Y.under (get_or l i 0) j ((swept s P X roots Y).all (get_or l i 0) (mem-at l i a.0)) u).1; reached = kid_in s P X roots Y i a.0 j u },
        (G.kid i (place j) q (rw n (mem-map-to place hs j m))).1,
      )

  on : (k j : ℕ) → H k → node s k ≡ fwd j → H j
  on k j h e = go h.leads
    where
      go : Leads P s (follow s k) k → H j
      go (here p q r) = absurd (rw e at r)
      go (there p i q w) =
          let z : i ≡ j = cc in
          let w₁ : Leads P s (follow s k) j = subst (Leads P s (follow s k)) z w in
          let f : follow s j ≡ follow s k = leads-follow P s (follow s k) w₁ in
          record { leads = subst (λ (t : ℕ). Leads P s t j) (sym f) w₁; reached = rw f h.reached }

  pub part_of : Part s own roots
  unfolding look
  part_of = record {
    rank = λ k. G.rank (place k);
    root = λ k m. record { leads = (Y.rooted k m).1; reached = root_in s P X roots Y k m };
    ours = λ k h. leads-from P s (follow s k) h.leads;
    inside = λ k h. in_q k (leads-from P s (follow s k) h.leads);
    along = on;
    ended = λ k h. (let w = leads-self P s (follow s k) h.leads in let f = leads-follow P s (follow s k) w in record { leads = rw f w; reached = rw f h.reached });
    real = λ k h. (leads-end P s (follow s k) h.leads).1;
    enough = λ k n h i. leads_any P s (follow s k) h.leads n i;
    under = args-under;
    low = λ k h. (let a = (ends_at k h).0 in
        let b = G.low (place k) (rw (gc-length s P X roots Y) a) in
        let c = few (length s) l (swept s P X roots Y).distinct (λ y m. Y.inside y ((swept s P X roots Y).all y m)) in
        let d = gc-length s P X roots Y in
        omega arith);
  }

-- handles that stand for handles of a graph that the store holds
module _ {w : World} {g : Graph} {μ : Store} (H : Holds w g μ) where
  abbrev s : Graph
  s = μ.nodes

  -- a number that is read for a handle
  abbrev pub Read : ℕ → Type 0
  Read k = (h : ℕ) × Rel w h k

  ends-in : (h k : ℕ) → Reps w g s h k → Read (follow s k) × Leads (Ours w) s (follow s k) k
  ends-in h k r = ((follow g h, rep-follow H.alike h k r), rw (leads-follow (Ours w) s r.to r.right) r.right)

  each_in : (hs ks : List ℕ) → Each (Reps w g s) hs ks → (k : ℕ) → Memᴰ k ks → Read (follow s k) × Leads (Ours w) s (follow s k) k
  each_in [] [] e k m = absurd (mathlib.Core.List.Memᴰ.not-nil m)
  each_in [] (j ∷ ks) e k m = absurd e
  each_in (h ∷ hs) [] e k m = absurd e
  each_in (h ∷ hs) (j ∷ ks) (e, es) k m = go (each_in hs ks es k) (mathlib.Core.List.Memᴰ.cases_cons m)
    where
      go : (Memᴰ k ks → Read (follow s k) × Leads (Ours w) s (follow s k) k) → (k ≡ j) ⊎ Memᴰ k ks → Read (follow s k) × Leads (Ours w) s (follow s k) k
      go ih (inl q) = rw q (ends-in h j e)
      go ih (inr u) = ih u

  pub holds-rooted : (hs ks : List ℕ) → Each (Reps w g s) hs ks → Rooted s (Ours w) Read ks
  holds-rooted hs ks e = record {
    inside = λ x r. H.in_q x (H.alike.right r.0 x r.1);
    real = λ x r. (reals (Rel w) (Dom w) (Ours w) g s (node g r.0) (node s x) (H.alike.mirror r.0 x r.1)).1;
    into = λ x r. H.alike.right r.0 x r.1;
    under = λ x h r m. each_in (args (node g r.0)) (args (node s x)) (args-alike H.alike H.in_p H.in_q (node g r.0) (node s x) (H.alike.mirror r.0 x r.1)) h m;
    rooted = each_in hs ks e;
  }

-- a computation that stands in the store
module _ {g : Graph} {c : Held} {μ : Store} {c' : Held} (S : Stands g c μ c') where
  abbrev R₁ : ℕ → ℕ → Type 0
  R₁ = Reps S.world g μ.nodes

  stands-roots : Each R₁ (roots_of c) (roots_of c')
  stands-roots = (S.helds.value, each_append R₁ c.askers c'.askers c.stack c'.stack S.helds.askers S.helds.stack)

  left_in : (hs ks : List ℕ) → Each R₁ hs ks → (h : ℕ) → Memᴰ h hs → h < length g
  left_in [] [] e h m = absurd (mathlib.Core.List.Memᴰ.not-nil m)
  left_in [] (j ∷ ks) e h m = absurd e
  left_in (i ∷ hs) [] e h m = absurd e
  left_in (i ∷ hs) (j ∷ ks) (e, es) h m = go (left_in hs ks es h) (mathlib.Core.List.Memᴰ.cases_cons m)
    where
      go : (Memᴰ h hs → h < length g) → (h ≡ i) ⊎ Memᴰ h hs → h < length g
      go ih (inl q) = rw q (S.holds.in_p i (leads-from (Dom S.world) g e.from e.left))
      go ih (inr w) = ih w

  -- its part of the store
  pub stands-part : {Fine : Symbol → ℕ → Type 0} → Good Fine g → Part μ.nodes S.world.owned (roots_of c')
  unfolding shape copy
  stands-part {Fine} G =
      let a = copy-good G (roots_of c) (left_in (roots_of c) (roots_of c') stands-roots) in
      let e = ap (λ (z : Comp × ℕ). z.0.graph) (stands-shape g c μ c' S) in
      part_of μ.nodes S.world.owned (Read S.holds) (roots_of c') S.holds.in_q (holds-rooted S.holds (roots_of c) (roots_of c') stands-roots) (subst (Good Fine) e a)

-- what walks find in a part
module _ {s : Graph} {own roots : List ℕ} (P : Part s own roots) where
  part-sinks : Sinks s (Handle s own roots) P.rank
  part-sinks = record { real = P.real; under = P.under }

  pub part-first : (n n' k : ℕ) → Handle s own roots k → P.rank k < n → P.rank k < n' → first_call n s k ≡ first_call n' s k
  part-first = first-sinks part-sinks

  pub part-write : (n n' k : ℕ) (seen : List ℕ) → Handle s own roots k → P.rank k < n → P.rank k < n' → write n s seen k ≡ write n' s seen k
  part-write = write-sinks part-sinks

  -- with any bound that is at least the store's length
  pub part-first-any : (n k : ℕ) → Handle s own roots k → length s ≤ n → first_call n s k ≡ first_call (length s) s k
  part-first-any n k h i = let r = P.low k h in part-first n (length s) k h (omega arith) r

  pub part-bytes-any : (n : ℕ) (ks : List ℕ) → ((k : ℕ) → Memᴰ k ks → Handle s own roots k) → length s ≤ n → write_each n s ks ≡ write_each (length s) s ks
  part-bytes-any n ks f i = bytes-sinks part-sinks n (length s) ks (λ k m. (let h = f k m in let r = P.low k h in (h, omega arith, r)))
