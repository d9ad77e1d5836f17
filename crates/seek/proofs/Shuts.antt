-- Handles with no call under them.
-- Here, in order: what is quiet to a search is shut; nothing is found there; more marks; a node finished.
-- Assumes nothing.
use Prim.Native.Nat.{ℕ, zero, suc, ◌<◌}
use native.Mathlib.Omega.{arith}
use native.Mathlib.Decide.{ℕ_discrete}
use mathlib.Core.Path.{◌≡◌, refl, sym, ap, ◌∙◌}
use mathlib.Core.Logic.{◌⊎◌, inl, inr, ◌≢◌}
use mathlib.Core.Option.{none}
use mathlib.Core.List.{List, Memᴰ}
use lib.ListN.{length, get_or, set}
use lib.Seq.{get_or-set_same, get_or-set_other}
use Rattle.book.specs.Syntax.{con}
use Rattle.heap.specs.Graph.{Graph, cell, var, node, follow, look, args, first_call}
use Rattle.heap.proofs.Laws.Alike.{leads-follow, leads-keep}
use Rattle.heap.proofs.Laws.First.{first-con, first-var, first-zero}
use Rattle.standing.specs.Part.{Handle}
use Rattle.seek.specs.Path.{To, Shut, Closed, Open}
use Rattle.seek.specs.Search.{IsQuiet, Ground}
use Rattle.seek.proofs.Finds.{first_in-is, none_in}

-- a handle of the part leads to its node through nodes that are made
pub to_made : {made : ℕ} {g : Graph} {own roots : List ℕ} {r : ℕ} → Ground made g own roots r → {k : ℕ} → Handle g own roots k → To made g (follow g k) k
to_made {g = g} G h = leads-keep g G.below (λ x p. refl) h.leads

pub quiet-shut : {made : ℕ} {g : Graph} {own roots : List ℕ} {r : ℕ} (G : Ground made g own roots r) {marks : List ℕ} {k : ℕ} → Handle g own roots k → IsQuiet g marks k → Shut made g marks k
unfolding look
quiet-shut {g = g} G {marks} {k} h q = record { end = follow g k; leads = to_made G h; quiet = q.is }

-- where a handle leads, by what is read there
pub to-look : {made : ℕ} {g : Graph} {e k : ℕ} → To made g e k → look g k ≡ node g e
unfolding look
to-look {made} {g} {e} l = ap (node g) (leads-follow (λ x. x < made) g e l)

-- nothing is found where it is shut
pub shut_none : {made : ℕ} {g : Graph} {marks : List ℕ} → Closed made g marks → (n : ℕ) {k : ℕ} → Shut made g marks k → first_call n g k ≡ none
shut_none {g = g} C zero {k} S = first-zero g k
shut_none {made} {g} {marks} C (suc n) {k} S = go (λ x. shut_none C n {k = x}) S.quiet
  where
    go : ((x : ℕ) → Shut made g marks x → first_call n g x ≡ none) → (node g S.end ≡ var) ⊎ (get_or marks S.end 0 ≡ 2) → first_call (suc n) g k ≡ none
    go ih (inl e) = first-var n g k (to-look S.leads ∙ e)
    go ih (inr e) =
        let y = C.name S.end e in
        first-con n g k y.0 (args (node g S.end)) (to-look S.leads ∙ y.1)
        ∙ first_in-is (first_call n g) (args (node g S.end))
        ∙ none_in (first_call n g) (args (node g S.end)) (λ h m. ih h (C.under S.end e h m))

-- with more nodes finished
pub shut-more : {made : ℕ} {g : Graph} {marks marks' : List ℕ} → ((x : ℕ) → get_or marks x 0 ≡ 2 → get_or marks' x 0 ≡ 2) → {k : ℕ} → Shut made g marks k → Shut made g marks' k
shut-more {made} {g} {marks} {marks'} f S = record { end = S.end; leads = S.leads; quiet = go S.quiet }
  where
    go : (node g S.end ≡ var) ⊎ (get_or marks S.end 0 ≡ 2) → (node g S.end ≡ var) ⊎ (get_or marks' S.end 0 ≡ 2)
    go (inl e) = inl e
    go (inr e) = inr (f S.end e)

-- a word of a list, written
pub word_at : (l : List ℕ) (n v x : ℕ) → n < length l → ((x ≡ n) × (get_or (set l n v) x 0 ≡ v)) ⊎ ((x ≢ n) × (get_or (set l n v) x 0 ≡ get_or l x 0))
word_at l n v x h = go (ℕ_discrete x n)
  where
    go : Dec (x ≡ n) → ((x ≡ n) × (get_or (set l n v) x 0 ≡ v)) ⊎ ((x ≢ n) × (get_or (set l n v) x 0 ≡ get_or l x 0))
    go (yes e) = inl (e, rw e (get_or-set_same l n v 0 h))
    go (no e) = inr (e, get_or-set_other l n x v 0 e)

-- a node is finished
module _ {made : ℕ} {g : Graph} {marks : List ℕ} (C : Closed made g marks) (n : ℕ) (long : n < length marks) (low : n < made) (O : Open g marks n) where
  abbrev marks₁ : List ℕ
  marks₁ = set marks n 2

  pub still-finished : (x : ℕ) → get_or marks x 0 ≡ 2 → get_or marks₁ x 0 ≡ 2
  still-finished x e = go (word_at marks n 2 x long)
    where
      go : ((x ≡ n) × (get_or marks₁ x 0 ≡ 2)) ⊎ ((x ≢ n) × (get_or marks₁ x 0 ≡ get_or marks x 0)) → get_or marks₁ x 0 ≡ 2
      go (inl a) = a.1
      go (inr a) = a.1 ∙ e

  module _ (under : (k : ℕ) → Memᴰ k (args (node g n)) → Shut made g marks k) where
    was : (x : ℕ) → get_or marks₁ x 0 ≡ 2 → (x ≡ n) ⊎ (get_or marks x 0 ≡ 2)
    was x e = go (word_at marks n 2 x long)
      where
        go : ((x ≡ n) × (get_or marks₁ x 0 ≡ 2)) ⊎ ((x ≢ n) × (get_or marks₁ x 0 ≡ get_or marks x 0)) → (x ≡ n) ⊎ (get_or marks x 0 ≡ 2)
        go (inl a) = inl a.0
        go (inr a) = inr (sym a.1 ∙ e)

    named : (x : ℕ) → (x ≡ n) ⊎ (get_or marks x 0 ≡ 2) → (y : ℕ) × (node g x ≡ cell (con y) (args (node g x)))
    named x (inl e) = (O.name, rw e O.con)
    named x (inr e) = C.name x e

    below : (x : ℕ) → (x ≡ n) ⊎ (get_or marks x 0 ≡ 2) → (k : ℕ) → Memᴰ k (args (node g x)) → Shut made g marks k
    below x (inl e) k m = under k (rw e at m)
    below x (inr e) k m = C.under x e k m

    pub closed-finish : Closed made g marks₁
    closed-finish = record {
      new = λ x h. get_or-set_other marks n x 2 0 (λ e. omega arith) ∙ C.new x h;
      name = λ x e. named x (was x e);
      under = λ x e k m. shut-more still-finished (below x (was x e) k m);
    }
