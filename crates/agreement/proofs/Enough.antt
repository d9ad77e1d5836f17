-- No bound of the graph's, the turn's and the machine's definitions ever decides anything: at every moment of every run each larger bound gives the same.
-- Here, in order: what alternatives are copied from; a computation of the machine, and one of the plain run; both at every moment, from bytes.
-- Not here: the run's own bound, and that no turn is lost (Answers).
-- Assumes nothing.
use Prim.Native.Nat.{ℕ, ◌≤◌, ◌<◌}
use native.Mathlib.Omega.{arith}
use mathlib.Core.Path.{◌≡◌, refl, sym, ◌∙◌}
use mathlib.Core.Logic.{◌⊎◌, inl, inr}
use mathlib.Core.Option.{none}
use mathlib.Core.List.Memᴰ
use mathlib.Core.List.{List, [], ◌∷◌, map, Memᴰ}
use lib.ListN.{length, get_or, drop}
use Rattle.book.specs.Syntax.{fun, Right, Book}
use Rattle.book.specs.Answers.{Counts}
use Rattle.heap.specs.Graph.{Graph, cell, look, Comp}
use Rattle.heap.specs.Build.{start}
use Rattle.engine.specs.Turn.{Turned, splits, value, lost, forward, alternatives}
use Rattle.engine.specs.Plain as Plain
use Rattle.engine.specs.Compile.{Program, compile}
use Rattle.engine.specs.Machine as Machine
use Rattle.engine.specs.Machine.{Kept, from_start, with_graph, Stop, Told, told, stopped, st, own, exec, turn_on, held_of, finish}
use Rattle.engine.specs.Run.{Limits, Lent, Moment, moment, opening}
use Rattle.agreement.proofs.Fine.{Takes}
use Rattle.agreement.proofs.Calls.{FineBook, code_runs}
use Rattle.agreement.proofs.Agree.{Sound, Pools, Same, same-splits, Tidy, turns, turn-bound}
use Rattle.agreement.proofs.Runs.{same_turn, Alike, alike, begun}
use Rattle.agreement.proofs.Refusals.{Accepted}
use Rattle.agreement.proofs.Moments.{Comes}
use Rattle.agreement.proofs.Answers.{comes-beside, comes_back, same-sure, book-of, asked_of}
use Rattle.agreement.proofs.Bounds as Bounds
use Rattle.agreement.proofs.Bounds.{EnoughIn, good-enough}

-- what alternatives are copied from: graphs that have nodes enough
pub record Copied (c : Comp) (ds : List Comp) : Type 0 where
  pub graph : Graph
  pub node : ℕ
  pub terms : List ℕ
  pub are : ds ≡ alternatives (record { graph = graph; value = c.value; askers = c.askers }) node terms
  pub enough : (r : ℕ) → Memᴰ r terms → EnoughIn (forward graph node r)

module _ (book : Book) where
  abbrev m : Program
  m = compile book

  -- every bound from the number of nodes on, or from the length of the code on, gives the same: in the graph; for a turn; for the graphs that alternatives are copied from
  pub record Enough (c : Comp) : Type 0 where
    pub graph : EnoughIn c.graph
    pub turns : (n : ℕ) → length c.graph ≤ n → Plain.turn_within n book c ≡ Plain.turn book c
    pub found : Plain.turn book c ≡ lost → ⊥
    pub copied : (ds : List Comp) (n : ℕ) → Plain.turn book c ≡ splits ds n → Copied c ds

  -- and of the machine's computations: in the graph and for a turn; for the graphs that are copied; for the code of every call, however the stack below it is
  pub record MachineEnough (k : Kept) : Type 0 where
    pub plainly : Enough k.comp
    pub turns : (n : ℕ) → length k.comp.graph ≤ n → Machine.turn_within n m k ≡ Machine.turn m k
    pub parts : (h : ℕ) (ks : List ℕ) (g : Graph) → turn_on (λ x. x) own (length k.comp.graph) m k.comp.graph (held_of k) ≡ stopped (Machine.parts h ks g) → (r : ℕ) → Memᴰ r ks → EnoughIn (forward g h r)
    pub codes : (n : ℕ) → length m.code ≤ n → (h f : ℕ) (hs N : List ℕ) → h < length k.comp.graph → look k.comp.graph h ≡ cell (fun f) hs
        → let s = st (drop (get_or m.starts f 0) m.code) (h ∷ N) none [] [] k.comp.graph in exec (λ x. x) own n m s ≡ exec (λ x. x) own (length m.code) m s

  module _ (B : FineBook book) where
    pools-same : (ds cs : List Comp) → Pools book B ds (map from_start cs) → ds ≡ cs
    unfolding from_start
    pools-same [] [] p = refl
    pools-same [] (c ∷ cs) p = absurd p
    pools-same (d ∷ ds) [] p = absurd p
    pools-same (d ∷ ds) (c ∷ cs) (e, s, p) = let q = pools-same ds cs p in let r : c ≡ d = e in cc

    same-pools : (ds : List Comp) (n : ℕ) (y : Turned Kept) → Same book B (splits ds n) y → (ks : List Kept) × (y ≡ splits ks n) × Pools book B ds ks
    same-pools ds n _ (same-splits {ks} q) = (ks, refl, q)

    module _ (c : Comp) (N : List ℕ) (S : Sound book B c N) where
      abbrev K : Kept
      K = record { comp = c; stack = N }

      copies : (ds : List Comp) (n : ℕ) → Plain.turn book c ≡ splits ds n → Copied c ds
      unfolding finish Machine.parted with_graph
      copies ds n e = on-told (turn_on (λ x. x) own (length c.graph) m c.graph (held_of K)) refl (same-pools ds n (Machine.turn m K) (rw e at T.0))
        where
          T : Same book B (Plain.turn book c) (Machine.turn m K) × ((x : Stop Graph) → turn_on (λ x. x) own (length c.graph) m c.graph (held_of K) ≡ stopped x → Tidy (Takes m) c x)
          T = turns book B c.graph c.value c.askers S.whole N S.chain

          on-stop : (x : Stop Graph) (ks : List Kept) → finish c x ≡ splits ks n → Pools book B ds ks → Tidy (Takes m) c x → Copied c ds
          on-stop (Machine.demand N' g) ks f p t = let z : ◌≡◌ {A = ℕ} 0 1 = cc in absurd (omega arith)
          on-stop (Machine.becomes h r N' g) ks f p t = let z : ◌≡◌ {A = ℕ} 0 1 = cc in absurd (omega arith)
          on-stop (Machine.parts h rs g) ks f p t =
              let z : ks ≡ map from_start (alternatives (with_graph c g) h rs) = cc in
              record { graph = g; node = h; terms = rs; are = pools-same ds _ (rw z at p); enough = λ r u. good-enough (t r u).good }
          on-stop (Machine.fails g) ks f p t = let z : ◌≡◌ {A = ℕ} 0 1 = cc in absurd (omega arith)
          on-stop (Machine.misfits g) ks f p t = let z : ◌≡◌ {A = ℕ} 0 1 = cc in absurd (omega arith)
          on-stop Machine.broken ks f p t = let z : ◌≡◌ {A = ℕ} 0 1 = cc in absurd (omega arith)
          on-stop Machine.full ks f p t = let z : ◌≡◌ {A = ℕ} 0 1 = cc in absurd (omega arith)

          on-told : (x : Told Graph) → turn_on (λ x. x) own (length c.graph) m c.graph (held_of K) ≡ x → (ks : List Kept) × (Machine.turn m K ≡ splits ks n) × Pools book B ds ks → Copied c ds
          on-told (told bs) f (ks, g, p) = let w : Machine.turn m K ≡ value bs = (unfold Machine.turn Machine.turn_within in (rw (f, Machine.turn_within))) in let z : ◌≡◌ {A = ℕ} 0 1 = cc in absurd (omega arith)
          on-told (stopped x) f (ks, g, p) = let w : Machine.turn m K ≡ finish c x = (unfold Machine.turn Machine.turn_within in (rw (f, Machine.turn_within))) in on-stop x ks (sym w ∙ g) p (T.1 x f)

      sound-enough : Enough c
      sound-enough = record {
        graph = good-enough S.whole.good;
        turns = Bounds.turn-bound book B c S.whole;
        found = same-sure book B _ _ (same_turn book B c K refl S);
        copied = copies;
      }

      machine-sound-enough : MachineEnough K
      machine-sound-enough = record {
        plainly = sound-enough;
        turns = λ n p. turn-bound book B c.graph c.value c.askers S.whole n p N S.chain;
        parts = λ h ks g e r u. good-enough ((turns book B c.graph c.value c.askers S.whole N S.chain).1 (Machine.parts h ks g) e r u).good;
        codes = λ n p h f hs M i e. code_runs book B c.graph S.whole.good n p h f hs M i e ∙ sym (code_runs book B c.graph S.whole.good (length m.code) (omega arith) h f hs M i e);
      }

    -- each computation of pools side by side
    pools-enough : (cs : List Comp) (ks : List Kept) → Pools book B cs ks → ((c : Comp) → Memᴰ c cs → Enough c) × ((k : Kept) → Memᴰ k ks → MachineEnough k)
    pools-enough [] [] p = ((λ c u. absurd (Memᴰ.not-nil u)), λ k u. absurd (Memᴰ.not-nil u))
    pools-enough [] (k ∷ ks) p = absurd p
    pools-enough (c ∷ cs) [] p = absurd p
    pools-enough (c ∷ cs) (k ∷ ks) (e, s, p) = go (pools-enough cs ks p)
      where
        s' : Sound book B k.comp k.stack
        s' = rw e s

        go : ((c : Comp) → Memᴰ c cs → Enough c) × ((k : Kept) → Memᴰ k ks → MachineEnough k) → ((x : Comp) → Memᴰ x (c ∷ cs) → Enough x) × ((y : Kept) → Memᴰ y (k ∷ ks) → MachineEnough y)
        go (f, g) = ((λ x u. first x (Memᴰ.cases_cons u)), λ y u. second y (Memᴰ.cases_cons u))
          where
            first : (x : Comp) → (x ≡ c) ⊎ Memᴰ x cs → Enough x
            first x (inl q) = rw q (sound-enough c k.stack s)
            first x (inr v) = f x v

            second : (y : Kept) → (y ≡ k) ⊎ Memᴰ y ks → MachineEnough y
            second y (inl q) = rw q (machine-sound-enough k.comp k.stack s')
            second y (inr v) = g y v

module _ {l : Limits} {m : Lent} {b q : List ℕ} {book : Book} {r : Right} (A : Accepted l m b q book r) where
  abbrev B : FineBook book
  B = book-of A

  -- No bound decides anything in the plain run: at every moment, for every computation that waits, each larger bound gives the same, and no turn is lost.
  pub enough : (pool : List Comp) (k : Counts) (out : List ℕ) → Comes (Plain.turn book) l (opening (λ c. c) (start r)) (moment pool k out) → (c : Comp) → Memᴰ c pool → Enough book c
  enough pool k out w = go (comes-beside book B l (begun book B r (asked_of A)) w)
    where
      go : (y : Moment Kept) × Comes (Machine.turn (compile book)) l (opening from_start (start r)) y × Alike book B (moment pool k out) y → (c : Comp) → Memᴰ c pool → Enough book c
      go (moment pool' k' out', d, alike p) = (pools-enough book B pool pool' p).0

  -- And none in the machine's run.
  pub machine-enough : (pool : List Kept) (k : Counts) (out : List ℕ) → Comes (Machine.turn (compile book)) l (opening from_start (start r)) (moment pool k out) → (c : Kept) → Memᴰ c pool → MachineEnough book c
  machine-enough pool k out w = go (comes_back book B l (begun book B r (asked_of A)) w)
    where
      go : (x : Moment Comp) × Comes (Plain.turn book) l (opening (λ c. c) (start r)) x × Alike book B x (moment pool k out) → (c : Kept) → Memᴰ c pool → MachineEnough book c
      go (moment pool' k' out', d, alike p) = (pools-enough book B pool' pool p).1
