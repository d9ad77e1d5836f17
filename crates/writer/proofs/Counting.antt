-- The walk goes on: what a step on the bytes, or a visit of a root, leaves to the loops.
-- Here, in order: a step; a visit; the bytes counted so far.
-- Assumes nothing.
use Prim.Native.Nat.{ℕ, zero, suc, ◌+◌, ◌-◌, ◌*◌, ◌≤◌, ◌<◌}
use native.Mathlib.Omega.{arith}
use mathlib.Core.Path.{◌≡◌, refl, sym, ◌∙◌, subst}
use mathlib.Core.List.{List, [], ◌∷◌, ◌++◌}
use lib.ListN.{length, get_or, drop, drop_of_length-le}
use lib.Seq.{drop-cons}
use native.Mathlib.Numerals.{add-one}
use borrow.Author.Tests.{le-leb, lt-leb}
use Rattle.mem.specs.Words.{words}
use Rattle.heap.specs.Graph.{Graph, write, write_each}
use Rattle.heap.proofs.Laws.Reach.{mem-at}
use Rattle.store.specs.Regions.{Room, graph_of, frames_of, Frame, frame_at, stack}
use Rattle.store.proofs.Laws.{length-graph}
use Rattle.writer.specs.Walk.{Reads, Read, Stood, Kept, Turned, visited, stepped, pick, weigh}
use Rattle.writer.specs.Owes.{after, tells, owes, dues, steps, fits}
use Rattle.writer.specs.Written.{Within}
use Rattle.writer.specs.declared.Met.{Met}
use Rattle.writer.specs.declared.Met.TheVariants.{Made, Free, Nothing}
use Rattle.writer.specs.declared.Turn.{Turn}
use Rattle.std.specs.Prelude.{Some, None}
use Rattle.writer.proofs.Walking.{few-args, step-stands, visit-stands}
use Rattle.writer.proofs.Turning.{top-deep}
use Rattle.writer.proofs.Owing.{step-owes, visit-owes, step-dues, visit-dues, step-steps, after_none}

-- what the frames owe is what is met and what the frames then owe
pub record Onward (L : ℕ) (g : Graph) (s s1 : List ℕ) (fs : List Frame) (t : Turn) : Type 0 where
  pub stands : Stood g (stack t.depth (frames_of L s1))
  pub within : Within L t.met
  pub counts : dues L g fs ≡ weigh t.met + dues L g (stack t.depth (frames_of L s1))
  pub owed : (seen : List ℕ) → owes L g seen fs ≡ after (tells seen t.met) (λ l. owes L g l (stack t.depth (frames_of L s1)))
  pub falls : steps (graph_of L s1) (stack t.depth (frames_of L s1)) < steps (graph_of L s) fs + 10 * weigh t.met

pub onward : (L e : ℕ) (s0 s s1 : List ℕ) (t : Turn) → 16 * L ≤ length (words s) → graph_of L s ≡ graph_of L s0 → Stood (graph_of L s0) (stack (suc e) (frames_of L s))
    → Turned L s s1 t (stepped (graph_of L s) (stack (suc e) (frames_of L s))) → Onward L (graph_of L s0) s s1 (stack (suc e) (frames_of L s)) t
unfolding stack
onward L e s0 s s1 t room q S T =
    let f = frame_at (frames_of L s) e in
    let fs = stack e (frames_of L s) in
    let g = graph_of L s0 in
    let len = length-graph L s0 in
    let big : length g ≤ L = omega arith in
    let T' : Turned L s s1 t (stepped g (f ∷ fs)) = rw q at T in
    let k = step-stands (f ∷ fs) S in
    record {
      stands = rw T'.stack k.0;
      within = rw T'.met (subst (λ (n : ℕ). Within n (stepped g (f ∷ fs)).0) len k.1);
      counts = rw (T'.stack, T'.met) (step-dues f fs L big S);
      owed = λ seen. rw (T'.stack, T'.met) (step-owes S.part L big seen f fs S.high);
      falls = rw (T.framed.kept.graph, T.stack, T.met) (step-steps (graph_of L s) f fs (few-args L s room));
    }

-- with d frames, of which d - 1 are under the top
module _ (L d : ℕ) (s0 s : List ℕ) (pos : 0 < d) (room : Room L s0) (K : Kept L s0 s) (S : Stood (graph_of L s0) (stack d (frames_of L s))) where
  room-now : Room L s
  room-now = rw K.long room

  pub step-ready : Room L s × (Stood (graph_of L s) (stack (suc (d - 1)) (frames_of L s)) × (d - 1 < L))
  step-ready =
      let e : suc (d - 1) ≡ d = omega arith in
      let k : Stood (graph_of L s) (stack (suc (d - 1)) (frames_of L s)) = rw (e, K.graph) S in
      (room-now, (k, top-deep L (d - 1) s k))

  pub onward-at : (s1 : List ℕ) (t : Turn) → Turned L s s1 t (stepped (graph_of L s) (stack (suc (d - 1)) (frames_of L s))) → Onward L (graph_of L s0) s s1 (stack d (frames_of L s)) t
  onward-at s1 t T =
      let e : suc (d - 1) ≡ d = omega arith in
      let S' : Stood (graph_of L s0) (stack (suc (d - 1)) (frames_of L s)) = rw e S in
      subst (λ (n : ℕ). Onward L (graph_of L s0) s s1 (stack n (frames_of L s)) t) e (onward L (d - 1) s0 s s1 t room-now.1 K.graph S' T)

pub weigh-small : (m : Met) → weigh m ≤ 3
weigh-small (Made c) = omega arith
weigh-small (Free n) = omega arith
weigh-small Nothing = omega arith

pub record Begun (L : ℕ) (g : Graph) (s1 : List ℕ) (h : ℕ) (t : Turn) : Type 0 where
  pub stands : Stood g (stack t.depth (frames_of L s1))
  pub within : Within L t.met
  pub counts : length (write L g [] h).1 ≡ weigh t.met + dues L g (stack t.depth (frames_of L s1))
  pub owed : (seen : List ℕ) → write L g seen h ≡ after (tells seen t.met) (λ l. owes L g l (stack t.depth (frames_of L s1)))

pub begun : (L h : ℕ) (s s1 : List ℕ) (t : Turn) → Read (graph_of L s) h → Turned L s s1 t (visited (graph_of L s) h (stack 0 (frames_of L s))) → Begun L (graph_of L s) s1 h t
unfolding stack
begun L h s s1 t R T =
    let g = graph_of L s in
    let len = length-graph L s in
    let big : length g ≤ L = omega arith in
    let k = visit-stands h R in
    record {
      stands = rw T.stack k.0;
      within = rw T.met (subst (λ (n : ℕ). Within n (visited g h []).0) len k.1);
      counts = rw (T.stack, T.met) (visit-dues h L big R);
      owed = λ seen. rw (T.stack, T.met) (sym (after_none L g (write L g seen h)) ∙ visit-owes R.part L big seen h [] R.handle);
    }

-- nothing is owed where no frame is left
pub dues-none : (L d : ℕ) (g : Graph) (l : List ℕ) → d ≤ 0 → dues L g (stack d l) ≡ 0
unfolding dues owes stack
dues-none L zero g l h = refl
dues-none L (suc d) g l h = absurd (omega arith)

-- where the roots are read, each root is
pub reads_at : {g : Graph} (ks : List ℕ) (i : ℕ) → i < length ks → Reads g ks → Read g (get_or ks i 0)
reads_at ks i h R = record { own = R.own; all = R.all; part = R.part; handle = R.handle (get_or ks i 0) (mem-at ks i h) }

-- the terms from the i-th on
pub each_more : (L : ℕ) (g : Graph) (ks : List ℕ) (i : ℕ) → i < length ks → write_each L g (drop i ks) ≡ (write L g [] (get_or ks i 0)).1 ++ write_each L g (drop (i + 1) ks)
unfolding write_each
each_more L g ks i h = rw (drop-cons ks i 0 h, add-one)

pub each-done : (L : ℕ) (g : Graph) (ks : List ℕ) (i : ℕ) → length ks ≤ i → write_each L g (drop i ks) ≡ []
unfolding write_each
each-done L g ks i h = rw (drop_of_length-le ks {i = i} h)

pub fits-over : (room n : ℕ) → room < n → None ≡ fits room n
unfolding fits pick
fits-over room n h = rw (lt-leb n room h)

pub fits_in : (room n m : ℕ) → n ≡ m → n ≤ room → Some n ≡ fits room m
unfolding fits pick
fits_in room n m e h = rw (← e, le-leb n room h)
