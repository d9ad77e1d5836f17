-- A term is written, frame by frame; and its variables lose their places again.
-- Here, in order: the room for what is told; one more step written; the end; places cleared; a part lent on.
-- Assumes nothing.
use Prim.Native.Nat.{ℕ, zero, suc, ◌+◌, ◌-◌, ◌*◌, ◌≤◌, ◌<◌}
use native.Mathlib.Omega.{arith}
use native.Mathlib.Numerals.{add-one}
use native.Mathlib.Nat.{add-zero}
use native.Mathlib.Decide.{ℕ_discrete}
use mathlib.Core.Path.{◌≡◌, refl, sym, ap, ◌∙◌}
use mathlib.Core.Logic.{◌⊎◌, inl, inr}
use mathlib.Core.Option.{Option, none, some}
use mathlib.Core.List.Memᴰ
use mathlib.Core.List.{List, Memᴰ}
use lib.ListN.{length, get_or, drop, set, replicate, length-replicate, get_or-replicate, drop_of_length-le}
use lib.Seq.{drop-cons, get_or-take, get_or-set_same, get_or-set_other, ext_get_or}
use Rattle.mem.specs.Words.{words}
use Rattle.heap.specs.Graph.{Graph, index_of}
use Rattle.heap.proofs.Laws.Reach.{mem-at, index_of-some}
use Rattle.store.specs.Regions.{graph_of, list_of, places_of, frames_of, Memory, Did, set_place, Frame, stack}
use Rattle.store.proofs.Writes.{length-places}
use Rattle.writer.specs.Walk.{Stood, Kept, Framed, weigh}
use Rattle.writer.specs.Owes.{after, tells, owes, steps}
use Rattle.writer.specs.Written.{over, End, ends, seen_of, place_of, Table, Clean, Told}
use Rattle.writer.specs.declared.Met.{Met}
use Rattle.writer.specs.declared.Turn.{Turn}
use Rattle.writer.proofs.Owing.{after-length, tells-weigh}
use Rattle.writer.proofs.Telling.{ends-after, length_over, length_seen, seen_same}
use Rattle.writer.proofs.Counting.{Onward}

-- what is owed begins with what is met: there is room for it
pub told-fits : (L : ℕ) (g : Graph) (seen : List ℕ) (fs : List Frame) (m : Met) (x : List ℕ × List ℕ) (k n : ℕ) → x ≡ after (tells seen m) (λ l. owes L g l fs) → k + length x.1 ≤ n → k + weigh m ≤ n
told-fits L g seen fs m x k n e h = let a = after-length L g fs seen m in let b = ap (λ (p : List ℕ × List ℕ). length p.1) e in omega arith

-- what is met is written, and the frames owe what is left
pub told-on : (L : ℕ) (g : Graph) (s1 s2 out out2 seen : List ℕ) (fs : List Frame) (m : Met) (x : List ℕ × List ℕ) (k v' k' : ℕ) → x ≡ after (tells seen m) (λ l. owes L g l fs)
    → Told L s1 s2 out out2 k (tells seen m) v' k' → ends out2 k' (owes L g (seen_of L s2 v') fs) ≡ ends out k x
told-on L g s1 s2 out out2 seen fs m x k v' k' e T =
    ap (λ (E : End). ends E.out E.at (owes L g E.seen fs)) T.is ∙ sym (ends-after out k (tells seen m) (λ l. owes L g l fs)) ∙ ap (ends out k) (sym e)

pub told_at : (L : ℕ) (s1 s2 out out2 seen : List ℕ) (m : Met) (k v' k' : ℕ) → Told L s1 s2 out out2 k (tells seen m) v' k' → (k' ≡ k + weigh m) × (length out2 ≡ length out)
told_at L s1 s2 out out2 seen m k v' k' T = (ap (λ (E : End). E.at) T.is ∙ ap (λ (n : ℕ). k + n) (tells-weigh seen m), ap (λ (E : End). length E.out) T.is ∙ length_over out k (tells seen m).1)

-- the loop's step: what was owed is what is told and what is owed then
module _ (L d v k : ℕ) (g : Graph) (s s1 s2 out out2 : List ℕ) (t : Turn) (v' k' : ℕ) (O : Onward L g s s1 (stack d (frames_of L s)) t) (F : Framed L s s1) (fit : k + length (owes L g (seen_of L s v) (stack d (frames_of L s))).1 ≤ length out) where
  abbrev now : List ℕ × List ℕ
  now = owes L g (seen_of L s v) (stack d (frames_of L s))

  owed-now : now ≡ after (tells (seen_of L s1 v) t.met) (λ l. owes L g l (stack t.depth (frames_of L s1)))
  owed-now = rw (seen_same L v s s1 F.list) (O.owed (seen_of L s v))

  pub drain-fits : k + weigh t.met ≤ length out
  drain-fits = told-fits L g (seen_of L s1 v) (stack t.depth (frames_of L s1)) t.met now k (length out) owed-now fit

  module _ (T : Told L s1 s2 out out2 k (tells (seen_of L s1 v) t.met) v' k') where
    abbrev then : List ℕ × List ℕ
    then = owes L g (seen_of L s2 v') (stack t.depth (frames_of L s2))

    pub drain-is : ends out2 k' then ≡ ends out k now
    drain-is = rw T.frames (told-on L g s1 s2 out out2 (seen_of L s1 v) (stack t.depth (frames_of L s1)) t.met now k v' k' owed-now T)

    pub drain-long : length out2 ≡ length out
    drain-long = (told_at L s1 s2 out out2 (seen_of L s1 v) t.met k v' k' T).1

    pub drain-fit : k' + length then.1 ≤ length out2
    drain-fit = let a = ap (λ (E : End). E.at) drain-is in let b = drain-long in omega arith

    pub drain-stands : Stood g (stack t.depth (frames_of L s2))
    drain-stands = rw T.frames O.stands

    pub drain-falls : 10 * (length out2 - k') + steps (graph_of L s2) (stack t.depth (frames_of L s2)) < 10 * (length out - k) + steps (graph_of L s) (stack d (frames_of L s))
    drain-falls =
        let a = told_at L s1 s2 out out2 (seen_of L s1 v) t.met k v' k' T in
        let b = drain-fits in
        let c : steps (graph_of L s2) (stack t.depth (frames_of L s2)) < steps (graph_of L s) (stack d (frames_of L s)) + 10 * weigh t.met = rw (T.frames, T.kept.graph) O.falls in
        let p = a.0 in
        let q = a.1 in
        omega arith

-- where no frame is left, all is written
pub drained : (L d v k : ℕ) (g : Graph) (s out : List ℕ) → d ≤ 0 → ◌≡◌ {A = End} (record { seen = seen_of L s v; out = out; at = k }) (ends out k (owes L g (seen_of L s v) (stack d (frames_of L s))))
unfolding owes stack over
drained L zero v k g s out h = λ i. record { seen = seen_of L s v; out = out; at = sym (add-zero k) i }
drained L (suc d) v k g s out h = absurd (omega arith)

-- places cleared
abbrev pub Clears : ℕ → List ℕ → List ℕ → Type 0
Clears L s l = (k : ℕ) → k < L → (Memᴰ k l → ⊥) → get_or (places_of L s) k 0 ≡ 0

module _ (L seen : ℕ) (s0 : List ℕ) (room : 16 * L ≤ length (words s0)) (T : Table L s0 seen) where
  abbrev l : List ℕ
  l = seen_of L s0 seen

  pub clear-start : Clears L s0 (drop 0 l)
  unfolding place_of
  clear-start k h f = T.placed k h ∙ go (index_of k l) refl
    where
      go : (o : Option ℕ) → index_of k l ≡ o → place_of (index_of k l) ≡ 0
      go none e = rw (e, place_of)
      go (some i) e = absurd (f (index_of-some k l i e))

  module _ (s : List ℕ) (i n : ℕ) (h : i < seen) (same : list_of L s ≡ list_of L s0) (e : n ≡ get_or (list_of L s) i 0) where
    in_list : n ≡ get_or l i 0
    unfolding seen_of
    in_list = e ∙ ap (λ (x : List ℕ). get_or x i 0) same ∙ sym (get_or-take seen (list_of L s0) i 0 h)

    in-range : i < length l
    in-range = omega (arith, length_seen L seen s0 room T.short)

    pub clear-low : n < L
    clear-low = T.low n (rw in_list (mem-at l i in-range))

    pub clear-again : (s1 : List ℕ) → length (words s) ≡ length (words s0) → Did L s s1 (set_place n 0) → Clears L s (drop i l) → Clears L s1 (drop (i + 1) l)
    clear-again s1 long d C k q f =
        let p : places_of L s1 ≡ set (places_of L s) n 0 = ap (λ (m : Memory). m.places) d.is in
        rw p (go (ℕ_discrete k n))
      where
        tail : (k ≡ n → ⊥) → Memᴰ k (drop i l) → ⊥
        tail u m = cases (Memᴰ.cases_cons (rw (drop-cons l i 0 in-range) at m))
          where
            cases : (k ≡ get_or l i 0) ⊎ Memᴰ k (drop (suc i) l) → ⊥
            cases (inl w) = u (w ∙ sym in_list)
            cases (inr w) = f (rw add-one w)

        go : Dec (k ≡ n) → get_or (set (places_of L s) n 0) k 0 ≡ 0
        go (yes u) = rw (u, get_or-set_same (places_of L s) n 0 0 (omega (arith, clear-low, length-places L s (omega arith))))
        go (no u) = get_or-set_other (places_of L s) n k 0 0 u ∙ C k q (tail u)

  pub clear-done : (s : List ℕ) (i : ℕ) → seen ≤ i → length (words s) ≡ length (words s0) → Clears L s (drop i l) → Clean L s
  clear-done s i h long C =
      let a = length-places L s (omega arith) in
      ext_get_or 0 (places_of L s) (replicate L 0) (rw length-replicate a) (λ k q. (let q' : k < L = omega arith in C k q' (λ m. Memᴰ.not-nil (rw (drop_of_length-le l {i = i} (omega (arith, length_seen L seen s0 room T.short))) at m)) ∙ sym (get_or-replicate L k 0 0 q')))

pub kept-place : (L n v : ℕ) (s s' : List ℕ) → Did L s s' (set_place n v) → Kept L s s' × (list_of L s' ≡ list_of L s)
kept-place L n v s s' d = (
  record {
    graph = ap (λ (m : Memory). m.graph) d.is;
    marks = ap (λ (m : Memory). m.marks) d.is;
    links = ap (λ (m : Memory). m.links) d.is;
    rest = ap (λ (m : Memory). m.rest) d.is;
    long = d.long;
  },
  ap (λ (m : Memory). m.list) d.is,
)
