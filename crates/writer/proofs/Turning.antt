-- A visit and a step on the lent bytes are those of the definitions.
-- Here, in order: what stays; a visit by what is seen; a step by the top frame's words.
-- Assumes nothing.
use Prim.Native.Nat.{ℕ, suc, ◌+◌, ◌*◌, ◌≤◌, ◌<◌}
use native.Mathlib.Omega.{arith}
use native.Mathlib.Numerals.{add-one}
use mathlib.Core.Path.{◌≡◌, refl, sym, ap, ◌∙◌, subst}
use mathlib.Core.List.{List, ◌∷◌}
use lib.ListN.{length, get_or, set}
use borrow.Author.Tests.{lt-ltb, le-ltb}
use Rattle.book.specs.Syntax.{con, fun}
use Rattle.book.specs.declared.ConNo.{ConNo}
use Rattle.mem.specs.Words.{words}
use Rattle.heap.specs.Graph.{Graph, Node, cell, var, fwd, node, follow, look, args}
use Rattle.store.specs.Rows.{seen}
use Rattle.store.specs.Regions.{Room, graph_of, frames_of, Memory, Did, with_frames, set_frame, set_next, Frame, frame_at, stack}
use Rattle.store.specs.declared.Seen.{Seen}
use Rattle.store.specs.declared.Seen.TheVariants.{Var, Con, Call, Fwd}
use Rattle.store.proofs.Laws.{length-graph, count_of, count-seen}
use Rattle.store.proofs.Writes.{stack_push, stack-next, length-frames}
use Rattle.writer.specs.Walk.{Read, Stood, Kept, Framed, Turned, visit_node, visited, pick, stepped}
use Rattle.writer.specs.declared.Met.{Met}
use Rattle.writer.specs.declared.Met.TheVariants.{Made, Free, Nothing}
use Rattle.writer.specs.declared.Turn.{Turn}
use Rattle.writer.proofs.Walking.{length-stack, top_in, arg-in, root_in}

pub kept-none : (L : ℕ) (s : List ℕ) → Kept L s s
kept-none L s = record { graph = refl; marks = refl; links = refl; rest = refl; long = refl }

pub kept_then : {L : ℕ} {s s' s'' : List ℕ} → Kept L s s' → Kept L s' s'' → Kept L s s''
kept_then a b = record { graph = b.graph ∙ a.graph; marks = b.marks ∙ a.marks; links = b.links ∙ a.links; rest = b.rest ∙ a.rest; long = b.long ∙ a.long }

pub room-kept : {L : ℕ} {s s' : List ℕ} → Kept L s s' → Room L s → Room L s'
room-kept k r = rw k.long r

pub framed-none : (L : ℕ) (s : List ℕ) → Framed L s s
framed-none L s = record { kept = kept-none L s; list = refl; places = refl }

pub framed_then : {L : ℕ} {s s' s'' : List ℕ} → Framed L s s' → Framed L s' s'' → Framed L s s''
framed_then a b = record { kept = kept_then a.kept b.kept; list = b.list ∙ a.list; places = b.places ∙ a.places }

framed-did : (L : ℕ) (s s' : List ℕ) (F : Memory → List ℕ) → Did L s s' (λ m. with_frames (F m) m) → Framed L s s'
framed-did L s s' F d = record {
  kept = record {
    graph = ap (λ (m : Memory). m.graph) d.is;
    marks = ap (λ (m : Memory). m.marks) d.is;
    links = ap (λ (m : Memory). m.links) d.is;
    rest = ap (λ (m : Memory). m.rest) d.is;
    long = d.long;
  };
  list = ap (λ (m : Memory). m.list) d.is;
  places = ap (λ (m : Memory). m.places) d.is;
}

-- how many arguments, by what is seen
pub counted : (k : Seen) (x : Node) (n : ℕ) → k ≡ seen x → n ≡ count_of k → n ≡ length (args x)
counted k x n e q = q ∙ ap count_of e ∙ count-seen x

-- a visit by what is seen
unfoldable pub visit_seen : Seen → ℕ → List Frame → Met × List Frame
visit_seen Var n fs = (Free (record { 0 = n }), fs)
visit_seen (Con c k) n fs = (Made c, record { node = n; next = 0 } ∷ fs)
visit_seen (Call f k) n fs = (Nothing, fs)
visit_seen (Fwd t) n fs = (Nothing, fs)

pub seen_other : (k : Seen) (n : ℕ) (fs : List Frame) → (k ≡ Var → ⊥) → ((c : ConNo) (j : ℕ) → k ≡ Con c j → ⊥) → visit_seen k n fs ≡ (Nothing, fs)
unfolding visit_seen
seen_other Var n fs a b = absurd (a refl)
seen_other (Con c j) n fs a b = absurd (b c j refl)
seen_other (Call f j) n fs a b = refl
seen_other (Fwd t) n fs a b = refl

seen-visit : (x : Node) (n : ℕ) (fs : List Frame) → visit_seen (seen x) n fs ≡ visit_node x n fs
unfolding visit_seen visit_node seen
seen-visit (cell (con c) hs) n fs = refl
seen-visit (cell (fun f) hs) n fs = refl
seen-visit var n fs = refl
seen-visit (fwd k) n fs = refl

pub visited-seen : (g : Graph) (h n : ℕ) (k : Seen) (fs : List Frame) → n ≡ follow g h → k ≡ seen (node g n) → visit_seen k n fs ≡ visited g h fs
unfolding visited look
visited-seen g h n k fs e e' = ap (λ (k : Seen). visit_seen k n fs) e' ∙ seen-visit (node g n) n fs ∙ ap (λ (i : ℕ). visit_node (node g i) i fs) e

pub visit-is : (L d h n : ℕ) (s s' : List ℕ) (k k' : Seen) (t : Turn) → n ≡ follow (graph_of L s) h → k ≡ seen (node (graph_of L s) n) → k ≡ k'
    → Turned L s s' t (visit_seen k' n (stack d (frames_of L s))) → Turned L s s' t (visited (graph_of L s) h (stack d (frames_of L s)))
visit-is L d h n s s' k k' t e e' q T = subst (Turned L s s' t) (visited-seen (graph_of L s) h n k' (stack d (frames_of L s)) e (sym q ∙ e')) T

pub still : (L d : ℕ) (s : List ℕ) (m : Met) → Turned L s s (record { met = m; depth = d }) (m, stack d (frames_of L s))
still L d s m = record { met = refl; stack = refl; framed = framed-none L s }

pub pushed : (L d n : ℕ) (s s' : List ℕ) (m : Met) → d < L → 16 * L ≤ length (words s) → Did L s s' (set_frame d n 0)
    → Turned L s s' (record { met = m; depth = d + 1 }) (m, record { node = n; next = 0 } ∷ stack d (frames_of L s))
pushed L d n s s' m h room w = record {
  met = refl;
  stack = ap (λ (k : ℕ). stack k (frames_of L s')) (add-one d) ∙ ap (λ (m : Memory). stack (suc d) m.frames) w.is ∙ stack_push d n 0 (frames_of L s) (omega (arith, length-frames L s room));
  framed = framed-did L s s' (λ m. set (set m.frames (2 * d) n) (2 * d + 1) 0) w;
}

-- a step, by the words of the top frame
module _ (L e m i : ℕ) (s : List ℕ) (a : m ≡ get_or (frames_of L s) (2 * e) 0) (b : i ≡ get_or (frames_of L s) (2 * e + 1) 0) where
  abbrev g : Graph
  g = graph_of L s

  top-is : stack (suc e) (frames_of L s) ≡ record { node = m; next = i } ∷ stack e (frames_of L s)
  unfolding stack
  top-is = λ k. record { node = sym a k; next = sym b k } ∷ stack e (frames_of L s)

  pub step-done : length (args (node g m)) ≤ i → Turned L s s (record { met = Nothing; depth = e }) (stepped g (stack (suc e) (frames_of L s)))
  unfolding stepped pick
  step-done q = rw (top-is, stepped, le-ltb i (length (args (node g m))) q) (still L e s Nothing)

  pub step-more : (s1 s2 : List ℕ) (h : ℕ) (t : Turn) → e < L → 16 * L ≤ length (words s) → i < length (args (node g m)) → h ≡ get_or (args (node g m)) i 0
      → Did L s s1 (set_next e (i + 1)) → Turned L s1 s2 t (visited (graph_of L s1) h (stack (e + 1) (frames_of L s1))) → Turned L s s2 t (stepped g (stack (suc e) (frames_of L s)))
  unfolding stepped pick
  step-more s1 s2 h t lt room q eh w T =
      let f = framed-did L s s1 (λ m. set m.frames (2 * e + 1) (i + 1)) w in
      let k : stack (e + 1) (frames_of L s1) ≡ record { node = m; next = i + 1 } ∷ stack e (frames_of L s) = ap (λ (k : ℕ). stack k (frames_of L s1)) (add-one e) ∙ ap (λ (m : Memory). stack (suc e) m.frames) w.is ∙ stack-next e (i + 1) (frames_of L s) (omega (arith, length-frames L s room)) ∙ ap (λ (n : ℕ). record { node = n; next = i + 1 } ∷ stack e (frames_of L s)) (sym a) in
      let T' : Turned L s1 s2 t (visited g (get_or (args (node g m)) i 0) (record { node = m; next = i + 1 } ∷ stack e (frames_of L s))) = rw (k, f.kept.graph, eh) at T in
      rw (top-is, stepped, lt-ltb i (length (args (node g m))) q) (record { met = T'.met; stack = T'.stack; framed = framed_then f T'.framed })

  module _ (S : Stood g (stack (suc e) (frames_of L s))) where
    top : Stood g (record { node = m; next = i } ∷ stack e (frames_of L s))
    top = rw top-is at S

    pub top-low : m < L
    top-low = let r = top_in (record { node = m; next = i }) (stack e (frames_of L s)) top in rw length-graph at r.0

    pub arg-low : (s1 : List ℕ) (h : ℕ) → i < length (args (node g m)) → h ≡ get_or (args (node g m)) i 0 → Did L s s1 (set_next e (i + 1)) → (e + 1 < L) × (follow (graph_of L s1) h < L)
    arg-low s1 h q eh w =
        let r = arg-in (record { node = m; next = i }) (stack e (frames_of L s)) top q in
        let f = framed-did L s s1 (λ m. set m.frames (2 * e + 1) (i + 1)) w in
        let a = r.0 in
        (omega (arith, length-graph L s, length-stack e (frames_of L s)), rw (f.kept.graph, eh) (omega (arith, length-graph L s, r.1)))

pub top-deep : (L e : ℕ) (s : List ℕ) → Stood (graph_of L s) (stack (suc e) (frames_of L s)) → e < L
unfolding stack
top-deep L e s S = let r = top_in (frame_at (frames_of L s) e) (stack e (frames_of L s)) S in omega (arith, r.1, length-graph L s, length-stack e (frames_of L s))

pub root-low : (L h : ℕ) (s : List ℕ) → Read (graph_of L s) h → (0 < L) × (follow (graph_of L s) h < L)
root-low L h s R = let r = root_in h R in rw length-graph at r
