-- Laws of what stays: nothing changed, a node made, a register written, one behind the other; the tables stay.
-- Assumes nothing.
use Prim.Native.Nat.{ℕ, ◌+◌, ◌*◌, ◌≤◌, ◌<◌}
use mathlib.Core.Path.{◌≡◌, refl, ap, sym, ◌∙◌, subst}
use mathlib.Core.List.{List}
use lib.ListN.{get_or, get_elem?, take, drop}
use lib.Seq.{take-take, take-set-le, drop-set-lt, get_or-take}
use native.Mathlib.Omega.{arith}
use Rattle.heap.specs.Graph.{Node}
use Rattle.store.specs.Regions.{graph_of, rest_of, Memory, Did, set_node, set_rest}
use Rattle.engine.specs.Compile.{Program}
use Rattle.engine.specs.Machine as m
use Rattle.heap.specs.Store.{Store}
use Rattle.machine.specs.Tables.{Has, Home, vars_at, terms_end}
use Rattle.machine.specs.Contract.{Fine, Kept, Frame, Roomy, Went}
use Rattle.std.specs.Prelude.{Result}
use Rattle.machine.specs.declared.Regs.{Regs}
use Rattle.machine.specs.declared.Ended.{Ended}

pub kept_same : {L base k : ℕ} {s : List ℕ} → Kept L base k s s
kept_same = record { nodes = refl; marks = refl; list = refl; places = refl; frames = refl; before = refl; behind = refl; long = refl }

pub frame-regs : {L base : ℕ} {s : List ℕ} {r r' : Regs} → r'.top ≡ r.top → r.made ≤ r'.made → Fine r' → Frame L base s s r r'
frame-regs t k f = record { kept = kept_same; links = refl; top = t; made = k; fine = f }

pub frame_same : {L base : ℕ} {s : List ℕ} {r : Regs} → Fine r → Frame L base s s r r
frame_same f = frame-regs refl (omega arith) f

pub kept_then : {L base k k' : ℕ} {s s' s'' : List ℕ} → k ≤ k' → Kept L base k s s' → Kept L base k' s' s'' → Kept L base k s s''
kept_then {L} {base} {k} {k'} {s} {s'} {s''} h a b = record {
  nodes = sym (take-take k k' (graph_of L s'') h) ∙ ap (take k) b.nodes ∙ take-take k k' (graph_of L s') h ∙ a.nodes;
  marks = b.marks ∙ a.marks;
  list = b.list ∙ a.list;
  places = b.places ∙ a.places;
  frames = b.frames ∙ a.frames;
  before = b.before ∙ a.before;
  behind = b.behind ∙ a.behind;
  long = b.long ∙ a.long;
}

pub frame_then : {L base : ℕ} {s s' s'' : List ℕ} {r r' r'' : Regs} → Frame L base s s' r r' → Frame L base s' s'' r' r'' → Frame L base s s'' r r''
frame_then a b = record {
  kept = kept_then a.made a.kept b.kept;
  links = b.links ∙ a.links;
  top = b.top ∙ a.top;
  made = let x = a.made in let y = b.made in omega arith;
  fine = b.fine;
}

-- a node made
pub kept-node : {L base k : ℕ} {s s' : List ℕ} {n : ℕ} {x : Node} → Did L s s' (set_node n x) → k ≤ n → Kept L base k s s'
kept-node {L} {base} {k} {s} {s'} {n} {x} d h = record {
  nodes = ap (λ (m : Memory). take k m.graph) d.is ∙ take-set-le k (graph_of L s) n x h;
  marks = ap (λ (m : Memory). m.marks) d.is;
  list = ap (λ (m : Memory). m.list) d.is;
  places = ap (λ (m : Memory). m.places) d.is;
  frames = ap (λ (m : Memory). m.frames) d.is;
  before = ap (λ (m : Memory). take (base + vars_at) m.rest) d.is;
  behind = ap (λ (m : Memory). drop (base + terms_end) m.rest) d.is;
  long = d.long;
}

-- a word of the registers written
pub kept-rest : {L base k : ℕ} {s s' : List ℕ} {j v : ℕ} → Did L s s' (set_rest j v) → base + vars_at ≤ j → j < base + terms_end → Kept L base k s s'
kept-rest {L} {base} {k} {s} {s'} {j} {v} d lo hi = record {
  nodes = ap (λ (m : Memory). take k m.graph) d.is;
  marks = ap (λ (m : Memory). m.marks) d.is;
  list = ap (λ (m : Memory). m.list) d.is;
  places = ap (λ (m : Memory). m.places) d.is;
  frames = ap (λ (m : Memory). m.frames) d.is;
  before = ap (λ (m : Memory). take (base + vars_at) m.rest) d.is ∙ take-set-le (base + vars_at) (rest_of L s) j v lo;
  behind = ap (λ (m : Memory). drop (base + terms_end) m.rest) d.is ∙ drop-set-lt (base + terms_end) (rest_of L s) j v hi;
  long = d.long;
}

-- the tables stay
module _ {L base k : ℕ} {s s' : List ℕ} (K : Kept L base k s s') where
  word_kept : (j : ℕ) → j < base + vars_at → get_or (rest_of L s') j 0 ≡ get_or (rest_of L s) j 0
  word_kept j h = sym (get_or-take (base + vars_at) (rest_of L s') j 0 h) ∙ ap (λ (l : List ℕ). get_or l j 0) K.before ∙ get_or-take (base + vars_at) (rest_of L s) j 0 h

  pub has_kept : (p : Program) → Has p base (rest_of L s) → Has p base (rest_of L s')
  has_kept p h = record {
    start = λ f lt. rw (word_kept (base + 2 * f) (omega arith), word_kept (base + 2 * f + 1) (omega arith)) (h.start f lt);
    funs = λ f lt. word_kept (base + 512 + f) (omega arith) ∙ h.funs f lt;
    cons = λ c lt. word_kept (base + 768 + c) (omega arith) ∙ h.cons c lt;
    home = λ c lt. subst (λ (t : ℕ). Home (get_elem? (m.homes 0 p.types) c) t (get_or (rest_of L s') (base + 1280 + c) 0)) (sym (word_kept (base + 1024 + c) (omega arith)))
        (subst (λ (j : ℕ). Home (get_elem? (m.homes 0 p.types) c) (get_or (rest_of L s) (base + 1024 + c) 0) j) (sym (word_kept (base + 1280 + c) (omega arith))) (h.home c lt));
    small = h.small;
  }

-- an answer after other changes, and to the same question
pub went-from : {L base : ℕ} {code : List ℕ} {r r' : Regs} {s s' s'' : List ℕ} {a : Result Regs Ended} {f g : Program → m.Step Store}
    → Frame L base s s' r r' → ((p : Program) → Has p base (rest_of L s) → p.code ≡ code → g p ≡ f p) → Went L base code r' s' s'' a f → Went L base code r s s'' a g
went-from F e w = record {
  is = λ p h c room. w.is p (has_kept F.kept p h) c (subst Roomy (e p h c) room) ∙ sym (e p h c);
  frame = frame_then F w.frame;
}

pub went-as : {L base : ℕ} {code : List ℕ} {r : Regs} {s s' : List ℕ} {a : Result Regs Ended} {f g : Program → m.Step Store}
    → ((p : Program) → Has p base (rest_of L s) → p.code ≡ code → g p ≡ f p) → Went L base code r s s' a f → Went L base code r s s' a g
went-as e w = record { is = λ p h c room. w.is p h c (subst Roomy (e p h c) room) ∙ sym (e p h c); frame = w.frame }
