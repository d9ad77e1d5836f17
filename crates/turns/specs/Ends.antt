-- The step that ends a turn.
-- Here, in order: what the step relies on; what it writes; what it does.
-- Not here: the copies for alternatives (crate alternatives), the turn (Front).
-- Assumes nothing.
use Rattle.std.specs.Prelude.{ℕ, ◌+◌, ◌≤◌, ◌<◌, ◌≡◌, ◌≢◌, List, length, take, None}
use Rattle.mem.specs.Words.{words}
use Rattle.heap.specs.Graph.{node}
use Rattle.standing.specs.Shared.{finish}
use Rattle.store.specs.Regions.{graph_of, marks_of, links_of, rest_of}
use Rattle.machine.specs.View.{stop_of}
use Rattle.machine.specs.declared.Regs.{Regs}
use Rattle.machine.specs.declared.Stop.{Stop}
use Rattle.machine.specs.declared.Stop.TheVariants.{Demand, Becomes, Parts, Fails, Misfits, Broken, Full}
use Rattle.copier.specs.Listed.{Clean}
use Rattle.pool.specs.declared.Held.{Held}
use Rattle.pool.specs.Ring.{held_by}
use Rattle.store.specs.Roots.{roots_of}
use Rattle.alternatives.specs.Copies.{Divides, terms_in}
use Rattle.turns.specs.Front.{took_of}
use Rattle.turns.specs.declared.Turned.{Turned}
use Rattle.turns.specs.declared.What.TheVariants.{Went}

-- the registers that an end of the code speaks of
abbrev pub regs_with : ℕ → ℕ → ℕ → Regs
regs_with top terms made = record { pc = 0; top = top; cur = None; terms = terms; vars = 0; made = made }

-- a forward's node is one of the store; a node with alternatives has at most 32, and the computation is to be split there
abbrev pub Stopped : ℕ → ℕ → Held → ℕ → ℕ → List ℕ → Stop → Type 0
Stopped L base held terms made s (Demand k) = Unit
Stopped L base held terms made s (Becomes h k) = h.0 < L
Stopped L base held terms made s (Parts h) = (terms ≤ 32) × Divides L made (roots_of held.roots) h.0 (terms_in L base s terms) s
Stopped L base held terms made s Fails = Unit
Stopped L base held terms made s Misfits = Unit
Stopped L base held terms made s Broken = Unit
Stopped L base held terms made s Full = Unit

-- x is the node that is made a forward
abbrev pub Hit : Stop → ℕ → Type 0
Hit (Demand k) x = ⊥
Hit (Becomes h k) x = x ≡ h.0
Hit (Parts h) x = ⊥
Hit Fails x = ⊥
Hit Misfits x = ⊥
Hit Broken x = ⊥
Hit Full x = ⊥

-- the step: what the model makes of the code's end, for the computation with these handles and any stack; s₀ is the memory before the turn
pub record Finished (L base : ℕ) (held : Held) (made top terms : ℕ) (stop : Stop) (s s' : List ℕ) (r : Turned) : Type 0 where
  pub is : (s₀ N : List ℕ) → took_of L base held s₀ s' r r.what ≡ finish (held_by (roots_of held.roots) N) (stop_of L base s (regs_with top terms made) stop)
  pub more : (made ≤ r.made) × (r.made ≤ L)
  pub nodes : (x : ℕ) → x < made → ¬ (Hit stop x) → node (graph_of L s') x ≡ node (graph_of L s) x
  pub rows : r.what ≢ Went → (x : ℕ) → x < made → node (graph_of L s') x ≡ node (graph_of L s) x
  pub marks : marks_of L s' ≡ marks_of L s
  pub links : links_of L s' ≡ links_of L s
  pub rest : take (base + 2440) (rest_of L s') ≡ take (base + 2440) (rest_of L s)
  pub long : length (words s') ≡ length (words s)
  pub clean : Clean L s'
