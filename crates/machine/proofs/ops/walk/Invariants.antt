use Rattle.store.specs.Regions.{graph_of}
use Rattle.engine.specs.Machine.{at}
use lib.ListN.{drop}
use mathlib.Core.Path.{◌≡◌}
use Rattle.machine.proofs.ops.walk.Given as goal

abbrev pub invariant-loop-step : goal.invariant-loop-step
invariant-loop-step l = at (graph_of l.store.limit l.store.bytes.now) l.h.0 (drop l.step-index l.steps) ≡ at (graph_of l.store.limit l.store.bytes.now) l.initial.h.0 l.steps
