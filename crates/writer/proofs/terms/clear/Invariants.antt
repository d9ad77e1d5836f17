use Rattle.store.specs.Whole.{SameLoan}
use Rattle.writer.proofs.Draining.{Clears}
use Rattle.writer.specs.Written.{seen_of}
use Rattle.writer.specs.Walk.{Kept}
use Rattle.store.specs.Regions.{list_of}
use lib.ListN.{drop}
use mathlib.Core.Path.{◌≡◌}
use Rattle.writer.proofs.terms.clear.Given as goal

abbrev pub invariant-loop-i : goal.invariant-loop-i
invariant-loop-i l = Kept l.initial.store.limit l.initial.store.bytes.now l.store.bytes.now × (list_of l.initial.store.limit l.store.bytes.now ≡ list_of l.initial.store.limit l.initial.store.bytes.now) × Clears l.initial.store.limit l.store.bytes.now (drop l.i (seen_of l.initial.store.limit l.initial.store.bytes.now l.seen)) × SameLoan l.initial.store l.store
