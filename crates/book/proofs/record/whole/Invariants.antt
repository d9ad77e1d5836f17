use Rattle.book.proofs.Scans.{AnyIs}
use Rattle.book.specs.Steps.{step}
use Rattle.book.specs.Record.{scan, any_fits}
use lib.ListN.{length}
use Prim.Native.Nat.{◌-◌}
use Rattle.book.proofs.record.whole.Given as goal

abbrev pub invariant-loop-at : goal.invariant-loop-at
invariant-loop-at l = AnyIs l.s l.at (step (scan l.s any_fits (length l.s) 0 0))

abbrev pub decreases-loop-at : goal.decreases-loop-at
decreases-loop-at l = length l.s - l.at
