use Prim.Native.Nat.{◌-◌}
use lib.ListN.{length}
use Rattle.book.specs.Record.{scan, book_fits}
use Rattle.book.specs.Steps.{step}
use Rattle.book.proofs.Scans.{ScanIs, FuncsIn}
use Rattle.book.proofs.record.first_pass.Given as goal

abbrev pub invariant-loop-at : goal.invariant-loop-at
invariant-loop-at l = ScanIs l.s book_fits l.funcs l.at (step (scan l.s book_fits (length l.s) 0 0)) × FuncsIn l.s l.table l.funcs l.at

abbrev pub decreases-loop-at : goal.decreases-loop-at
decreases-loop-at l = length l.s - l.at
