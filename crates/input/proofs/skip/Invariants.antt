use Rattle.std.proofs.Common.{◌-◌, ◌≤◌}
use Rattle.input.specs.Reading.{Gone}
use Rattle.input.proofs.skip.Given as goal

abbrev pub invariant-loop-left : goal.invariant-loop-left
invariant-loop-left g l = record {
  fits : l.left ≤ l.n;
  gone : Gone (l.n - l.left) (g.R.Read.remaining l.initial.input) (g.R.Read.remaining l.input);
}

abbrev pub decreases-loop-left : goal.decreases-loop-left
decreases-loop-left g l = l.left
