use Rattle.std.proofs.Common.{arith}
use lib.ListN.{length-take}
use Rattle.input.proofs.Reading.{gone-then, gone-lost, lost-then}
use Rattle.input.proofs.skip.Goals as goal

pub returns-in_err-got-clause-lost : goal.returns-in_err-got-clause-lost
returns-in_err-got-clause-lost g c = lost-then (gone-lost c.loop-left.invariant.gone) c.read_full.ensures.lost

pub loop-left-preserved : goal.loop-left-preserved
loop-left-preserved g c =
    let e = c.in_ok-got.ensures in
    let short = length-take c.min-m.result c.loop-left.chunk in
    record {
      fits = omega arith;
      gone = gone-then _ _ _ c.loop-left.invariant.gone c.read_full.new.buf e.in_bounds e.bytes (omega arith);
    }
