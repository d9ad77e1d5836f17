use Rattle.std.proofs.Common.{arith}
use Rattle.input.proofs.Reading.{lost-none, lost-then}
use Rattle.cases.proofs.Reading.{passing-start, passing-room, passing-more, passing-done, read-few}
use Rattle.cases.proofs.stream.pass_rest.Goals as goal

pub loop-left-init : goal.loop-left-init
loop-left-init g c = record { passing = passing-start _ _; lost = lost-none _ }

pub returns-then-got-eq0-clause-lost : goal.returns-then-got-eq0-clause-lost
returns-then-got-eq0-clause-lost g c = lost-then c.loop-left.invariant.lost c.read_full.ensures.lost

pub returns-in_err-got-clause-lost : goal.returns-in_err-got-clause-lost
returns-in_err-got-clause-lost g c = lost-then c.loop-left.invariant.lost c.read_full.ensures.lost

pub pass_part-so_far-requires : goal.pass_part-so_far-requires
pass_part-so_far-requires g c =
    let few = read-few c.min-m.result c.loop-left.chunk c.read_full.new.buf c.in_ok-got.ensures.in_bounds c.read_full.auto.buf in
    passing-room c.loop-left.invariant.passing _ _ c.requires (omega arith) few.1

pub loop-left-preserved : goal.loop-left-preserved
loop-left-preserved g c =
    let few = read-few c.min-m.result c.loop-left.chunk c.read_full.new.buf c.in_ok-got.ensures.in_bounds c.read_full.auto.buf in
    record { passing = passing-more c.loop-left.invariant.passing _ _ (omega arith) few.1 c.pass_part-so_far.ensures; lost = lost-then c.loop-left.invariant.lost c.read_full.ensures.lost }

pub returns : goal.returns
returns g c = record { read = passing-done c.loop-left.invariant.passing c.loop-left-test.false; lost = c.loop-left.invariant.lost }
