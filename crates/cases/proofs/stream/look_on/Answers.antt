use Rattle.std.proofs.Common.{arith}
use Rattle.input.proofs.Reading.{lost-none}
use Rattle.cases.specs.Parts.{reach}
use Rattle.cases.proofs.Reading.{look-all, look-room, look-some}
use Rattle.cases.proofs.stream.look_on.Goals as goal

pub pass_part-pass-requires : goal.pass_part-pass-requires
unfolding reach
pass_part-pass-requires g c = omega (arith, c.requires.fits, c.requires.short)

pub returns-then-m-q : goal.returns-then-m-q
returns-then-m-q g c = record { read = look-all _ c.if-m-q.true c.pass_part-pass.ensures; lost = lost-none _ }

pub pass_rest-requires : goal.pass_rest-requires
pass_rest-requires g c = look-room _ _ c.requires c.pass_part-pass.ensures

pub returns-clause-read : goal.returns-clause-read
returns-clause-read g c = look-some _ _ c.requires c.if-m-q.false c.pass_part-pass.ensures (rw c.in-Some.is at c.in_ok-all.ensures.read) c.whole_part.ensures
