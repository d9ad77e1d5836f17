use Rattle.std.proofs.Common.{arith, refl, ap, ◌∙◌}
use Rattle.std.proofs.lemmas.List.{take_all}
use Rattle.cases.specs.Parts.{passed}
use Rattle.cases.proofs.Passes.{pass-more, reach-so-far}
use Rattle.cases.proofs.passing.pass_part.Goals as goal

pub loop-x-init : goal.loop-x-init
unfolding passed
loop-x-init c = refl

pub pass_byte-now-requires : goal.pass_byte-now-requires
pass_byte-now-requires c = let g = reach-so-far c.args.p c.args.part.now c.loop-x.x-index c.loop-x-test.true c.loop-x.invariant in omega arith

pub loop-x-preserved : goal.loop-x-preserved
loop-x-preserved c = pass-more c.args.p c.args.part.now c.loop-x.x-index c.loop-x-test.true c.loop-x.invariant c.pass_byte-now.ensures

pub returns : goal.returns
returns c = c.loop-x.invariant ∙ ap (passed c.args.p) (take_all c.loop-x.x-index c.args.part.now c.loop-x-test.false)
