use Rattle.std.proofs.Common.{◌≡◌, take}
use Rattle.cases.specs.Parts.{passed}
use Rattle.cases.proofs.passing.pass_part.Given as goal

abbrev pub invariant-loop-x : goal.invariant-loop-x
invariant-loop-x l = l.now ≡ passed l.initial.now (take l.x-index l.part)
