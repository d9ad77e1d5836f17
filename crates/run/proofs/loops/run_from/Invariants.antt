use Rattle.run.specs.Given.{limits_of}
use Rattle.run.proofs.Looping.{Going}
use Rattle.run.proofs.loops.run_from.Given as goal

abbrev pub invariant-loop : goal.invariant-loop
invariant-loop at_turn = Going (limits_of at_turn.l) at_turn.n at_turn.code at_turn.initial.at at_turn.initial.work at_turn.initial.results at_turn.counter at_turn.at at_turn.work at_turn.results
