use Rattle.store.specs.Whole.{SameLoan}
use Rattle.rounds.proofs.Zeros.{Clearing}
use Rattle.rounds.proofs.fresh.clear.Given as goal

abbrev pub invariant-loop-k : goal.invariant-loop-k
invariant-loop-k l = Clearing l.initial.store.limit l.k l.initial.store.bytes.now l.store.bytes.now × SameLoan l.initial.store l.store
