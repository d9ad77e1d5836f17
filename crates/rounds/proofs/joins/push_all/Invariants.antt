use Rattle.store.specs.Whole.{SameLoan}
use Rattle.rounds.specs.Around.{Joined}
use Rattle.rounds.proofs.joins.push_all.Given as goal

abbrev pub invariant-loop-i : goal.invariant-loop-i
invariant-loop-i l = Joined l.initial.store.limit l.places l.n l.head l.waiting l.i l.initial.store.bytes.now l.store.bytes.now × SameLoan l.initial.store l.store
