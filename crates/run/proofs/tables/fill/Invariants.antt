use Rattle.store.specs.Whole.{SameLoan}
use Rattle.run.specs.Filled.{WordsFilled}
use Rattle.run.proofs.tables.fill.Given as goal

abbrev pub invariant-loop-k : goal.invariant-loop-k
invariant-loop-k l = record {
  loan : SameLoan l.initial.store l.store;
  filled : WordsFilled l.initial.store.limit l.from l.k l.v l.initial.store.bytes.now l.store.bytes.now;
}
