use Rattle.store.specs.Whole.{SameLoan}
use Rattle.alternatives.proofs.Rounds.{Rounds}
use Rattle.alternatives.proofs.pour_all.Given as goal

abbrev pub invariant-loop-i : goal.invariant-loop-i
invariant-loop-i l =
    let st = l.initial.store in
    record {
      loan : SameLoan st l.store;
      rounds : Rounds st.limit l.base l.made l.roots l.h.0 l.count st.bytes.now l.store.bytes.now l.now_made l.i;
    }
