use Rattle.store.specs.Whole.{SameLoan}
use Rattle.copier.specs.Listed.{seen_in}
use Rattle.copier.proofs.Steps.{Clears}
use Rattle.copier.proofs.clear.Given as goal

abbrev pub invariant-loop-i : goal.invariant-loop-i
invariant-loop-i l =
    let st = l.initial.store in
    record {
      loan : SameLoan st l.store;
      clears : Clears st.limit st.bytes.now l.store.bytes.now (seen_in st.limit l.count st.bytes.now) l.i;
    }
