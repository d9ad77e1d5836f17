use Rattle.store.specs.Whole.{SameLoan}
use Rattle.copier.specs.Listed.{seen_in}
use Rattle.copier.proofs.Emits.{Emits}
use Rattle.copier.proofs.emit_all.Given as goal

abbrev pub invariant-loop-i : goal.invariant-loop-i
invariant-loop-i l =
    let st = l.initial.store in
    record {
      loan : SameLoan st l.store;
      emits : Emits st.limit l.made st.bytes.now l.store.bytes.now (seen_in st.limit l.count st.bytes.now) l.i;
    }
