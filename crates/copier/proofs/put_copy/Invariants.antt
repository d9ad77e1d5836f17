use Rattle.store.specs.Whole.{SameLoan}
use Rattle.copier.proofs.Copying.{Copying}
use Rattle.copier.proofs.put_copy.Given as goal

abbrev pub invariant-loop-j : goal.invariant-loop-j
invariant-loop-j l =
    let st = l.initial.store in
    record {
      loan : SameLoan st l.store;
      copying : Copying st.limit l.made l.n.0 l.to.0 l.count l.j st.bytes.now l.store.bytes.now;
    }
