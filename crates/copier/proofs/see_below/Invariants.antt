use Prim.Native.Nat.{◌-◌}
use Rattle.heap.specs.Graph.{sweep}
use Rattle.store.specs.Whole.{graph, SameLoan}
use Rattle.copier.specs.Listed.{seen_in}
use Rattle.copier.proofs.Listing.{Owes}
use Rattle.copier.proofs.see_below.Given as goal

abbrev pub invariant-loop-i : goal.invariant-loop-i
invariant-loop-i t =
    let st = t.initial.store in
    record {
      loan : SameLoan st t.store;
      owes : Owes st.limit st.bytes.now t.store.bytes.now (sweep st.limit (graph st) 0 (seen_in st.limit t.count st.bytes.now)) t.k (λ l. sweep (st.limit - t.i) (graph st) t.i l);
    }

abbrev pub decreases-loop-i : goal.decreases-loop-i
decreases-loop-i l = l.initial.store.limit - l.i
