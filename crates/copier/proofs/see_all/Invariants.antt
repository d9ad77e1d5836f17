use lib.ListN.{drop}
use Rattle.heap.specs.Graph.{sight}
use Rattle.store.specs.Whole.{graph, SameLoan}
use Rattle.copier.specs.Listed.{seen_in}
use Rattle.copier.proofs.Listing.{Owes}
use Rattle.copier.proofs.see_all.Given as goal

abbrev pub invariant-loop-h : goal.invariant-loop-h
invariant-loop-h t =
    let st = t.initial.store in
    record {
      loan : SameLoan st t.store;
      owes : Owes st.limit st.bytes.now t.store.bytes.now (sight (graph st) (seen_in st.limit t.count st.bytes.now) t.h-items) t.k (λ l. sight (graph st) l (drop t.h-index t.h-items));
    }
