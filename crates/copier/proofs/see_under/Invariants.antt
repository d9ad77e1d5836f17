use lib.ListN.{drop}
use Rattle.heap.specs.Graph.{node, args, sight}
use Rattle.store.specs.Whole.{graph, SameLoan}
use Rattle.copier.specs.Listed.{seen_in}
use Rattle.copier.proofs.Listing.{Owes}
use Rattle.copier.proofs.see_under.Given as goal

abbrev pub invariant-loop-j : goal.invariant-loop-j
invariant-loop-j t =
    let st = t.initial.store in
    let hs = args (node (graph st) t.n.0) in
    record {
      loan : SameLoan st t.store;
      owes : Owes st.limit st.bytes.now t.store.bytes.now (sight (graph st) (seen_in st.limit t.count st.bytes.now) hs) t.k (λ l. sight (graph st) l (drop t.j hs));
    }
