use Prim.Native.Nat.{◌-◌}
use lib.ListN.{length}
use Rattle.compiler.proofs.Terms.{Due}
use Rattle.compiler.specs.Here.{TermHere}
use Rattle.compiler.proofs.term.term_size.Given as goal

abbrev pub invariant-loop-due : goal.invariant-loop-due
invariant-loop-due l = (x : TermHere l.s l.lore l.from) → Due l.s l.lore l.from x l.at l.due l.n

abbrev pub decreases-loop-due : goal.decreases-loop-due
decreases-loop-due l = length l.s - l.at
