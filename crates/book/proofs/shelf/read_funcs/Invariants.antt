use Prim.Native.Nat.{◌-◌}
use lib.ListN.{length}
use Rattle.book.specs.Reading.{read_funcs}
use Rattle.book.specs.Steps.{step, types_of}
use Rattle.book.proofs.Wholes.{FuncsAre}
use Rattle.book.proofs.shelf.read_funcs.Given as goal

abbrev pub invariant-loop-at : goal.invariant-loop-at
invariant-loop-at l = FuncsAre l.s (types_of l.s) l.funcs l.at (step (read_funcs (length l.s) l.s (types_of l.s) l.funcs l.from))

abbrev pub decreases-loop-at : goal.decreases-loop-at
decreases-loop-at l = length l.s - l.at
