use Rattle.machine.specs.View.{pre_terms}
use Rattle.store.specs.Whole.{SameLoan}
use Rattle.store.proofs.Laying.{Laying}
use lib.ListN.{take}
use Rattle.machine.proofs.makes.lay_cell.Given as goal

abbrev pub invariant-loop-j : goal.invariant-loop-j
invariant-loop-j l = SameLoan l.initial.store l.store
    × Laying l.initial.store.limit l.k.0 (take l.count (pre_terms l.initial.store.limit l.base l.initial.store.bytes.now l.terms)) l.j l.initial.store.bytes.now l.store.bytes.now
