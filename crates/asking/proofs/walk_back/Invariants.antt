use Rattle.store.specs.Whole.{SameLoan}
use Prim.Native.Nat.{◌+◌, ◌-◌, ◌*◌}
use Rattle.asking.specs.Question.{AskedOf}
use Rattle.asking.proofs.Records.{cons_in, funcs_in}
use Rattle.asking.proofs.Walks.{WalkedTo}
use Rattle.asking.proofs.walk_back.Given as goal

abbrev pub invariant-loop-k : goal.invariant-loop-k
invariant-loop-k l = SameLoan l.initial.store l.store × ((x : AskedOf l.initial.store.limit l.base l.initial.store.bytes.now l.q) → WalkedTo l.initial.store.limit l.base (cons_in x) (funcs_in x) x.right.vars l.q l.initial.store.bytes.now l.store.bytes.now (2 + 2 * l.k) (l.n - l.k) l.w.made l.w.depth)
