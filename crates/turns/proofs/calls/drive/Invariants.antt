use Prim.Native.Nat.{◌≤◌, ◌-◌}
use Rattle.store.specs.Whole.{SameLoan}
use Rattle.machine.specs.Contract.{Kept}
use Rattle.turns.specs.Calls.{Calls}
use Rattle.turns.proofs.Driving.{Driving}
use Rattle.turns.proofs.calls.drive.Given as goal

abbrev pub invariant-loop : goal.invariant-loop
invariant-loop l = ((C : Calls l.initial.store.limit l.base l.code l.top l.made l.initial.store.bytes.now) → Driving l.initial.store.limit l.base l.code l.n l.top l.made l.initial.store.bytes.now C l.store.bytes.now l.t l.k (l.n - l.counter))
    × Kept l.initial.store.limit l.base l.made l.initial.store.bytes.now l.store.bytes.now
    × (l.made ≤ l.k)
    × SameLoan l.initial.store l.store
