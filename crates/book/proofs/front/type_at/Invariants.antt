use Prim.Native.Nat.{◌-◌, ◌≤◌}
use Rattle.book.specs.Syntax.{cons_of, first_con}
use Rattle.book.specs.Steps.{types_of}
use Rattle.book.proofs.Lookups.{TyIs}
use Rattle.book.proofs.front.type_at.Given as goal

abbrev pub invariant-loop : goal.invariant-loop
invariant-loop l = TyIs l.s l.at l.first (l.end - l.counter) (cons_of (types_of l.s) l.end) (first_con (types_of l.s) l.end) × (l.first ≤ l.at)
