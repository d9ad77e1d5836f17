use mathlib.Core.Path.{◌≡◌}
use Prim.Native.Nat.{◌+◌}
use lib.ListN.{take}
use Rattle.store.specs.Whole.{SameLoan}
use Rattle.pool.specs.Ring.{roots_at, RestOnly}
use Rattle.pool.proofs.put_roots.Given as goal

abbrev pub invariant-loop-j : goal.invariant-loop-j
invariant-loop-j l = record {
  loan : SameLoan l.initial.store l.store;
  put : roots_at l.initial.store.limit l.store.bytes.now l.j l.k ≡ take l.j l.r.at;
  only : RestOnly l.initial.store.limit l.k (l.k + l.r.n) l.initial.store.bytes.now l.store.bytes.now;
}
