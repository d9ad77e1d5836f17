use Prim.Native.Nat.{ℕ, ◌-◌, ◌*◌, ◌≤◌}
use mathlib.Core.Path.{◌≡◌}
use lib.ListN.{length}
use Rattle.mem.specs.Words.{words}
use Rattle.store.specs.Whole.{SameLoan}
use Rattle.seek.specs.Search.{Walks}
use Rattle.seek.proofs.Steps.{Going}
use Rattle.seek.proofs.walk.Given as goal

abbrev pub invariant-loop : goal.invariant-loop
invariant-loop l = record {
  loan : SameLoan l.initial.store l.store;
  going : (r : ℕ) (W : Walks l.initial.store.limit r l.base.0 l.initial.t.0 l.initial.store.bytes.now) → 16 * l.initial.store.limit ≤ length (words l.initial.store.bytes.now) → Going W l.store.bytes.now l.t.0 (l.end - l.counter);
  long : length (words l.store.bytes.now) ≡ length (words l.initial.store.bytes.now);
}
