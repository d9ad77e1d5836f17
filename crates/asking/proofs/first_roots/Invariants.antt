use mathlib.Core.Path.{◌≡◌}
use Prim.Native.Nat.{◌+◌}
use mathlib.Core.List.{◌∷◌}
use lib.ListN.{length, take}
use Rattle.heap.specs.Build.{up_from}
use Rattle.asking.proofs.first_roots.Given as goal

abbrev pub invariant-loop-j : goal.invariant-loop-j
invariant-loop-j l = (take (l.j + 1) l.at ≡ l.value ∷ up_from 0 l.j) × (length l.at ≡ 9)
