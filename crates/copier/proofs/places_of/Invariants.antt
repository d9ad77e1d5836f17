use mathlib.Core.List.{map}
use mathlib.Core.Path.{◌≡◌}
use lib.ListN.{length, take}
use Rattle.copier.specs.Poured.{placed}
use Rattle.copier.proofs.places_of.Given as goal

abbrev pub invariant-loop-j : goal.invariant-loop-j
invariant-loop-j l = (take l.j l.at ≡ map (placed l.store.limit l.made l.store.bytes.now) (take l.j l.hs.at)) × (length l.at ≡ 9)
