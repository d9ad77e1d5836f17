use borrow.Author.Rules.{rules}
use native.Mathlib.Omega.{arith}
use mathlib.Core.List.Memᴰ
use mathlib.Core.Path.{◌≡◌}
use lib.ListN.{length}
use Rattle.copier.proofs.Steps.{front-mem}
use Rattle.copier.proofs.places_of.Goals as goal

pub place_of-requires : goal.place_of-requires
place_of-requires c = let nine : length c.args.hs.at ≡ 9 = search rules in record { spots = λ h m. rw (Memᴰ.eq_of_singleton m) (c.requires.spots _ (front-mem _ _ _ c.loop-j-test.true (omega arith))) }
