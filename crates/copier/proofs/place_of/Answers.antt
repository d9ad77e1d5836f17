use Rattle.store.specs.Regions.{places_of}
use lib.ListN.{get_or}
use mathlib.Core.Path.{refl}
use native.Mathlib.Omega.{arith}
use Rattle.copier.proofs.Steps.{spot-word, spot-placed}
use Rattle.copier.proofs.place_of.Goals as goal

pub place-p-requires : goal.place-p-requires
place-p-requires c = (spot-word _ _ _ _ _ (get_or (places_of c.args.store.now.limit c.args.store.now.bytes.now) c.follow-n.result.0 0) c.requires.spots c.follow-n.ensures refl).0

pub overflow_sub-result : goal.overflow_sub-result
overflow_sub-result c = let r = spot-word _ _ _ _ _ _ c.requires.spots c.follow-n.ensures c.place-p.ensures in let a = r.1 in omega arith

pub overflow_add-result : goal.overflow_add-result
overflow_add-result c = let r = spot-word _ _ _ _ _ _ c.requires.spots c.follow-n.ensures c.place-p.ensures in let a = r.1 in let b = r.2 in omega arith

pub overflow_cast-result-2 : goal.overflow_cast-result-2
overflow_cast-result-2 c = let r = spot-word _ _ _ _ _ _ c.requires.spots c.follow-n.ensures c.place-p.ensures in let a = r.1 in let b = r.2 in omega arith

pub returns : goal.returns
returns c = spot-placed _ _ _ _ _ _ c.follow-n.ensures c.place-p.ensures
