use native.Mathlib.Omega.{arith}
use Rattle.pool.proofs.Rings.{place_inside, pushed}
use Rattle.pool.proofs.push.Goals as goal

pub put_row-requires-clause-rest_room : goal.put_row-requires-clause-rest_room
put_row-requires-clause-rest_room c = let a = c.args in
    let i = place_inside a.places a.head a.waiting c.requires.head_lt_places.0 (omega arith) in
    let e = c.place_of-i.ensures in
    (c.requires.all_room.0, omega arith, omega arith)

pub returns : goal.returns
returns c = record { loan = c.put_row.ensures.loan; pushed = pushed _ _ _ _ _ _ _ _ _ c.requires.head_lt_places.0 c.requires.head_lt_places.1 c.requires.sized.0 c.requires.sized.1 c.place_of-i.ensures c.put_row.ensures.put }
