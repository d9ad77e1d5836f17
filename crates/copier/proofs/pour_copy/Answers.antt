use Rattle.store.proofs.Laws.{length-graph}
use Rattle.store.proofs.Became.{loan_then}
use Rattle.copier.proofs.Walk.{walk-solid}
use Rattle.copier.proofs.Pours.{pours-closed, pours-spots}
use Rattle.copier.proofs.Done.{done_none, done-some, some-roots}
use borrow.Author.Rules.{rules}
use native.Mathlib.Omega.{arith}
use Rattle.copier.proofs.pour_copy.Goals as goal

pub list_all-count-requires-clause-solid : goal.list_all-count-requires-clause-solid
list_all-count-requires-clause-solid c = walk-solid c.requires.walkable _ (length-graph _ _)

pub returns-then-store-made : goal.returns-then-store-made
returns-then-store-made c = let l = c.list_all-count.ensures in record { loan = loan_then l.loan c.clear.ensures.loan; poured = done_none _ _ _ _ c.args.store.now.room.1 c.requires.made_le_limit c.requires.le_n (search rules) c.requires.walkable l.lists (rw l.loan.limit at c.if-store-made.true) (rw l.loan.limit at c.clear.ensures.placed) }

pub places_of-held-requires-clause-spots : goal.places_of-held-requires-clause-spots
places_of-held-requires-clause-spots c = let l = c.list_all-count.ensures in let f = rw l.loan.limit at c.if-store-made.false in rw l.loan.limit (pours-spots _ _ _ c.args.store.now.room.1 _ (some-roots _ c.requires.le_n (search rules)) c.requires.walkable l.lists (omega arith))

pub emit_all-requires-clause-closed : goal.emit_all-requires-clause-closed
emit_all-requires-clause-closed c = let l = c.list_all-count.ensures in rw l.loan.limit (pours-closed _ _ _ c.args.store.now.room.1 _ (some-roots _ c.requires.le_n (search rules)) c.requires.walkable l.lists)

pub returns : goal.returns
returns c =
    let l = c.list_all-count.ensures in
    let m = loan_then l.loan c.emit_all.ensures.loan in
    record {
      loan = loan_then m c.clear-2.ensures.loan;
      poured = done-some _ _ _ _ c.args.store.now.room.1 c.requires.made_le_limit c.requires.le_n (search rules) c.requires.walkable l.lists _ (rw l.loan.limit at c.if-store-made.false) (rw l.loan.limit at c.places_of-held.ensures.0) c.places_of-held.ensures.1 (rw l.loan.limit at c.emit_all.ensures.emitted) (rw m.limit at c.clear-2.ensures.placed);
    }
