use Rattle.store.proofs.Became.{loan_same, loan_then}
use Rattle.rounds.proofs.Records.{over-is, result-none, clean-framed, terms-framed, terms-fit, terms-lent, result-put}
use mathlib.Core.Path.{sym, ◌∙◌}
use native.Mathlib.Omega.{arith}
use Rattle.writer.proofs.Turning.{kept-none}
use Rattle.rounds.proofs.results.put_result.Goals as goal

pub returns-in_err-left : goal.returns-in_err-left
returns-in_err-left c = let t = c.in_err-left.ensures in record { loan = loan_same; put = rw c.from_residual.ensures (result-none (omega arith) (kept-none _ _) c.requires.clean.0) }

pub returns-in_err-size : goal.returns-in_err-size
returns-in_err-size c = let l = c.in_ok-left.ensures in let F = c.size.ensures.framed in let z = over-is _ _ (sym c.in_err-size.was ∙ c.size.ensures.size) in
    record { loan = c.size.ensures.loan; put = rw c.from_residual-in_err-size.ensures (result-none (omega arith) F.kept (clean-framed F c.requires.clean.0)) }

pub write-n-requires-clause-roots_in_bounds : goal.write-n-requires-clause-roots_in_bounds
write-n-requires-clause-roots_in_bounds c = let l = c.in_ok-left.ensures in rw c.size.ensures.loan.limit (terms-lent _ _ _ _ _ _ _ _ l.1 l.0 (sym c.in_ok-size.was ∙ c.size.ensures.size) c.size.ensures.framed _ _ _ c.requires.at_le_room.2 c.put_head.ensures)

pub returns : goal.returns
returns c =
    let l = c.in_ok-left.ensures in
    let z = c.size.ensures in
    let F = z.framed in
    record { loan = loan_then z.loan c.write-n.ensures.loan; put = result-put (terms-fit _ _ _ _ _ _ _ _ l.1 l.0 (sym c.in_ok-size.was ∙ z.size) F) c.requires.at_le_room.2 c.put_head.ensures F (terms-framed _ F) (rw z.loan.limit at c.write-n.ensures.written) }
