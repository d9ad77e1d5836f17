use Rattle.store.proofs.Became.{loan_then}
use Rattle.turns.proofs.Turning.{turn-stops, turn-taken, silent-taken}
use Rattle.turns.proofs.Finishing.{capped_min}
use Rattle.turns.proofs.take_turn.Goals as goal

pub returns-in_default : goal.returns-in_default
returns-in_default c = record { loan = c.begin.ensures.loan; taken = silent-taken _ _ _ _ _ _ c.requires.front c.requires.code_len_bound.1 c.in_default.ensures.begun c.requires.searched.1 }

pub finish-requires-clause-stopped : goal.finish-requires-clause-stopped
finish-requires-clause-stopped c =
    let b = c.begin.ensures.loan in
    rw (loan_then b c.drive-e.ensures.loan).limit (turn-stops _ _ _ _ _ _ c.requires.front _ _ _ c.in-Some.ensures.begun _ (rw b.limit at c.drive-e.ensures.driven) _ (capped_min _ _ _ c.min-now_made.ensures) c.requires.space c.requires.code_len_bound.1)

pub returns : goal.returns
returns c =
    let b = c.begin.ensures.loan in
    let l = loan_then b c.drive-e.ensures.loan in
    record {
      loan = loan_then l c.finish.ensures.loan;
      taken = turn-taken _ _ _ _ _ _ c.requires.front c.requires.code_len_bound.1 c.in-Some.ensures.begun (rw b.limit at c.drive-e.ensures.driven) (capped_min _ _ _ c.min-now_made.ensures) c.requires.space c.requires.sized (rw l.limit at c.finish.ensures.finished);
    }
