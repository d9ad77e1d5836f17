use Rattle.run.proofs.whole.run.Goals as goal

pub returns-in-Ok : goal.returns-in-Ok
returns-in-Ok c = rw c.give.ensures (rw c.in-Ok.is at c.run_checked.ensures)

pub returns-in-Err : goal.returns-in-Err
returns-in-Err c = rw c.refuse.ensures (rw c.in-Err.is at c.run_checked.ensures)
