use Rattle.compiler.proofs.Writing.{progress_step, progress-stop}
use Rattle.compiler.proofs.Loops.{back_step, back_none, back-room}
use Rattle.compiler.proofs.term.put_term.Goals as goal

pub put_record-out-requires : goal.put_record-out-requires
put_record-out-requires c = back-room c.args.rows.now c.args.s.now c.args.from c.loop-i.i c.loop-i.invariant c.loop-i-test.true c.requires.n_in_bounds

pub loop-i-preserved : goal.loop-i-preserved
loop-i-preserved c = progress_step c.loop-i.invariant _ c.put_record-out.ensures (back_step _ _ _ _ c.loop-i-test.true)

pub returns : goal.returns
returns c = progress-stop c.loop-i.invariant (back_none _ _ _ _ c.loop-i-test.false)
