-- Where the front is about to take its turn, `ready` says what holds.
use native.Mathlib.Omega.{arith}
use Rattle.run.proofs.Lending.{lend-all, lend-room, lend-reads, lend-clean, lend-step, lent-went, lent-spread, lent-valued}
use borrow.Author.Rules.{rules}
use Rattle.run.specs.Given.{limits_of}
use Rattle.run.proofs.Stepping.{at-empty, at-spent, at-went, at_split, at_value, at-ended-failed, at-ended-misfit, at-full}
use Rattle.run.proofs.Demands.{turn-asks, taken-asks, went-asks, split-asks, value-asks, end-asks}
use Rattle.run.proofs.Shortening.{Readied, readied}
use Rattle.run.proofs.steps.step.Goals as goal
use Rattle.run.proofs.steps.step.Goals.{After-shorten}

ready : (c : After-shorten) → Readied (limits_of c.args.l) c.args.n c.args.code.now c.args.st c.args.work.now c.args.results.now c.front-held.result c.shorten.new.store.bytes.now
ready c = readied _ _ _ _ _ _ _ _ c.requires.bounded (omega (arith, c.if-st-eq0.false)) (rw (c.view.ensures.limit, c.view.ensures.bytes) at c.front-held.ensures) c.shorten.ensures.did (omega (arith, c.if-l-st.false)) c.requires.runs

pub returns-then-st-eq0 : goal.returns-then-st-eq0
returns-then-st-eq0 c = at-empty _ _ _ _ _ _ c.requires.bounded c.requires.runs c.if-st-eq0.true

pub returns-then-l-st : goal.returns-then-l-st
returns-then-l-st c = at-spent _ _ _ _ _ _ c.requires.bounded c.requires.runs (omega (arith, c.if-st-eq0.false)) c.if-l-st.true

pub take_turn-t-requires : goal.take_turn-t-requires
take_turn-t-requires c =
    let r = ready (goal.at.take_turn-t-requires c).After-shorten in
    let a = turn-asks _ _ _ _ _ _ r.bound r.some _ r.got r.runs c.requires.code_len_bound in
    let e = c.shorten.ensures.loan.limit in
    record { space = rw e a.0; code_len_bound = rw e a.1.0; sized = a.1.1.0; front = rw e a.1.1.1.0; searched = rw e a.1.1.1.1 }

pub taken-then-requires : goal.taken-then-requires
taken-then-requires c =
    let r = ready (goal.at.taken-then-requires c).After-shorten in
    taken-asks _ _ _ _ _ _ r.bound r.some _ r.got r.runs r.under

pub go_on-requires : goal.go_on-requires
go_on-requires c =
    let r = ready (goal.at.go_on-requires c).After-shorten in
    let a = went-asks _ _ _ _ _ _ r.bound r.some _ r.got r.runs r.under _ _ (rw c.shorten.ensures.loan.limit at c.take_turn-t.ensures.taken) _ c.taken-then.ensures 0 in
    record { all_room = lend-all (search rules) a.0; head_lt_pool = a.1.0; sized = a.1.1 }

pub spread-requires : goal.spread-requires
spread-requires c =
    let r = ready (goal.at.spread-requires c).After-shorten in
    let a = split-asks _ _ _ _ _ _ r.bound r.some _ r.got r.runs r.under _ _ (rw c.shorten.ensures.loan.limit at c.take_turn-t.ensures.taken) _ c.taken-then.ensures _ c.in-Split.is in
    record { all_room = lend-all (search rules) a.0; head_lt_pool = a.1.0; le_n = a.1.1 }

pub write_value-requires : goal.write_value-requires
write_value-requires c =
    let r = ready (goal.at.write_value-requires c).After-shorten in
    let a = value-asks _ _ _ _ _ _ r.bound r.some _ r.got r.runs r.under _ _ (rw c.shorten.ensures.loan.limit at c.take_turn-t.ensures.taken) _ c.taken-then.ensures (search rules) c.in-Wrote.is in
    record {
      room = lend-room (search rules) a.0;
      reads = lend-reads (search rules) _ a.1.0;
      clean = (lend-clean (search rules) _ a.1.1.0.0, a.1.1.0.1, a.1.1.0.2, a.1.1.0.3);
      written_le_results = a.1.1.1;
    }

pub overflow_add-result : goal.overflow_add-result
overflow_add-result c =
    let r = ready (goal.at.overflow_add-result c).After-shorten in
    let e = end-asks _ _ _ _ _ _ r.bound r.some _ r.got r.runs r.under _ _ (rw c.shorten.ensures.loan.limit at c.take_turn-t.ensures.taken) _ c.taken-then.ensures in
    omega arith

pub overflow_add-result-in-Misfit : goal.overflow_add-result-in-Misfit
overflow_add-result-in-Misfit c =
    let r = ready (goal.at.overflow_add-result-in-Misfit c).After-shorten in
    let e = end-asks _ _ _ _ _ _ r.bound r.some _ r.got r.runs r.under _ _ (rw c.shorten.ensures.loan.limit at c.take_turn-t.ensures.taken) _ c.taken-then.ensures in
    omega arith

pub returns-in-Went : goal.returns-in-Went
returns-in-Went c =
    let r = ready (goal.at.returns-in-Went c).After-shorten in
    r.back _ _ _ (at-went _ _ _ _ _ _ r.bound r.some _ r.got r.under _ _ (rw c.shorten.ensures.loan.limit at c.take_turn-t.ensures.taken) r.runs _ c.taken-then.ensures c.in-Went.is _ _ (lent-went (search rules) c.go_on.ensures))

pub returns-in-Split : goal.returns-in-Split
returns-in-Split c =
    let r = ready (goal.at.returns-in-Split c).After-shorten in
    r.back _ _ _ (at_split _ _ _ _ _ _ r.bound r.some _ r.got r.under _ _ (rw c.shorten.ensures.loan.limit at c.take_turn-t.ensures.taken) r.runs _ c.taken-then.ensures _ c.in-Split.is _ _ (lent-spread (search rules) c.spread.ensures))

pub returns-in-Wrote : goal.returns-in-Wrote
returns-in-Wrote c =
    let r = ready (goal.at.returns-in-Wrote c).After-shorten in
    r.back _ _ _ (at_value _ _ _ _ _ _ r.bound r.some _ r.got r.under _ _ (rw c.shorten.ensures.loan.limit at c.take_turn-t.ensures.taken) r.runs _ c.taken-then.ensures (search rules) c.in-Wrote.is _ _ _ (lent-valued (search rules) _ _ c.write_value.ensures))

pub returns-in-Failed : goal.returns-in-Failed
returns-in-Failed c =
    let r = ready (goal.at.returns-in-Failed c).After-shorten in
    lend-step (search rules) (r.back _ _ _ (at-ended-failed _ _ _ _ _ _ r.bound r.some _ r.got r.under _ _ (rw c.shorten.ensures.loan.limit at c.take_turn-t.ensures.taken) r.runs _ c.taken-then.ensures c.in-Failed.is))

pub returns-in-Misfit : goal.returns-in-Misfit
returns-in-Misfit c =
    let r = ready (goal.at.returns-in-Misfit c).After-shorten in
    lend-step (search rules) (r.back _ _ _ (at-ended-misfit _ _ _ _ _ _ r.bound r.some _ r.got r.under _ _ (rw c.shorten.ensures.loan.limit at c.take_turn-t.ensures.taken) r.runs _ c.taken-then.ensures c.in-Misfit.is))

pub returns-in-NoneLeft : goal.returns-in-NoneLeft
returns-in-NoneLeft c =
    let r = ready (goal.at.returns-in-NoneLeft c).After-shorten in
    lend-step (search rules) (r.back _ _ _ (at-full _ _ _ _ _ _ r.bound r.some _ r.got r.under _ _ (rw c.shorten.ensures.loan.limit at c.take_turn-t.ensures.taken) r.runs c.in-NoneLeft.is))
