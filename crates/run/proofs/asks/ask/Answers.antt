use Rattle.run.proofs.Lending.{lend-bounded, lend-runs, lent-run}
use Rattle.store.proofs.Became.{loan_then}
use borrow.Author.Rules.{rules}
use Rattle.run.proofs.Opening.{build-asks, ask-none-at, push-asks, run-asks, ask-run}
use Rattle.run.proofs.asks.ask.Goals as goal

pub build_question-requires : goal.build_question-requires
build_question-requires c = let a = build-asks _ _ _ _ _ c.requires.roomy _ c.clear.ensures.fresh c.requires.asks in let e = c.clear.ensures.loan.limit in record { space = rw e a.0; asked_of = rw e a.1 }

pub returns-in_default : goal.returns-in_default
returns-in_default c = ask-none-at _ _ _ _ _ c.requires.roomy _ c.clear.ensures.fresh _ _ (rw c.clear.ensures.loan.limit at c.build_question.ensures.asked) c.in_default.is _ (search rules)

pub push-requires : goal.push-requires
push-requires c =
    let a = push-asks _ _ _ _ _ c.requires.roomy _ c.clear.ensures.fresh _ _ (rw c.clear.ensures.loan.limit at c.build_question.ensures.asked) _ c.in-Some.is c.requires.asks in
    record { all_room = rw (loan_then c.clear.ensures.loan c.build_question.ensures.loan).limit a.0; head_lt_places = a.1.0; sized = a.1.1 }

pub run_from-requires : goal.run_from-requires
run_from-requires c =
    let a = run-asks _ _ _ _ _ c.requires.roomy _ c.clear.ensures.fresh _ _ (rw c.clear.ensures.loan.limit at c.build_question.ensures.asked) _ c.in-Some.is _ (rw (loan_then c.clear.ensures.loan c.build_question.ensures.loan).limit at c.push.ensures.pushed) _ (search rules) c.requires.asks c.requires.code_len_bound in
    record {
      bounded = (lend-bounded (search rules) a.0.0, a.0.1);
      code_len_bound = a.1.0;
      runs = lend-runs (search rules) a.1.1;
    }

pub returns : goal.returns
returns c = ask-run _ _ _ _ _ c.requires.roomy _ c.clear.ensures.fresh _ _ (rw c.clear.ensures.loan.limit at c.build_question.ensures.asked) _ c.in-Some.is _ (rw (loan_then c.clear.ensures.loan c.build_question.ensures.loan).limit at c.push.ensures.pushed) _ (search rules) _ _ (lent-run (search rules) c.run_from.ensures)
