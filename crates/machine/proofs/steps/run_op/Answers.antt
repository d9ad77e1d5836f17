use Rattle.store.proofs.Became.{loan_same}
use Rattle.machine.proofs.Runs.{go-is, fail-is, wrong-is}
use Rattle.machine.proofs.Execs.{as-op}
use mathlib.Core.Logic.{inl, inr}
use Rattle.machine.specs.View.{op_of}
use Rattle.machine.proofs.steps.run_op.Goals as goal

pub returns-in-Load : goal.returns-in-Load
unfolding op_of
returns-in-Load c = record { loan = loan_same; went = as-op c.args.at c.in-Load.is (rw (c.view.ensures.limit, c.view.ensures.bytes) at c.load.ensures) }

pub returns-in-Branch : goal.returns-in-Branch
unfolding op_of
returns-in-Branch c = record { loan = loan_same; went = as-op c.args.at c.in-Branch.is (rw (c.view-in-Branch.ensures.limit, c.view-in-Branch.ensures.bytes) at c.branch-view.ensures) }

pub returns-in-Go : goal.returns-in-Go
unfolding op_of
returns-in-Go c = record { loan = loan_same; went = rw c.ends.ensures (elim c.in-Go.is [ inl e ↦ as-op c.args.at e (go-is _ _ _ _ _ c.requires.fine _) | inr e ↦ as-op c.args.at e (wrong-is _ _ _ _ _ c.requires.fine) ]) }

pub returns-in-Push : goal.returns-in-Push
unfolding op_of
returns-in-Push c = record { loan = c.push.ensures.loan; went = as-op c.args.at c.in-Push.is c.push.ensures.went }

pub returns-in-Pop : goal.returns-in-Pop
unfolding op_of
returns-in-Pop c = record { loan = loan_same; went = as-op c.args.at c.in-Pop.is (rw (c.view-in-Pop.ensures.limit, c.view-in-Pop.ensures.bytes) at c.pop.ensures) }

pub returns-in-MakeAnon : goal.returns-in-MakeAnon
unfolding op_of
returns-in-MakeAnon c = record { loan = c.make_anon.ensures.loan; went = as-op c.args.at c.in-MakeAnon.is c.make_anon.ensures.went }

pub returns-in-StoreVar : goal.returns-in-StoreVar
unfolding op_of
returns-in-StoreVar c = record { loan = c.store_var.ensures.loan; went = as-op c.args.at c.in-StoreVar.is c.store_var.ensures.went }

pub returns-in-MakeVar : goal.returns-in-MakeVar
unfolding op_of
returns-in-MakeVar c = record { loan = c.make_var.ensures.loan; went = as-op c.args.at c.in-MakeVar.is c.make_var.ensures.went }

pub returns-in-MakeTerm : goal.returns-in-MakeTerm
unfolding op_of
returns-in-MakeTerm c = record { loan = c.make_term.ensures.loan; went = as-op c.args.at c.in-MakeTerm.is c.make_term.ensures.went }

pub returns-in-Replace : goal.returns-in-Replace
unfolding op_of
returns-in-Replace c = record { loan = loan_same; went = as-op c.args.at c.in-Replace.is (rw (c.view-in-Replace.ensures.limit, c.view-in-Replace.ensures.bytes) at c.replace.ensures) }

pub returns-in-Narrow : goal.returns-in-Narrow
unfolding op_of
returns-in-Narrow c = record { loan = loan_same; went = as-op c.args.at c.in-Narrow.is (rw (c.view-in-Narrow.ensures.limit, c.view-in-Narrow.ensures.bytes) at c.narrow.ensures) }

pub returns-in-Choice : goal.returns-in-Choice
unfolding op_of
returns-in-Choice c = record { loan = loan_same; went = as-op c.args.at c.in-Choice.is (rw (c.view-in-Choice.ensures.limit, c.view-in-Choice.ensures.bytes) at c.choice.ensures) }

pub returns-in-Fail : goal.returns-in-Fail
unfolding op_of
returns-in-Fail c = record { loan = loan_same; went = rw c.ends-in-Fail.ensures (as-op c.args.at c.in-Fail.is (fail-is _ _ _ _ _ c.requires.fine)) }
