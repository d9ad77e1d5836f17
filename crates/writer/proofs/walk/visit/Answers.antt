use Rattle.store.proofs.Became.{loan_same}
use Rattle.writer.proofs.Turning.{visit_seen, visit-is, seen_other, still, pushed}
use mathlib.Core.Path.{refl}
use Rattle.writer.proofs.walk.visit.Goals as goal

pub returns-in-Var : goal.returns-in-Var
unfolding visit_seen
returns-in-Var c = record { loan = loan_same; turned = visit-is _ _ _ _ _ _ _ _ _ c.follow-n.ensures c.look.ensures c.in-Var.is (still _ _ _ _) }

pub returns-in-Con : goal.returns-in-Con
unfolding visit_seen
returns-in-Con c = record { loan = c.put_frame.ensures.loan; turned = visit-is _ _ _ _ _ _ _ _ _ c.follow-n.ensures c.look.ensures c.in-Con.is (pushed _ _ _ _ _ _ c.requires.d_lt_limit.0 c.args.store.now.room.1 c.put_frame.ensures.did) }

pub returns-in_default : goal.returns-in_default
returns-in_default c = record { loan = loan_same; turned = visit-is _ _ _ _ _ _ _ _ _ c.follow-n.ensures c.look.ensures refl (rw (seen_other _ _ _ c.in_default.not-Var c.in_default.not-Con) (still _ _ _ _)) }
