use mathlib.Core.Path.{sym, ◌∙◌}
use Rattle.store.proofs.Laws.{seen-con, seen-call}
use Rattle.copier.proofs.Steps.{did-as, emit-con, emit-call, emit-other}
use Rattle.copier.proofs.emit.Goals as goal

pub put_copy-requires-clause-count_value : goal.put_copy-requires-clause-count_value
put_copy-requires-clause-count_value c = sym (seen-con _ _ _ (sym c.in-Con.is ∙ c.look.ensures)).1

pub put_copy-requires-in-Call-clause-count_value : goal.put_copy-requires-in-Call-clause-count_value
put_copy-requires-in-Call-clause-count_value c = sym (seen-call _ _ _ (sym c.in-Call.is ∙ c.look.ensures)).1

pub returns-in-Con : goal.returns-in-Con
returns-in-Con c = record { loan = c.put_copy.ensures.loan; did = did-as _ _ _ (emit-con _ _ _ _ _ _ c.look.ensures c.listed-n.ensures _ _ c.in-Con.is) c.put_copy.ensures.did }

pub returns-in-Call : goal.returns-in-Call
returns-in-Call c = record { loan = c.put_copy-in-Call.ensures.loan; did = did-as _ _ _ (emit-call _ _ _ _ _ _ c.look.ensures c.listed-n.ensures _ _ c.in-Call.is) c.put_copy-in-Call.ensures.did }

pub returns-in_default : goal.returns-in_default
returns-in_default c = record { loan = c.put_var.ensures.loan; did = did-as _ _ _ (emit-other _ _ _ _ _ _ c.look.ensures c.listed-n.ensures c.in_default.not-Con c.in_default.not-Call) c.put_var.ensures.did }
