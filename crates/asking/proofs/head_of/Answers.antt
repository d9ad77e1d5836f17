use mathlib.Core.Path.{sym, ◌∙◌}
use Rattle.asking.proofs.Terms.{symbol-con, symbol-fun, makes-con, calls-fun}
use Rattle.asking.proofs.head_of.Goals as goal

pub returns-then-kind : goal.returns-then-kind
returns-then-kind c = makes-con _ ∙ sym (symbol-con _ _ c.if-kind.true)

pub returns-else-kind : goal.returns-else-kind
returns-else-kind c = calls-fun _ ∙ sym (symbol-fun _ _ c.if-kind.false)
