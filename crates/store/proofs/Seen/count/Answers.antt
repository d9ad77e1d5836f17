use Rattle.store.proofs.Laws.{count-cell, count-other}
use Rattle.store.proofs.Seen.count.Goals as goal

pub returns-in_default : goal.returns-in_default
returns-in_default c = count-other _ c.in_default.not-Con c.in_default.not-Call

pub returns-in-Con : goal.returns-in-Con
returns-in-Con c = count-cell _ _ c.in-Con.is

pub returns-in-Con-2 : goal.returns-in-Con-2
returns-in-Con-2 c = count-cell _ _ c.in-Con.is
