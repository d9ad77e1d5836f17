use Rattle.store.proofs.Became.{loan_same}
use Rattle.writer.proofs.Telling.{told-made, told_free, told-nothing}
use Rattle.writer.proofs.terms.tell.Goals as goal

pub returns-in-Made : goal.returns-in-Made
returns-in-Made c = record { loan = loan_same; told = told-made _ _ _ _ _ _ _ _ c.in-Made.is c.requires.table c.put_made.ensures }

pub returns-in-Free : goal.returns-in-Free
returns-in-Free c = record { loan = c.number-v.ensures.loan; told = told_free _ _ _ _ _ _ _ _ _ _ _ c.in-Free.is c.number-v.ensures.named c.put_free.ensures }

pub returns-in-Nothing : goal.returns-in-Nothing
returns-in-Nothing c = record { loan = loan_same; told = told-nothing _ _ _ _ _ _ c.in-Nothing.is c.requires.table }
