use Rattle.store.proofs.Writes.{head-makes, head-calls}
use borrow.Author.Rules.{rules}
use Rattle.store.proofs.head_word.Goals as goal

pub returns-in-Makes : goal.returns-in-Makes
returns-in-Makes c = head-makes _ _ _ c.in-Makes.is (search rules) c.from_le_bytes.ensures

pub returns-in-Calls : goal.returns-in-Calls
returns-in-Calls c = head-calls _ _ _ c.in-Calls.is (search rules) c.from_le_bytes-in-Calls.ensures
