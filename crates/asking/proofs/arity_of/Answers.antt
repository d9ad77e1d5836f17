use Rattle.asking.specs.Question.{arity_by}
use Rattle.store.specs.Rows.{symbol_of}
use Rattle.asking.proofs.arity_of.Goals as goal

pub returns-in-Makes : goal.returns-in-Makes
unfolding arity_by symbol_of
returns-in-Makes c = rw c.in-Makes.is c.rest.ensures

pub returns-in-Calls : goal.returns-in-Calls
unfolding arity_by symbol_of
returns-in-Calls c = rw c.in-Calls.is c.rest-in-Calls.ensures
