use borrow.Author.Rules.{rules}
use Rattle.run.proofs.Lending.{lend-valued}
use Rattle.run.proofs.Arming.{value_none, value-all}
use Rattle.run.proofs.steps.write_value.Goals as goal

pub put_result-requires : goal.put_result-requires
put_result-requires c = record { reads = c.requires.reads; clean = (c.requires.clean.0, c.requires.clean.1, c.requires.clean.2); at_le_room = c.requires.written_le_results }

pub returns-in_default : goal.returns-in_default
returns-in_default c = lend-valued (search rules) (value_none _ _ _ _ _ _ _ _ c.put_result.ensures.put c.in_default.is)

pub returns : goal.returns
returns c = lend-valued (search rules) (value-all _ _ _ _ _ _ _ _ c.put_result.ensures.put _ c.in-Some.is)
