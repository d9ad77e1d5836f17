use native.Mathlib.Omega.{arith}
use borrow.Author.Rules.{rules}
use Rattle.run.proofs.Arming.{spread_none, spread-all}
use Rattle.run.proofs.Lending.{lend-spread}
use Rattle.run.proofs.steps.spread.Goals as goal

pub returns-then-l-st : goal.returns-then-l-st
returns-then-l-st c = spread_none _ _ _ _ _ _ (omega arith)

pub returns : goal.returns
returns c = lend-spread (search rules) (spread-all _ _ _ _ _ _ _ (omega arith) c.push_all.ensures.joined)
