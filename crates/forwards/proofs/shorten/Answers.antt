use borrow.Author.Rules.{rules}
use Rattle.store.proofs.Laws.{length-graph, seen-fwd}
use Rattle.forwards.proofs.Cases.{none-led, empty-stack, past_all, no-forward}
use Rattle.forwards.proofs.shorten.Goals as goal

pub returns-then-top-eq0 : goal.returns-then-top-eq0
returns-then-top-eq0 c = none-led _ _ (empty-stack _ _ c.if-top-eq0.true)

pub returns-then-a-store : goal.returns-then-a-store
returns-then-a-store c = none-led _ _ (past_all _ _ (rw length-graph c.if-a-store.true))

pub returns-in_default : goal.returns-in_default
returns-in_default c = none-led _ _ (no-forward _ _ _ c.look.ensures c.in_default.not-Fwd)

pub lead_on-requires : goal.lead_on-requires
lead_on-requires c = record { a_lt_limit = (search rules, seen-fwd _ _ c.in-Fwd.ensures) }
