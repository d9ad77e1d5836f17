use borrow.Author.Tests.{lt-ltb, le-ltb}
use Rattle.book.specs.Steps.{none_if_below}
use Rattle.book.proofs.term.alone.Goals as goal

pub returns-then-a-n : goal.returns-then-a-n
unfolding none_if_below
returns-then-a-n c = rw (lt-ltb c.args.a c.args.n c.if-a-n.true, none_if_below)

pub returns-else-a-n : goal.returns-else-a-n
unfolding none_if_below
returns-else-a-n c = rw (le-ltb c.args.a c.args.n c.if-a-n.false, none_if_below)
