use Rattle.std.proofs.Common.{rules}
use Rattle.std.proofs.lemmas.Option.{gets}
use Rattle.book.proofs.term.con_arity.Goals as goal

pub returns : goal.returns
returns c = search (rules, gets)
