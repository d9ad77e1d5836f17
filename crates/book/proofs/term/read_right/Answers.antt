use Rattle.std.proofs.lemmas.Result.{err_from_is_err_and}
use mathlib.Core.Path.{refl, ap}
use Rattle.std.proofs.Common.{rules}
use Rattle.book.specs.declared.Kind.TheVariants as kind
use Rattle.book.specs.Kinds.{by_number}
use Rattle.book.proofs.Numbers.{same-number, other-number}
use Rattle.book.proofs.Words.{right-bad, right-odd, right-over, right-term}
use Rattle.book.proofs.term.read_right.Goals as goal

pub returns-in_err-r : goal.returns-in_err-r
returns-in_err-r c = let p = err_from_is_err_and c.from_residual.result c.from_residual.ensures.1 in rw (p.1, p.2) (right-bad _ _ _ _ _ c.rec_at.ensures (ap by_number c.in_err-r.was))

pub returns-then-ne : goal.returns-then-ne
returns-then-ne c = rw c.new.ensures (right-odd _ _ _ _ _ c.rec_at.ensures (ap by_number c.in_ok-r.was) (other-number {k = kind.Right} (search rules)))

pub returns-then-r-gt8 : goal.returns-then-r-gt8
returns-then-r-gt8 c = rw c.new-then-r-gt8.ensures (right-over _ _ _ _ _ c.rec_at.ensures (ap by_number c.in_ok-r.was) (same-number kind.Right (search rules)) c.if-r-gt8.true)

pub returns : goal.returns
returns c = right-term _ _ _ _ _ c.rec_at.ensures (ap by_number c.in_ok-r.was) (same-number kind.Right (search rules)) c.if-r-gt8.false refl c.read_term.ensures
