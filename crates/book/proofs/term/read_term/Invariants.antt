use Prim.Native.Nat.{◌≤◌, ◌+◌, ◌*◌}
use Rattle.book.specs.Steps.{step, names}
use Rattle.book.specs.Reading.{read_terms}
use Rattle.book.proofs.Words.{TermsIs}
use Rattle.book.proofs.term.read_term.Given as goal

abbrev pub invariant-loop-due : goal.invariant-loop-due
invariant-loop-due l = TermsIs l.s (names l.cons l.funcs l.pattern l.vars) l.room l.due l.at (step (read_terms l.s (names l.cons l.funcs l.pattern l.vars) 255 1 l.from)) × (l.room ≤ 255) × (l.due + 255 * l.room ≤ 65026)

abbrev pub decreases-loop-due : goal.decreases-loop-due
decreases-loop-due l = l.room
