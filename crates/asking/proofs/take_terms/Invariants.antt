use mathlib.Core.Path.{◌≡◌}
use lib.ListN.{length, take}
use Rattle.asking.specs.Question.{pre_terms}
use Rattle.asking.proofs.take_terms.Given as goal

abbrev pub invariant-loop-j : goal.invariant-loop-j
invariant-loop-j l = (take l.j l.args ≡ take l.j (pre_terms l.store.limit l.base l.store.bytes.now l.depth)) × (length l.args ≡ 8) × (l.n ≡ l.a)
