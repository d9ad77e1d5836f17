use native.Mathlib.Omega.{arith}
use borrow.Author.Rules.{rules}
use mathlib.Core.Path.{◌≡◌}
use lib.ListN.{length}
use Rattle.store.proofs.Became.{loan_same, loan_then}
use Rattle.alternatives.proofs.Rounds.{rounds-start, rounds-opens, rounds-next, rounds-full, rounds-done}
use Rattle.alternatives.proofs.pour_all.Goals as goal

pub loop-i-init : goal.loop-i-init
loop-i-init c = record { loan = loan_same; rounds = rounds-start _ _ _ _ _ _ _ c.requires.divides c.requires.made_le_limit.0 c.requires.clean }

pub pour_one-requires-clause-opens : goal.pour_one-requires-clause-opens
pour_one-requires-clause-opens c =
    let nine : length c.args.roots.at ≡ 9 = search rules in
    let i = c.loop-i.invariant in
    rw i.loan.limit (rounds-opens _ _ _ _ _ _ _ c.requires.space c.requires.made_le_limit.1 c.requires.sized nine i.rounds _ c.loop-i-test.true (rw i.loan.limit at c.rest-k.ensures))

pub loop-i-preserved : goal.loop-i-preserved
loop-i-preserved c =
    let nine : length c.args.roots.at ≡ 9 = search rules in
    let i = c.loop-i.invariant in
    record {
      loan = loan_then i.loan c.in_ok-now_made.ensures.loan;
      rounds = rounds-next _ _ _ _ _ _ _ c.requires.space c.requires.made_le_limit.1 c.requires.sized nine i.rounds _ _ c.loop-i-test.true (rw i.loan.limit at c.rest-k.ensures) _ (rw i.loan.limit at c.in_ok-now_made.ensures.poured);
    }

pub returns-in_err-now_made : goal.returns-in_err-now_made
returns-in_err-now_made c =
    let nine : length c.args.roots.at ≡ 9 = search rules in
    let i = c.loop-i.invariant in
    record {
      loan = loan_then i.loan c.in_err-now_made.ensures.loan;
      poured = rw c.from_residual.ensures (rounds-full _ _ _ _ _ _ _ c.requires.space c.requires.made_le_limit.1 c.requires.sized nine i.rounds _ _ c.loop-i-test.true (rw i.loan.limit at c.rest-k.ensures) (rw i.loan.limit at c.in_err-now_made.ensures.poured));
    }

pub returns : goal.returns
returns c =
    let nine : length c.args.roots.at ≡ 9 = search rules in
    let i = c.loop-i.invariant in
    record { loan = i.loan; poured = rounds-done _ _ _ _ _ _ _ c.requires.space c.requires.made_le_limit.1 c.requires.sized nine i.rounds (omega arith) }
