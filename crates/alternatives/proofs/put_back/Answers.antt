use Rattle.alternatives.proofs.Laws.{back-var, back-con, back-call, back-fwd}
use Prim.Native.Nat.{◌≤◌}
use mathlib.Core.Path.{subst}
use Rattle.store.specs.Rows.{count_of}
use Rattle.alternatives.proofs.put_back.Goals as goal

pub put_cell-requires : goal.put_cell-requires
unfolding count_of
put_cell-requires c = record { n_lt_limit = c.requires.n_lt_limit; count_bound = subst (λ z. count_of z ≤ 8) c.in-Con.is c.requires.what_bound }

pub put_cell-requires-in-Call : goal.put_cell-requires-in-Call
unfolding count_of
put_cell-requires-in-Call c = record { n_lt_limit = c.requires.n_lt_limit; count_bound = subst (λ z. count_of z ≤ 8) c.in-Call.is c.requires.what_bound }

pub returns-in-Var : goal.returns-in-Var
returns-in-Var c = record { loan = c.put_var.ensures.loan; did = back-var _ _ _ _ _ c.in-Var.is c.put_var.ensures.did }

pub returns-in-Con : goal.returns-in-Con
returns-in-Con c = record { loan = c.put_cell.ensures.loan; did = back-con _ _ _ _ _ _ _ c.in-Con.is c.put_cell.ensures.did }

pub returns-in-Call : goal.returns-in-Call
returns-in-Call c = record { loan = c.put_cell-in-Call.ensures.loan; did = back-call _ _ _ _ _ _ _ c.in-Call.is c.put_cell-in-Call.ensures.did }

pub returns-in-Fwd : goal.returns-in-Fwd
returns-in-Fwd c = record { loan = c.put_fwd.ensures.loan; did = back-fwd _ _ _ _ _ _ c.in-Fwd.is c.put_fwd.ensures.did }
