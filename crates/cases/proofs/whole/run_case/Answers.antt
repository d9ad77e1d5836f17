use Rattle.cases.proofs.Cases.{case-ran}
use Rattle.cases.proofs.whole.run_case.Goals as goal

pub returns : goal.returns
returns c = case-ran _ _ _ _ c.run-o.result _ c.settle.ensures c.run-o.ensures
