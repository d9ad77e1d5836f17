use Rattle.machine.proofs.Walking.{start_is}
use native.Mathlib.Omega.{arith}
use Rattle.machine.proofs.tables.start_of.Goals as goal

pub returns : goal.returns
returns c = start_is _ _ _ _ _ (omega (arith, c.struct_known-1.given)) c.rest-low.ensures c.rest-high.ensures
