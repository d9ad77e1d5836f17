use Rattle.machine.proofs.Walking.{arity-con, arity-fun}
use native.Mathlib.Omega.{arith}
use Rattle.machine.proofs.tables.arity.Goals as goal

pub returns-in-Makes : goal.returns-in-Makes
returns-in-Makes c = arity-con _ _ _ _ _ c.in-Makes.is (omega (arith, c.struct_known-1.given)) c.rest.ensures

pub returns-in-Calls : goal.returns-in-Calls
returns-in-Calls c = arity-fun _ _ _ _ _ c.in-Calls.is (omega (arith, c.struct_known-in-Calls-1.given)) c.rest-in-Calls.ensures
