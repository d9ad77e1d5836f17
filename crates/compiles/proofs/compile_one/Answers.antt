use Rattle.std.proofs.Common.{ℕ, List, ◌≤◌, ◌≡◌, subst, rules, arith}
use Rattle.mem.proofs.Laws.{length-words}
use Rattle.std.specs.Prelude.{Result, Ok}
use Rattle.compiler.specs.declared.Refused.{Refused}
use Rattle.compiler.specs.Tables.{CompiledIs}
use Rattle.compiles.proofs.compile_one.Goals as goal

pub compile_into-r-requires : goal.compile_into-r-requires
compile_into-r-requires g c = (search rules, omega arith, rw length-words (search rules))

code_fits : (s : List ℕ) (k : ℕ) (tables tables' code code' : List ℕ) {x : Result ℕ Refused} {n : ℕ} → CompiledIs s k tables tables' code code' x → x ≡ Ok n → n ≤ k
unfolding CompiledIs
code_fits s k tables tables' code code' f e = (subst (CompiledIs s k tables tables' code code') e f).fits

pub shared_ref_as_front-print_code : goal.shared_ref_as_front-print_code
shared_ref_as_front-print_code g c = code_fits _ _ _ _ _ _ c.compile_into-r.ensures c.in-Ok.is
