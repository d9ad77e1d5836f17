use native.Mathlib.Omega.{arith}
use mathlib.Core.Path.{◌≡◌}
use Prim.Native.Nat.{◌+◌, ◌-◌}
use Rattle.compiler.specs.Rows.{arm_at}
use Rattle.compiler.proofs.length.arm_length.Goals as goal

pub loop-a-init : goal.loop-a-init
unfolding arm_at
loop-a-init c = let k : c.args.c + c.args.n - c.args.c ≡ c.args.n = omega arith in (rw k (omega arith), omega arith)
