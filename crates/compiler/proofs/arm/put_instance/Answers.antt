use native.Mathlib.Omega.{arith}
use mathlib.Core.Path.{ap}
use Prim.Native.Nat.{ℕ}
use mathlib.Core.List.{[], ◌∷◌, ◌++◌}
use lib.ListN.{replicate}
use Rattle.std.proofs.lemmas.List.{replicate-append-replicate}
use Rattle.compiler.proofs.Writing.{emits_then, emits-as}
use Rattle.compiler.proofs.arm.put_instance.Goals as goal

pub loop-preserved : goal.loop-preserved
loop-preserved c = emits-as (emits_then c.loop.invariant c.put-out.ensures) _ (replicate-append-replicate _ 1 _)

pub returns : goal.returns
returns c = emits-as (emits_then c.loop.invariant c.put.ensures) _ (ap (λ (k : ℕ). replicate k 0x35 ++ 0x38 ∷ 0 ∷ c.args.c ∷ []) (omega arith))
