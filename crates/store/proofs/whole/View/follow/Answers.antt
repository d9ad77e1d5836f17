use Prim.Native.Nat.{◌-◌, ◌+◌}
use native.Mathlib.Omega.{arith}
use mathlib.Core.Path.{◌≡◌, sym, ◌∙◌}
use Rattle.store.proofs.Laws.{seen-fwd, deref-go, deref-stop, deref-end, deref-past, length-graph, follow-is}
use Rattle.store.proofs.whole.View.follow.Goals as goal

pub returns-then-at-self : goal.returns-then-at-self
returns-then-at-self c = sym (deref-past _ _ _ (rw length-graph (omega arith))) ∙ c.loop.invariant ∙ sym (follow-is _ _ _)

pub returns-in_default : goal.returns-in_default
returns-in_default c = sym (deref-stop _ _ _ _ (omega arith) c.look.ensures c.in_default.not-Fwd) ∙ c.loop.invariant ∙ sym (follow-is _ _ _)

pub loop-preserved : goal.loop-preserved
loop-preserved c =
    let e = seen-fwd _ _ c.in-Fwd.ensures in
    let one : c.args.self.limit - (c.loop.counter + 1) ≡ c.args.self.limit - c.loop.counter - 1 = omega arith in
    rw one (sym (deref-go _ _ _ _ (omega arith) e) ∙ c.loop.invariant)

pub returns : goal.returns
returns c = sym (deref-end _ _ _ (omega arith)) ∙ c.loop.invariant ∙ sym (follow-is _ _ _)
