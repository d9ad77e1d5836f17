-- what is seen, by the head word read and the next two
use native.Mathlib.Omega.{arith}
use Rattle.store.proofs.Laws.{look-var, look-con, look-call, look-fwd}
use Rattle.store.proofs.whole.View.look.Goals as goal

pub returns-in-0 : goal.returns-in-0
returns-in-0 c = look-var _ _ _ _ _ c.requires c.args.self.room.1 c.get.ensures (omega arith) c.to_le_bytes.ensures c.in-0.is

pub returns-in-1 : goal.returns-in-1
returns-in-1 c = look-con _ _ _ _ _ c.requires c.args.self.room.1 c.get.ensures (omega arith) c.to_le_bytes.ensures _ _ c.in-1.is c.get-in-1.ensures c.count_by.ensures

pub returns-in-2 : goal.returns-in-2
returns-in-2 c = look-call _ _ _ _ _ c.requires c.args.self.room.1 c.get.ensures (omega arith) c.to_le_bytes.ensures _ _ c.in-2.is c.get-in-2.ensures c.count_by-in-2.ensures

pub returns-in_default : goal.returns-in_default
returns-in_default c = look-fwd _ _ _ _ _ c.requires c.args.self.room.1 c.get.ensures (omega arith) c.to_le_bytes.ensures _ (λ q. omega arith) (λ q. omega arith) (λ q. omega arith) c.get-in_default.ensures
