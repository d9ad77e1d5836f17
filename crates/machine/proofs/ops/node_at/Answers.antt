use Rattle.machine.proofs.Walking.{var-past}
use Rattle.machine.proofs.ops.node_at.Goals as goal

pub returns-then-n-store : goal.returns-then-n-store
returns-then-n-store c = var-past _ _ _ c.if-n-store.true
