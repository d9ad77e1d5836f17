use Rattle.machine.proofs.Codes.{symbol-con, symbol-fun}
use Rattle.machine.proofs.code.symbol_at.Goals as goal

pub returns-then-byte_at-eq0 : goal.returns-then-byte_at-eq0
returns-then-byte_at-eq0 c = symbol-con _ _ _ _ c.byte_at.ensures c.byte_at-y.ensures c.if-byte_at-eq0.true

pub returns-else-byte_at-eq0 : goal.returns-else-byte_at-eq0
returns-else-byte_at-eq0 c = symbol-fun _ _ _ _ c.byte_at.ensures c.byte_at-y.ensures c.if-byte_at-eq0.false
