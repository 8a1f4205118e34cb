-- `shift::shl_u32` meets its contract. Assumes nothing.
use Rattle.std.proofs.Common.{arith, w32}
use Rattle.shift.proofs.Shift.{shl_past_u, shl_within_u}
use Rattle.shift.proofs.shl_u32.Goals as goal

pub returns-then-n-x : goal.returns-then-n-x
returns-then-n-x c = shl_past_u w32 _ _ c.if-n-x.true

pub returns : goal.returns
returns c = shl_within_u w32 _ _ (omega arith) c.if-n-x.false
