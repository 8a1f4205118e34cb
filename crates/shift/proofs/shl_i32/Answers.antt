-- `shift::shl_i32` meets its contract. Assumes nothing.
use Rattle.std.proofs.Common.{arith, w32}
use Rattle.shift.proofs.Shift.{shl_taken, shl_refused}
use Rattle.shift.proofs.shl_i32.Goals as goal

pub returns-then-top : goal.returns-then-top
returns-then-top c = shl_taken w32 _ _ c.ranges.x (omega arith) c.if-top.either

pub returns-else-top : goal.returns-else-top
returns-else-top c = shl_refused w32 _ _ c.ranges.x (omega arith) c.if-top.false
