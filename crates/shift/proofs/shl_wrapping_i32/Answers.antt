-- `shift::shl_wrapping_i32` meets its contract. Assumes nothing.
use Rattle.std.proofs.Common.{w32}
use Rattle.shift.proofs.Shift.{shl_seen}
use Rattle.shift.proofs.shl_wrapping_i32.Goals as goal

pub returns : goal.returns
returns c = shl_seen w32 _ _ c.ranges.x c.wrapping_shl.ensures
