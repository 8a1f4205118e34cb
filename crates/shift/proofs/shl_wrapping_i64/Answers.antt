-- `shift::shl_wrapping_i64` meets its contract. Assumes nothing.
use Rattle.std.proofs.Common.{w64}
use Rattle.shift.proofs.Shift.{shl_any}
use Rattle.shift.proofs.shl_wrapping_i64.Goals as goal

pub returns : goal.returns
returns c = shl_any w64 _ _ _ c.ranges.x c.checked_shl.ensures c.unwrap_or.ensures
