-- `shift::shr_i64` meets its contract. Assumes nothing.
use Rattle.std.proofs.Common.{w64}
use Rattle.shift.proofs.Shift.{shr_seen}
use Rattle.shift.proofs.shr_i64.Goals as goal

pub returns : goal.returns
returns c = shr_seen w64 _ _ _ c.ranges.x c.min.ensures
