-- `exact::sub_i64` meets its contract. Assumes nothing.
use Rattle.std.proofs.Common.{◌-ℤ◌, w64}
use Rattle.integer.proofs.Range.{operands_back, whole_found}
use Rattle.exact.proofs.sub_i64.Goals as goal

pub returns : goal.returns
returns c = whole_found _ _ _ (operands_back w64 ◌-ℤ◌ _ _ c.ranges.x c.ranges.y) c.checked_sub.ensures
