-- `quotient::div_i32` meets its contract. Assumes nothing.
use Rattle.std.proofs.Common.{w32}
use Rattle.std.specs.Int.Signed.{quot_z}
use Rattle.quotient.proofs.Division.{quotient_found}
use Rattle.quotient.proofs.div_i32.Goals as goal

pub returns : goal.returns
returns c = quotient_found w32 _ quot_z _ _ c.ranges.x c.ranges.y c.checked_div.ensures
