-- `conversion::convert::from_int` meets its contract. Assumes nothing.
use mir.Syntax.{w64}
use mir.ValLaws.{to_z-of_z}
use Rattle.conversion.proofs.convert.from_int.Goals as goal

pub returns-in-2 : goal.returns-in-2
returns-in-2 c = rw c.in-2.is (rw (to_z-of_z w64 _ c.ranges.x) at c.int_to_float.ensures)
