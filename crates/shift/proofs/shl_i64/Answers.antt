-- `shift::shl_i64` meets its contract. Assumes nothing.
use Rattle.std.proofs.Common.{◌^◌, pos, ◌*ℤ◌, arith, w64}
use Rattle.integer.proofs.Range.{whole_out}
use Rattle.shift.proofs.Shift.{shl_past, whole_taken, whole_refused}
use Rattle.shift.proofs.shl_i64.Goals as goal

pub returns-then-n-ge-WIDE : goal.returns-then-n-ge-WIDE
returns-then-n-ge-WIDE c = let a = c.args in whole_out (a.x *ℤ pos (2 ^ a.n)) (shl_past w64 a.x a.n c.if-x-eq0.false c.if-n-ge-WIDE.true)

pub returns-then-top : goal.returns-then-top
returns-then-top c = whole_taken _ _ c.ranges.x (omega arith) c.if-top.either

pub returns-else-top : goal.returns-else-top
returns-else-top c = whole_refused _ _ c.ranges.x (omega arith) c.if-top.false
