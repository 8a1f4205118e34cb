-- `integer::wrapping::mul_i32` meets its contract. Assumes nothing.
use Rattle.std.proofs.Common.{w32}
use Rattle.integer.proofs.Wrap.{wrapped_is, respects_mul}
use Rattle.integer.proofs.wrapping.mul_i32.Goals as goal

pub returns : goal.returns
returns c =
    wrapped_is w32 _ (respects_mul w32) c.ranges.x c.ranges.y c.cast_unsigned.ensures
    c.cast_unsigned-2.ensures c.mul_u32.ensures c.cast_signed.ensures
