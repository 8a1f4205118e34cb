-- An i64 to the bits of an F16. Assumes nothing.
use Rattle.std.proofs.Common.{◌≡◌, lit≤}
use Rattle.rounding.specs.Kind.{half, of_integer}
use Rattle.rounding.specs.Bits.{to_bits}
use Rattle.rounding.proofs.Units.{half_sized}
use Rattle.rounding.proofs.Integer.{integer_most, integer_bits, integer_lt}
use Rattle.rounding.proofs.narrow.i64_to_half.Goals as goal

pub whole_bits-requires : goal.whole_bits-requires
whole_bits-requires c = (integer_most c.args.n c.ranges.n c.unsigned_abs.ensures.value, lit≤ tt, lit≤ tt)

pub overflow_cast-result : goal.overflow_cast-result
overflow_cast-result c =
    let bits : c.whole_bits.result ≡ to_bits half (of_integer half c.args.n) = integer_bits half c.args.n c.ranges.n c.unsigned_abs.ensures.value c.whole_bits.ensures in
    record { fits = rw bits (integer_lt half half_sized c.args.n) }

pub returns : goal.returns
returns c =
    let bits : c.whole_bits.result ≡ to_bits half (of_integer half c.args.n) = integer_bits half c.args.n c.ranges.n c.unsigned_abs.ensures.value c.whole_bits.ensures in
    bits
