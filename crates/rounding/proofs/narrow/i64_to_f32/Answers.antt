-- An i64 to an F32, by its bits. Assumes nothing.
use Rattle.std.proofs.Common.{◌≡◌, ap, ◌∙◌, lit≤}
use lib.Ieee.{binary32}
use Rattle.rounding.specs.Kind.{single, of_integer}
use Rattle.rounding.specs.Bits.{to_bits, of_bits}
use Rattle.rounding.proofs.Units.{single_sized}
use Rattle.rounding.proofs.Integer.{integer_most, integer_bits, integer_lt, integer_fits}
use Rattle.rounding.proofs.Back.{bits_back}
use Rattle.rounding.proofs.narrow.i64_to_f32.Goals as goal

pub whole_bits-requires : goal.whole_bits-requires
whole_bits-requires c = (integer_most c.args.n c.ranges.n c.unsigned_abs.ensures.value, lit≤ tt, lit≤ tt)

pub of_bits-requires : goal.of_bits-requires
of_bits-requires c =
    let bits : c.whole_bits.result ≡ to_bits single (of_integer single c.args.n) = integer_bits single c.args.n c.ranges.n c.unsigned_abs.ensures.value c.whole_bits.ensures in
    rw bits (integer_lt single single_sized c.args.n)

pub returns : goal.returns
returns c =
    let bits : c.whole_bits.result ≡ to_bits single (of_integer single c.args.n) = integer_bits single c.args.n c.ranges.n c.unsigned_abs.ensures.value c.whole_bits.ensures in
    let n = c.args.n in c.of_bits.ensures ∙ ap (of_bits single) bits ∙ bits_back binary32 (of_integer single n) (integer_fits binary32 n)
