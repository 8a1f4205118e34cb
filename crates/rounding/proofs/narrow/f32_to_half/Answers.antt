-- An F32 to the bits of an F16. Assumes nothing.
use Rattle.std.proofs.Common.{T, sym, ◌∙◌, subst, arith, lit≤}
use lib.Ieee.{binary32}
use Rattle.rounding.specs.Kind.{half}
use Rattle.rounding.proofs.Units.{half_sized}
use Rattle.rounding.proofs.Width.{bits_lt}
use Rattle.rounding.proofs.Nan.{nan_half, real}
use Rattle.rounding.proofs.Back.{narrowed}
use Rattle.rounding.proofs.narrow.f32_to_half.Goals as goal

pub returns-then-is_nan : goal.returns-then-is_nan
returns-then-is_nan c = nan_half c.args.x (sym c.is_nan.ensures.value ∙ c.if-is_nan.true)

pub narrow_bits-requires : goal.narrow_bits-requires
narrow_bits-requires c =
    (lit≤ tt, lit≤ tt, omega arith, real binary32 c.args.x (subst T (sym c.well_formed.0.1) tt) (sym c.is_nan.ensures.value ∙ c.if-is_nan.false) c.bits.ensures.kept)

pub returns : goal.returns
returns c =
    narrowed binary32 half c.args.x (subst T (sym c.well_formed.0.1) tt) c.bits.ensures.kept c.narrow_bits.ensures

pub overflow_cast-result : goal.overflow_cast-result
overflow_cast-result c = record { fits = rw (returns c) (bits_lt half half_sized c.args.x) }
