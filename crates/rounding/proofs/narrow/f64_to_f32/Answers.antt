-- An F64 to an F32, by its bits. Assumes nothing.
use Rattle.std.proofs.Common.{◌≡◌, T, sym, ap, ◌∙◌, subst, arith, lit≤}
use lib.Ieee.{binary32, binary64}
use Rattle.rounding.specs.Kind.{single, convert}
use Rattle.rounding.specs.Bits.{to_bits, of_bits}
use Rattle.rounding.proofs.Units.{single_sized}
use Rattle.rounding.proofs.Width.{bits_lt}
use Rattle.rounding.proofs.Nan.{nan_narrowed, nan_pattern, real}
use Rattle.rounding.proofs.Back.{narrowed, bits_back, convert_fits}
use Rattle.rounding.proofs.narrow.f64_to_f32.Goals as goal

pub returns-then-is_nan : goal.returns-then-is_nan
returns-then-is_nan c = nan_pattern binary32 ∙ sym (nan_narrowed single c.args.x (sym c.is_nan.ensures.value ∙ c.if-is_nan.true))

pub narrow_bits-requires : goal.narrow_bits-requires
narrow_bits-requires c =
    (lit≤ tt, lit≤ tt, omega arith, real binary64 c.args.x (subst T (sym c.well_formed.0.1) tt) (sym c.is_nan.ensures.value ∙ c.if-is_nan.false) c.bits.ensures.kept)

pub of_bits-requires : goal.of_bits-requires
of_bits-requires c =
    let bits : c.narrow_bits.result ≡ to_bits single (convert single c.args.x) = narrowed binary64 single c.args.x (subst T (sym c.well_formed.0.1) tt) c.bits.ensures.kept c.narrow_bits.ensures in
    rw bits (bits_lt single single_sized c.args.x)

pub returns : goal.returns
returns c =
    let bits : c.narrow_bits.result ≡ to_bits single (convert single c.args.x) = narrowed binary64 single c.args.x (subst T (sym c.well_formed.0.1) tt) c.bits.ensures.kept c.narrow_bits.ensures in
    let x = c.args.x in
    c.of_bits.ensures ∙ ap (of_bits single) bits ∙ bits_back binary32 (convert single x) (convert_fits binary32 x)
