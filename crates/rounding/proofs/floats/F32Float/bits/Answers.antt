-- The bits of a value, a NaN as it is kept; the value is read back from them. Assumes nothing.
use Rattle.std.proofs.Common.{T, sym, ap, ◌∙◌, subst}
use lib.Ieee.{binary32}
use Rattle.rounding.specs.Kind.{of_format}
use Rattle.rounding.specs.Bits.{of_bits}
use Rattle.rounding.proofs.Same.{to_bits_is}
use Rattle.rounding.proofs.Back.{bits_back}
use Rattle.rounding.proofs.floats.F32Float.bits.Goals as goal

pub returns-clause-kept : goal.returns-clause-kept
returns-clause-kept c = c.f32_to_bits_with_nan.ensures ∙ to_bits_is binary32 c.args.self

pub returns-clause-back : goal.returns-clause-back
returns-clause-back c = ap (of_bits (of_format binary32)) (returns-clause-kept c) ∙ bits_back binary32 c.args.self (subst T (sym c.well_formed.0.1) tt)
