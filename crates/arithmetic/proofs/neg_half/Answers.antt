-- `arithmetic::neg_half` meets its contract. Assumes nothing.
use native.Mathlib.Omega.{arith}
use Rattle.rounding.specs.Kind.{half}
use Rattle.rounding.proofs.Units.{half_sized}
use Rattle.arithmetic.proofs.Negated.{sign_set, half_nan, half_cleared}
use Rattle.arithmetic.proofs.neg_half.Goals as goal

pub returns-then-bits-gt31744 : goal.returns-then-bits-gt31744
returns-then-bits-gt31744 c = half_nan _ c.if-bits-gt31744.true

pub returns-then-bits-lt32768 : goal.returns-then-bits-lt32768
returns-then-bits-lt32768 c = sign_set half _ c.if-bits-lt32768.true half_sized c.if-bits-gt31744.false

pub returns : goal.returns
returns c = half_cleared c.args.bits c.if-bits-lt32768.false (omega arith) c.if-bits-gt31744.false
