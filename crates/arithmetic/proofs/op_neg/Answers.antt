-- `arithmetic::op_neg` meets its contract. Assumes nothing.
use mathlib.Core.Path.{ap}
use lib.IntN.{ℤ}
use mir.Syntax.{w32, w64}
use mir.Val.{SFits}
use Rattle.integer.proofs.Wrap.{negated}
use Rattle.value.specs.declared.Scalar.TheVariants.{AbstractInt, I32}
use Rattle.value.specs.Answer.{value}
use borrow.Author.Rules.{rules}
use Rattle.arithmetic.proofs.op_neg.Goals as goal

pub returns-in-AbstractInt : goal.returns-in-AbstractInt
returns-in-AbstractInt c =
    let f : SFits w64 c.in-AbstractInt.x = search rules in
    rw c.in-AbstractInt.is (ap (λ (z : ℤ). value (AbstractInt z)) (negated w64 c.in-AbstractInt.x f c.wrapping_neg.ensures))

pub returns-in-I32 : goal.returns-in-I32
returns-in-I32 c =
    let f : SFits w32 c.in-I32.x = search rules in
    rw c.in-I32.is (ap (λ (z : ℤ). value (I32 z)) (negated w32 c.in-I32.x f c.wrapping_neg-in-I32.ensures))
