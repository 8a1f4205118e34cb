-- After i turns the first i numbers are read.
use native.Mathlib.Omega.{arith}
use mathlib.Core.Path.{◌∙◌, ap}
use Prim.Native.Nat.{ℕ}
use Rattle.low.specs.Bytes.{whole, part}
use Rattle.low.proofs.Eights.{filled_none, filled_more, filled_end}
use Rattle.low.proofs.fields.numbers.Goals as goal

pub loop-i-init : goal.loop-i-init
loop-i-init c = filled_none _ _

pub loop-i-preserved : goal.loop-i-preserved
loop-i-preserved c =
    filled_more _ _ _ _ _ (omega arith) c.loop-i.invariant (c.nth.ensures ∙ ap (λ (k : ℕ). whole (part c.args.s.now k 8)) (omega arith))

pub returns : goal.returns
returns c = filled_end _ _ _ (omega arith) (λ h. omega (arith, c.div_ceil.ensures)) c.loop-i.invariant
