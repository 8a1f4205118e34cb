-- A whole number times a power of two, exact in F32. Assumes nothing.
use Rattle.std.proofs.Common.{Bool, sym, refl, ap, ◌∙◌}
use lib.Ieee.{neg, nan_bits, odd}
use lib.Ieee as Ieee
use Rattle.rounding.proofs.Exact.{widened, neg_odd}
use Rattle.rounding.proofs.widen.small.Goals as goal

pub float_from_bits-r : goal.float_from_bits-r
unfolding nan_bits
float_from_bits-r c = tt

pub returns-then-neg : goal.returns-then-neg
unfolding Ieee.of_bits
returns-then-neg c =
    ap neg (widened c.args.m c.requires _ (refl, refl)) ∙ neg_odd 11 c.args.m 0 24 ∙ ap (λ (b : Bool). odd 11 b c.args.m 0 24) (sym c.if-neg.true)

pub returns-else-neg : goal.returns-else-neg
unfolding Ieee.of_bits
returns-else-neg c = widened c.args.m c.requires _ (refl, refl) ∙ ap (λ (b : Bool). odd 11 b c.args.m 0 24) (sym c.if-neg.false)
