-- After i turns the first i numbers are read.
use native.Mathlib.Omega.{arith}
use Rattle.low.proofs.Eights.{filled_none, filled_more, filled_all}
use Rattle.low.proofs.words.get_words.Goals as goal

pub loop-i-init : goal.loop-i-init
loop-i-init c = (omega arith, filled_none _ _)

pub loop-i-preserved : goal.loop-i-preserved
loop-i-preserved c = (omega arith, filled_more _ _ _ _ _ (omega arith) c.loop-i.invariant.1 c.get.ensures.number)

pub returns : goal.returns
returns c = filled_all _ _ _ _ c.loop-i.invariant.0 c.loop-i-test.false c.loop-i.invariant.1
