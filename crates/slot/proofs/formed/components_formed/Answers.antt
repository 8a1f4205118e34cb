-- After i turns the first i components are judged.
use mathlib.Core.Path.{◌≡◌, refl, ap, ◌∙◌}
use native.Mathlib.Omega.{arith}
use Rattle.slot.specs.Slot.{each, component_formed, components_formed}
use Rattle.slot.proofs.Tests.{each_more}
use Rattle.slot.proofs.formed.components_formed.Goals as goal

pub loop-i-init : goal.loop-i-init
unfolding each
loop-i-init c = refl

pub loop-i-preserved : goal.loop-i-preserved
loop-i-preserved c = each_more _ _ _ _ c.loop-i.invariant c.component_formed-good.ensures

pub returns : goal.returns
unfolding components_formed
returns c = c.loop-i.invariant ∙ ap (each _) (let e : c.loop-i.i ≡ 16 = omega arith in e)
