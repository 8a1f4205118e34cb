-- After i turns the first i components are judged.
use mathlib.Core.Path.{◌≡◌}
use Rattle.slot.specs.Slot.{each, component_formed}
use Rattle.slot.proofs.formed.components_formed.Given as goal

abbrev pub invariant-loop-i : goal.invariant-loop-i
invariant-loop-i l = l.good ≡ each (component_formed l.ty l.n l.xs) l.i
