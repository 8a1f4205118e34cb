-- `operand::components_ok` meets its contract. Assumes nothing.
use mathlib.Core.Path.{◌≡◌}
use Rattle.value.specs.Pattern.{proper_of}
use Rattle.operand.specs.Operand.{every, component_at}
use Rattle.low.specs.Bytes.{up_to}
use Rattle.operand.proofs.components_ok.Given as goal

abbrev pub invariant-loop-i : goal.invariant-loop-i
invariant-loop-i l = l.ok ≡ every (proper_of l.ty) (up_to (component_at l.xs) l.i)
