-- The invariant: the first i components are in the array, zeros after them.
use native.Mathlib.Omega.{arith}
use Rattle.sheet.proofs.Components.{none_loaded, one_loaded, all_loaded}
use Rattle.sheet.proofs.literals.load.Goals as goal

pub loop-i-init : goal.loop-i-init
loop-i-init c = (none_loaded _ _ _, omega arith)

pub loop-i-preserved : goal.loop-i-preserved
loop-i-preserved c = (one_loaded _ _ _ _ _ _ _ (omega arith) c.loop-i.invariant.0 c.get.ensures.number c.kept.ensures, omega arith)

pub returns : goal.returns
returns c = all_loaded _ _ _ _ _ _ c.loop-i.invariant.1 c.loop-i-test.false c.loop-i.invariant.0
