-- The invariant: the trees that stand from here to the end name a marked entry exactly if the body does, whichever expression fills it.
use Prim.Native.Nat.{◌-◌}
use lib.ListN.{length}
use Rattle.types.specs.Edition.{plain}
use Rattle.sheet.proofs.Passes.{PassingAll}
use Rattle.sheet.proofs.names.scan.Given as goal

abbrev pub invariant-loop-at : goal.invariant-loop-at
invariant-loop-at l = PassingAll plain l.b l.marks l.at

abbrev pub decreases-loop-at : goal.decreases-loop-at
decreases-loop-at l = length l.b - l.at
