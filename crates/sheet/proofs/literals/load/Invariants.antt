-- The invariant: the first i components are in the array, zeros after them.
use mathlib.Core.Path.{◌≡◌}
use Prim.Native.Nat.{◌≤◌}
use Rattle.sheet.proofs.Components.{loaded}
use Rattle.sheet.proofs.literals.load.Given as goal

abbrev pub invariant-loop-i : goal.invariant-loop-i
invariant-loop-i l = (l.out ≡ loaded l.ty l.i l.b l.at) × (l.i ≤ l.n)
