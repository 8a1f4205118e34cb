-- After i turns the first i numbers are read.
use mathlib.Core.Path.{◌≡◌}
use Rattle.low.proofs.Eights.{filled}
use Rattle.low.proofs.fields.numbers.Given as goal

abbrev pub invariant-loop-i : goal.invariant-loop-i
invariant-loop-i l = l.xs ≡ filled l.i l.s 0
