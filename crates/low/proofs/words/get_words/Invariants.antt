-- After i turns the first i numbers are read.
use mathlib.Core.Path.{◌≡◌}
use Prim.Native.Nat.{◌≤◌}
use Rattle.low.proofs.Eights.{filled}
use Rattle.low.proofs.words.get_words.Given as goal

abbrev pub invariant-loop-i : goal.invariant-loop-i
invariant-loop-i l = (l.i ≤ 16) × (l.xs ≡ filled l.i l.b l.at)
