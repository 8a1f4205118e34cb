-- After n turns the first n numbers are put.
use mathlib.Core.Path.{◌≡◌}
use Prim.Native.Nat.{◌≤◌}
use lib.ListN.{length}
use Rattle.low.specs.Bytes.{patch}
use Rattle.low.specs.Bytes.{eights}
use Rattle.low.proofs.words.put_words.Given as goal

abbrev pub invariant-loop-n : goal.invariant-loop-n
invariant-loop-n l = (l.n ≤ 16) × (length l.b ≡ length l.initial.b) × (l.b ≡ patch l.initial.b l.at (eights l.n l.xs))
