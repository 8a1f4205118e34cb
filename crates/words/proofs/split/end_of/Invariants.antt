-- What is left of the part falls by one with each of its bytes.
use mathlib.Core.Path.{◌≡◌}
use lib.ListN.{length, drop}
use Rattle.words.specs.Split.{before}
use Prim.Native.Nat.{◌+◌}
use Rattle.words.proofs.split.end_of.Given as goal

abbrev pub invariant-loop-i : goal.invariant-loop-i
invariant-loop-i l = l.from + length (before l.end (drop l.from l.s)) ≡ l.i + length (before l.end (drop l.i l.s))
