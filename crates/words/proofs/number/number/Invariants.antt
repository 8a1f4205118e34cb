-- What the number so far and the bytes that are left spell.
use mathlib.Core.Path.{◌≡◌}
use Prim.Native.Nat.{◌^◌, ◌<◌}
use lib.ListN.{drop}
use Rattle.words.specs.Spelling.{spelled}
use Rattle.words.proofs.Spellings.{further}
use Rattle.words.proofs.number.number.Given as goal

abbrev pub invariant-loop-c : goal.invariant-loop-c
invariant-loop-c l = (l.n < 2 ^ 64) × (further l.base l.n (drop l.c-index l.s) ≡ spelled l.base l.s)
