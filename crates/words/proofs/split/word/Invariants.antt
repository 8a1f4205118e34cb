-- With each turn a word of those left is passed, and what is left starts where the next one does.
use mathlib.Core.Path.{◌≡◌}
use Prim.Native.Nat.{◌+◌, ◌-◌, ◌≤◌}
use lib.ListN.{length, drop}
use Rattle.words.specs.Split.{word_at, word_place}
use Rattle.words.proofs.split.word.Given as goal

abbrev pub invariant-loop : goal.invariant-loop
invariant-loop l = (l.at ≤ length l.s) × (word_at (l.k - l.counter) (drop l.at l.s) ≡ word_at l.k l.s) × (l.at + word_place (l.k - l.counter) (drop l.at l.s) ≡ word_place l.k l.s)
