-- What is left of the part falls by one with each of its bytes.
use native.Mathlib.Omega.{arith}
use mathlib.Core.Logic.{inl, inr}
use lib.ListN.{length}
use Rattle.integer.proofs.Order.{le_or_lt}
use Rattle.words.proofs.Splits.{part_ends, part_more, part_none}
use Rattle.words.proofs.split.end_of.Goals as goal

pub returns-then-s-i : goal.returns-then-s-i
returns-then-s-i c =
    let s = c.args in
    omega (arith, part_ends s.end s.s.now c.loop-i.i (omega arith) c.if-s-i.true)

pub loop-i-preserved : goal.loop-i-preserved
loop-i-preserved c =
    let s = c.args in
    omega (arith, part_more s.end s.s.now c.loop-i.i (omega arith) c.if-s-i.false)

pub returns : goal.returns
returns c =
    let s = c.args in
    elim (le_or_lt (length s.s.now) s.from) [
      | inl h ↦ omega (arith, c.max.ensures, part_none s.end s.s.now s.from h)
      | inr h ↦ omega (arith, c.max.ensures, c.loop-i.auto.i-end, part_none s.end s.s.now c.loop-i.i (omega arith))
    ]
