-- Whether a node is a reference to a marked entry.
use native.Mathlib.Omega.{arith}
use Prim.Native.Nat.{◌+◌}
use borrow.Author.Tests.{eq-eqb, ne_eqb}
use Rattle.sheet.proofs.names.marked_at.Goals as goal

pub returns-then-b-at-ne2 : goal.returns-then-b-at-ne2
returns-then-b-at-ne2 c = simp (ne_eqb _ _ c.if-b-at-ne2.true)

pub overflow_cast-k : goal.overflow_cast-k
overflow_cast-k c = omega (arith, c.shared_slice_known-2-1.given (c.args.at + 1))

pub bounds-marks-k : goal.bounds-marks-k
bounds-marks-k c = c.requires.1 c.if-b-at-ne2.false

pub returns : goal.returns
returns c = simp (eq-eqb _ _ c.if-b-at-ne2.false)
