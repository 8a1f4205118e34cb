-- Where the next node starts.
use native.Mathlib.Omega.{arith}
use Prim.Native.Nat.{ℕ, ◌+◌, ◌*◌}
use mathlib.Core.Path.{ap, ◌∙◌}
use borrow.Author.Tests.{eq-eqb, ne_eqb}
use Rattle.sheet.proofs.names.after.Goals as goal

pub bounds-b-at-then-b-at-eq1 : goal.bounds-b-at-then-b-at-eq1
bounds-b-at-then-b-at-eq1 c = omega (arith, c.requires.1 c.if-b-at-eq1.true)

pub bounds-b-at-then-b-at-eq1-2 : goal.bounds-b-at-then-b-at-eq1-2
bounds-b-at-then-b-at-eq1-2 c = omega (arith, c.requires.1 c.if-b-at-eq1.true)

pub returns-then-b-at-eq1 : goal.returns-then-b-at-eq1
returns-then-b-at-eq1 c = ap (λ (k : ℕ). c.args.at + 4 + 8 * k) c.area.ensures.0 ∙ simp (eq-eqb _ _ c.if-b-at-eq1.true)

pub returns : goal.returns
returns c = simp (ne_eqb _ _ c.if-b-at-eq1.false)
