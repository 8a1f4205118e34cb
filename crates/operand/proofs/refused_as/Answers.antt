-- `operand::refused_as` meets its contract. Assumes nothing.
use mathlib.Core.Path.{sym, ◌∙◌}
use borrow.Author.Tests.{not-true, not-false}
use Rattle.types.proofs.Choice.{picked, passed}
use Rattle.operand.proofs.refused_as.Goals as goal

pub returns-then-not-carries : goal.returns-then-not-carries
returns-then-not-carries c = c.refused.ensures ∙ passed _ _ (sym c.carries.ensures ∙ not-true _ c.if-not-carries.true-raw)

pub returns : goal.returns
returns c = rw c.scalar.ensures (picked _ _ (sym c.carries.ensures ∙ not-false _ c.if-not-carries.false-raw))
