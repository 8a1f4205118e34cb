-- A setting counts as 1, an expression as its stage byte.
use mathlib.Core.Path.{sym, ap, ◌∙◌}
use Rattle.sheet.specs.declared.Kind.{Kind}
use Rattle.sheet.specs.Stage.{counts_as}
use Rattle.sheet.proofs.stage.counts_as.Goals as goal

pub returns-in-Setting : goal.returns-in-Setting
unfolding counts_as
returns-in-Setting c = ap (λ (k : Kind). counts_as k c.args.stage) (sym c.in-Setting.is ∙ c.kind_of.ensures)

pub returns-in-Expression : goal.returns-in-Expression
unfolding counts_as
returns-in-Expression c = ap (λ (k : Kind). counts_as k c.args.stage) (sym c.in-Expression.is ∙ c.kind_of.ensures)
