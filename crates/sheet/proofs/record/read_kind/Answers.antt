-- What stands in a body, by the entry's kind.
use mathlib.Core.Path.{sym, ◌∙◌}
use Rattle.sheet.proofs.Records.{of_setting, of_node, of_kind_lem}
use Rattle.sheet.proofs.record.read_kind.Goals as goal

pub returns-in-Setting : goal.returns-in-Setting
returns-in-Setting c = c.read_setting.ensures ∙ sym (of_setting _ _ _ _) ∙ of_kind_lem _ _ _ _ _ (sym c.in-Setting.is ∙ c.kind_of.ensures)

pub returns-in-Expression : goal.returns-in-Expression
returns-in-Expression c = c.read_node.ensures ∙ sym (of_node _ _ _ _) ∙ of_kind_lem _ _ _ _ _ (sym c.in-Expression.is ∙ c.kind_of.ensures)
