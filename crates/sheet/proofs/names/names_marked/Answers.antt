-- A setting names nothing; an expression what the pass over its nodes finds.
use Rattle.sheet.proofs.Accepted.{expression_filled, setting_names, expression_names}
use Rattle.sheet.proofs.names.names_marked.Goals as goal

pub scan-requires : goal.scan-requires
scan-requires c = expression_filled _ _ _ _ c.kind_of.ensures c.in-Expression.is c.requires

pub returns-in-Setting : goal.returns-in-Setting
returns-in-Setting c = setting_names _ _ _ _ c.kind_of.ensures c.in-Setting.is _

pub returns-in-Expression : goal.returns-in-Expression
returns-in-Expression c = expression_names _ _ _ _ c.kind_of.ensures c.in-Expression.is _ _ c.scan.ensures
