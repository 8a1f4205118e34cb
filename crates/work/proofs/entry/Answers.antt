-- A setting's body means its value, another's the meaning of its expression.
use Rattle.sheet.proofs.Accepted.{setting_literal}
use Rattle.work.proofs.Bodies.{body_literal, body_stands, body_node}
use Rattle.work.proofs.entry.Goals as goal

pub walk_literal-requires : goal.walk_literal-requires
walk_literal-requires c = setting_literal _ _ _ _ c.kind_of.ensures c.in-Setting.is c.requires

pub walk_node-requires : goal.walk_node-requires
walk_node-requires c = body_stands _ _ _ _ c.kind_of.ensures c.in-Expression.is c.requires

pub returns-in-Setting : goal.returns-in-Setting
returns-in-Setting c = body_literal _ _ _ _ _ c.kind_of.ensures c.in-Setting.is _ c.walk_literal.ensures.0

pub returns-in-Expression : goal.returns-in-Expression
returns-in-Expression c = body_node _ _ _ _ _ c.kind_of.ensures c.in-Expression.is _ c.walk_node.ensures
