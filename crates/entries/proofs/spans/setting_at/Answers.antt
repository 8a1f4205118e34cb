-- A setting's type is the second byte of its body.
use Rattle.entries.proofs.Places.{setting_read, setting_none}
use Rattle.entries.proofs.spans.setting_at.Goals as goal

pub returns-in-Setting : goal.returns-in-Setting
returns-in-Setting c =
    setting_read _ _ _ c.span_at-r.ensures _ c.kind_of.ensures c.in-Setting.is _ c.body.ensures.bytes _ c.byte.ensures

pub returns-in-Expression : goal.returns-in-Expression
returns-in-Expression c =
    setting_none _ _ _ c.span_at-r.ensures _ c.kind_of.ensures c.in-Expression.is
