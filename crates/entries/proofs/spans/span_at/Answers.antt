-- The record at a place is as its head says, and ends where its body does.
use native.Mathlib.Omega.{arith}
use mathlib.Core.Path.{sym, ap, ◌∙◌}
use Rattle.sheet.proofs.Records.{body_in}
use Rattle.entries.specs.Records.{span_in}
use Rattle.entries.proofs.spans.span_at.Goals as goal

pub returns-in_default : goal.returns-in_default
unfolding span_in
returns-in_default c = sym (ap (span_in _) (sym c.read_head.ensures ∙ c.in_default.is))

pub overflow_add-result : goal.overflow_add-result
overflow_add-result c = omega (arith, body_in _ _ _ _ _ (sym c.read_head.ensures ∙ c.in-Ok.is))

pub returns : goal.returns
unfolding span_in
returns c = sym (ap (span_in _) (sym c.read_head.ensures ∙ c.in-Ok.is))
