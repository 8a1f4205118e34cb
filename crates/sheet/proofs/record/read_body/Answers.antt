-- A body: its expression, then what is left over.
use mathlib.Core.Path.{◌≡◌, ◌∙◌}
use Rattle.std.specs.Prelude.{Err}
use Rattle.sheet.proofs.Records.{body_refused, body_leftover, body_whole}
use borrow.Author.Rules.{rules}
use Rattle.sheet.proofs.record.read_body.Goals as goal

pub returns-in_err-n : goal.returns-in_err-n
returns-in_err-n c =
    let e : c.from_residual.result ≡ Err c.in_err-n.field-0.0 = search rules in
    e ∙ body_refused _ _ _ _ _ c.read_kind.ensures _ c.in_err-n.was

pub returns-then-n-b : goal.returns-then-n-b
returns-then-n-b c = rw c.refused.ensures (body_leftover _ _ _ _ _ c.read_kind.ensures _ c.in_ok-n.was c.if-n-b.true)

pub returns : goal.returns
returns c = body_whole _ _ _ _ _ c.read_kind.ensures _ c.in_ok-n.was c.if-n-b.false
