-- The sheet's own refusal, or that of the size.
use Rattle.std.proofs.Common.{◌≡◌, ◌∙◌, sym, rules}
use Rattle.std.specs.Prelude.{Err}
use Rattle.booth.proofs.Marked.{size_refused, sheet_refused}
use Rattle.booth.proofs.marks.other_size.Goals as goal

pub returns-in_err-check : goal.returns-in_err-check
returns-in_err-check c =
    let e : c.from_residual.result ≡ Err c.in_err-check.field-0.0 = search rules in
    e ∙ sym c.in_err-check.was ∙ sheet_refused _ _ _ c.check.ensures c.in_err-check.was

pub returns : goal.returns
returns c = size_refused _ _ _ c.check.ensures c.in_ok-check.was
