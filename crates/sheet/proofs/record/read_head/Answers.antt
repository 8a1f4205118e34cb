-- The five bytes of a head, a law for each check.
use native.Mathlib.Omega.{arith}
use mathlib.Core.Path.{refl, ◌≡◌, sym, ◌∙◌}
use borrow.Author.Tests.{not-true, not-false}
use borrow.Author.Rules.{rules}
use Rattle.std.specs.Prelude.{Err}
use Rattle.sheet.proofs.Nodes.{not_there}
use Rattle.sheet.proofs.Records.{head_cut, head_mark, head_stage, head_short, head_record}
use Rattle.sheet.proofs.record.read_head.Goals as goal

pub returns-in_err-there : goal.returns-in_err-there
returns-in_err-there c =
    let e : c.from_residual.result ≡ Err c.in_err-there.field-0.0 = search rules in
    let q = not_there _ _ _ _ c.in_err-there.ensures.answer in
    rw (e, q.1) (head_cut _ _ (omega (arith, q.0)))

pub returns-then-not-s-at : goal.returns-then-not-s-at
returns-then-not-s-at c = rw c.refused.ensures (head_mark _ _ (omega (arith, c.in_ok-there.ensures.left refl)) (not-true _ c.if-not-s-at.true-raw))

pub returns-then-not-stage_known : goal.returns-then-not-stage_known
returns-then-not-stage_known c =
    rw c.refused-then-not-stage_known.ensures
    (head_stage _ _ (omega (arith, c.in_ok-there.ensures.left refl)) (not-false _ c.if-not-s-at.false-raw) (sym c.stage_known.ensures ∙ not-true _ c.if-not-stage_known.true-raw))

pub returns-in_err-there-2 : goal.returns-in_err-there-2
returns-in_err-there-2 c =
    let e : c.from_residual-in_err-there-2.result ≡ Err c.in_err-there-2.field-0.0 = search rules in
    let q = not_there _ _ _ _ c.in_err-there-2.ensures.answer in
    rw (e, q.1) (head_short _ _ (omega (arith, c.in_ok-there.ensures.left refl)) (not-false _ c.if-not-s-at.false-raw) (sym c.stage_known.ensures ∙ not-false _ c.if-not-stage_known.false-raw) _
    c.body_len-len.ensures.0 (omega (arith, q.0, c.in_ok-there.ensures.left refl)))

pub returns : goal.returns
returns c =
    head_record _ _ (omega (arith, c.in_ok-there.ensures.left refl)) (not-false _ c.if-not-s-at.false-raw) (sym c.stage_known.ensures ∙ not-false _ c.if-not-stage_known.false-raw) _
    c.body_len-len.ensures.0 (omega (arith, c.in_ok-there.ensures.left refl, c.in_ok-there-2.ensures.left refl))
