-- A setting's body, a law for each check.
use native.Mathlib.Omega.{arith}
use mathlib.Core.Path.{refl, ◌≡◌, sym, ◌∙◌}
use borrow.Author.Rules.{rules}
use lib.ListN.{length}
use Rattle.std.specs.Prelude.{Err}
use Rattle.sheet.proofs.Nodes.{not_there}
use Rattle.sheet.proofs.Records.{setting_cut, setting_tag, setting_literal}
use Rattle.sheet.proofs.record.read_setting.Goals as goal

pub returns-in_err-there : goal.returns-in_err-there
returns-in_err-there c =
    let e : c.from_residual.result ≡ Err c.in_err-there.field-0.0 = search rules in
    let q = not_there _ _ _ _ c.in_err-there.ensures.answer in
    rw (e, q.1) (let z : length c.args.b.now ≡ 0 = omega (arith, q.0) in rw z (sym (setting_cut _ _ z)))

pub returns-then-b-ne1 : goal.returns-then-b-ne1
returns-then-b-ne1 c = rw c.refused.ensures (sym (setting_tag _ _ (omega (arith, c.in_ok-there.ensures.left refl)) c.if-b-ne1.true))

pub returns : goal.returns
returns c = c.read_literal.ensures ∙ sym (setting_literal _ _ (omega (arith, c.in_ok-there.ensures.left refl)) c.if-b-ne1.false)
