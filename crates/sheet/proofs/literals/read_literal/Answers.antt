-- The literal node, a law for each check.
use native.Mathlib.Omega.{arith}
use mathlib.Core.Path.{◌≡◌, refl}
use borrow.Author.Tests.{not-true, not-false}
use borrow.Author.Rules.{rules}
use Rattle.std.specs.Prelude.{Err}
use Rattle.sheet.proofs.Nodes.{not_there, literal_cut, literal_shape, literal_short, literal_bad, literal_good}
use Rattle.sheet.proofs.literals.read_literal.Goals as goal

pub returns-in_err-there : goal.returns-in_err-there
returns-in_err-there c =
    let e : c.from_residual.result ≡ Err c.in_err-there.field-0.0 = search rules in
    let q = not_there _ _ _ _ c.in_err-there.ensures.answer in
    rw (e, q.1) (literal_cut _ _ _ _ (omega (arith, q.0)))

pub returns-then-not-literal_ok : goal.returns-then-not-literal_ok
returns-then-not-literal_ok c =
    rw c.refused.ensures
    (literal_shape _ _ _ _ _ c.literal_head-h.ensures (omega (arith, c.in_ok-there.ensures.left refl)) _ c.literal_ok.ensures (not-true _ c.if-not-literal_ok.true-raw))

pub returns-in_err-there-2 : goal.returns-in_err-there-2
returns-in_err-there-2 c =
    let e : c.from_residual-in_err-there-2.result ≡ Err c.in_err-there-2.field-0.0 = search rules in
    let q = not_there _ _ _ _ c.in_err-there-2.ensures.answer in
    rw (e, q.1) (literal_short _ _ _ _ _ c.literal_head-h.ensures (omega (arith, c.in_ok-there.ensures.left refl)) _ c.literal_ok.ensures (not-false _ c.if-not-literal_ok.false-raw) _
    c.area-n.ensures.0 (omega (arith, q.0, c.in_ok-there.ensures.left refl)))

pub returns-then-not-all_proper : goal.returns-then-not-all_proper
returns-then-not-all_proper c =
    rw c.refused-then-not-all_proper.ensures
    (literal_bad _ _ _ _ _ c.literal_head-h.ensures (omega (arith, c.in_ok-there.ensures.left refl)) _ c.literal_ok.ensures (not-false _ c.if-not-literal_ok.false-raw) _
    c.area-n.ensures.0 (omega (arith, c.in_ok-there.ensures.left refl, c.in_ok-there-2.ensures.left refl)) _ c.all_proper.ensures (not-true _ c.if-not-all_proper.true-raw))

pub returns : goal.returns
returns c =
    literal_good _ _ _ _ _ c.literal_head-h.ensures (omega (arith, c.in_ok-there.ensures.left refl)) _ c.literal_ok.ensures (not-false _ c.if-not-literal_ok.false-raw) _
    c.area-n.ensures.0 (omega (arith, c.in_ok-there.ensures.left refl, c.in_ok-there-2.ensures.left refl)) _ c.all_proper.ensures (not-false _ c.if-not-all_proper.false-raw)
