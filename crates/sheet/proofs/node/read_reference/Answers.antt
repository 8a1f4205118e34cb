-- The reference node, a law for each check.
use native.Mathlib.Omega.{arith}
use mathlib.Core.Path.{◌≡◌, refl, sym, ap}
use Prim.Native.Nat.{◌+◌}
use borrow.Author.Rules.{rules}
use Rattle.std.specs.Prelude.{Err}
use Rattle.low.specs.Read.{seen_of}
use Rattle.sheet.proofs.Nodes.{not_there, reference_cut, reference_late, reference_above, reference_good}
use Rattle.sheet.proofs.node.read_reference.Goals as goal

pub returns-in_err-there : goal.returns-in_err-there
returns-in_err-there c =
    let e : c.from_residual.result ≡ Err c.in_err-there.field-0.0 = search rules in
    let q = not_there _ _ _ _ c.in_err-there.ensures.answer in
    rw (e, q.1) (ap seen_of (sym (reference_cut _ _ _ _ (omega (arith, q.0)))))

pub overflow_cast-k : goal.overflow_cast-k
overflow_cast-k c = omega (arith, c.shared_slice_known-3-1.given (c.args.at + 1))

pub returns-then-stages-k : goal.returns-then-stages-k
returns-then-stages-k c = rw c.refused.ensures (ap seen_of (sym (reference_late _ _ _ _ (omega (arith, c.in_ok-there.ensures.left refl)) (omega (arith, c.in_ok-there.ensures.left refl)))))

pub returns-then-own-stages : goal.returns-then-own-stages
returns-then-own-stages c =
    rw c.refused-then-own-stages.ensures (ap seen_of (sym (reference_above _ _ _ _ (omega (arith, c.in_ok-there.ensures.left refl)) c.if-stages-k.false c.if-own-stages.true)))

pub returns : goal.returns
returns c = ap seen_of (sym (reference_good _ _ _ _ (omega (arith, c.in_ok-there.ensures.left refl)) c.if-stages-k.false c.if-own-stages.false))
