-- `scalar::binary_op` meets its contract. Assumes nothing.
use mathlib.Core.Path.{◌≡◌, ◌∙◌}
use Prim.Native.Nat.{◌<◌}
use native.Mathlib.Omega.{arith}
use borrow.Author.Tests.{leb-true}
use Rattle.low.proofs.Tests.{both}
use Rattle.scalar.proofs.Codes.{no_arithmetic, arithmetic_code, comparison_code, bits_code, no_code}
use Rattle.scalar.proofs.binary_op.Goals as goal

pub returns-then-op : goal.returns-then-op
returns-then-op c =
    let a = c.args in
    let k = both _ _ c.if-op.true in
    c.arithmetic_pair.ensures ∙ arithmetic_code a.stage a.p a.op (leb-true _ _ k.0) (leb-true _ _ k.1)

pub returns-in-8-to-13 : goal.returns-in-8-to-13
returns-in-8-to-13 c =
    let a = c.args in
    c.compare.ensures ∙ comparison_code a.stage a.p a.op (omega arith) (omega arith)

pub returns-in-14-to-16 : goal.returns-in-14-to-16
returns-in-14-to-16 c =
    let a = c.args in
    c.bits_pair.ensures ∙ bits_code a.stage a.p a.op (omega arith) (omega arith)

pub returns-in_default : goal.returns-in_default
returns-in_default c =
    let a = c.args in
    let few : a.op < 3 = no_arithmetic a.op c.if-op.false (omega arith) in
    let zero : a.op ≡ 0 = omega (arith, few, c.in_default.in_default-own.rest.0.1, c.in_default.in_default-own.rest.1) in
    rw zero

pub returns-in_default-2 : goal.returns-in_default-2
returns-in_default-2 c = let a = c.args in no_code a.stage a.p a.op (omega arith)
