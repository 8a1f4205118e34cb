-- `cases::operators::asked` meets its contract. Assumes nothing.
use mathlib.Core.Path.{◌≡◌, refl}
use Prim.Native.Nat.{◌-◌}
use lib.ListN.{take}
use Rattle.dispatch.specs.Meaning.{unary_meaning, binary_meaning}
use Rattle.booth.specs.Operand.{operand_in}
use Rattle.cases.specs.Record.{operand_of_c, asked_by}
use Rattle.cases.proofs.Records.{asked_of_one, asked_of_two}
use Rattle.cases.proofs.Operands.{for_c}
use borrow.Author.Rules.{rules}
use Rattle.cases.proofs.operators.asked.Goals as goal

pub returns-then-byte-eq1 : goal.returns-then-byte-eq1
returns-then-byte-eq1 c =
    let a = c.args in
    let l = operand_in (take (c.used-m.result - 0) c.laid_out-left.result) in
    let e : unary_meaning c.byte-op.result c.byte-stage.result l ≡ asked_by operand_of_c a.case.now =
    asked_of_one operand_of_c a.case.now c.byte.result c.byte-op.result c.byte-stage.result c.byte.ensures c.byte-op.ensures c.byte-stage.ensures
    _ c.part-first.ensures.bytes l (for_c _ _ _ c.laid_out-left.ensures c.used-m.ensures.1) _ c.if-byte-eq1.true refl in
    rw (← e) c.wgsl_unary.ensures

pub returns : goal.returns
returns c =
    let a = c.args in
    let l = operand_in (take (c.used-m.result - 0) c.laid_out-left.result) in
    let r = operand_in (take (c.used-n.result - 0) c.laid_out-right.result) in
    let e : binary_meaning c.byte-op.result c.byte-stage.result l r ≡ asked_by operand_of_c a.case.now =
    asked_of_two operand_of_c a.case.now c.byte.result c.byte-op.result c.byte-stage.result c.byte.ensures c.byte-op.ensures c.byte-stage.ensures
    _ c.part-first.ensures.bytes l (for_c _ _ _ c.laid_out-left.ensures c.used-m.ensures.1) _ c.if-byte-eq1.false c.second.result c.second.ensures.0
    _ c.part-second.ensures.bytes r (for_c _ _ _ c.laid_out-right.ensures c.used-n.ensures.1) refl in
    rw (← e) c.wgsl_binary.ensures
