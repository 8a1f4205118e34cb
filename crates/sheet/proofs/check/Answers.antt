-- The invariant: the entries done, their stages in the front of the array, and the rest of the sheet to read.
use native.Mathlib.Omega.{arith}
use borrow.Author.Rules.{rules}
use mathlib.Core.Path.{◌≡◌, refl, sym, ◌∙◌}
use Rattle.std.specs.Prelude.{Err}
use lib.Seq.{length-take-le}
use Rattle.sheet.proofs.Sheets.{going_start, going_end, going_full, going_bad, going_on, sheet_long, record_past}
use Rattle.sheet.proofs.check.Goals as goal

pub returns-then-s-gt16384 : goal.returns-then-s-gt16384
returns-then-s-gt16384 c = rw c.refused.ensures (sheet_long _ c.if-s-gt16384.true)

pub loop-at-init : goal.loop-at-init
loop-at-init c = going_start _ _ refl c.if-s-gt16384.false

pub returns-then-n-ge128 : goal.returns-then-n-ge128
returns-then-n-ge128 c = rw c.refused-then-n-ge128.ensures (going_full _ _ _ _ c.loop-at.invariant c.loop-at-test.true (omega arith))

pub slice_bounds-stages-end : goal.slice_bounds-stages-end
slice_bounds-stages-end c = omega (arith, c.loop-at.invariant.wide)

pub slice_bounds-read_record-end : goal.slice_bounds-read_record-end
slice_bounds-read_record-end c = sym (length-take-le _ _ (omega (arith, c.loop-at.invariant.wide)))

pub read_record-requires : goal.read_record-requires
read_record-requires c = tt

pub returns-in_err-passed : goal.returns-in_err-passed
returns-in_err-passed c =
    let e : c.from_residual.result ≡ Err c.in_err-passed.field-0.0 = search rules in
    e ∙ going_bad _ _ _ _ c.loop-at.invariant (omega arith) (omega arith) _ c.read_record.ensures _ c.in_err-passed.was

pub bounds-stages-n : goal.bounds-stages-n
bounds-stages-n c = omega arith

pub overflow_add-n : goal.overflow_add-n
overflow_add-n c = omega arith

pub loop-at-smaller : goal.loop-at-smaller
loop-at-smaller c = omega (arith, record_past _ _ _ _ _ c.read_record.ensures _ c.in_ok-passed.was)

pub loop-at-preserved : goal.loop-at-preserved
loop-at-preserved c = going_on _ _ _ _ c.loop-at.invariant (omega arith) (omega arith) _ c.read_record.ensures _ c.in_ok-passed.was

pub returns : goal.returns
returns c = going_end _ _ _ _ c.loop-at.invariant c.loop-at-test.false
