-- `cases::operators::used` meets its contract. Assumes nothing.
use native.Mathlib.Omega.{arith}
use native.Mathlib.Nat.{mul-le-mul}
use Prim.Native.Nat.{◌≤◌}
use Rattle.cases.proofs.Operands.{used_some, used_all}
use borrow.Author.Rules.{rules}
use Rattle.cases.proofs.operators.used.Goals as goal

pub overflow_mul-area : goal.overflow_mul-area
overflow_mul-area c =
    let cols : c.byte.result ≤ 255 = omega arith in
    let rows : c.byte-2.result ≤ 255 = omega arith in
    omega (arith, mul-le-mul cols rows)

pub returns-then-area-lt16 : goal.returns-then-area-lt16
returns-then-area-lt16 c =
    (omega arith, used_some c.args.operand.now _ _ c.byte.ensures c.byte-2.ensures (omega arith))

pub returns-else-area-lt16 : goal.returns-else-area-lt16
returns-else-area-lt16 c =
    (omega arith, used_all c.args.operand.now _ _ c.byte.ensures c.byte-2.ensures (omega arith))
