-- `dispatch::multiply` meets its contract. Assumes nothing.
use mathlib.Core.Path.{refl}
use native.Mathlib.Omega.{arith}
use native.Mathlib.Nat.{mul-le-mul, mul-le-mul_left}
use lib.Dec.{eqb}
use Rattle.low.proofs.Tests.{both}
use Rattle.dispatch.specs.Meaning.{matrix_product}
use Rattle.dispatch.proofs.Checks.{answer_same}
use Rattle.dispatch.proofs.Multiplied.{rows_small, inner_small, in_cells}
use Rattle.dispatch.proofs.multiply.Goals as goal

pub overflow_mul-rows : goal.overflow_mul-rows
overflow_mul-rows c =
    let p = c.requires in
    omega (arith, mul-le-mul (rows_small (eqb c.args.l.0.cols 1) _ _ p.0 p.1 _ c.choose-rows.ensures).1 p.1.1)

pub cells-run-requires : goal.cells-run-requires
cells-run-requires c =
    let p = c.requires in
    let t = eqb c.args.l.0.cols 1 in
    let m = rows_small t _ _ p.0 p.1 _ c.choose-rows.ensures in
    let n = inner_small t _ _ p.0 p.1 _ c.choose-inner.ensures in
    (m.0, m.1, n.0, n.1, mul-le-mul_left _ p.1.1)

pub returns-then-vector-is_err : goal.returns-then-vector-is_err
unfolding matrix_product
returns-then-vector-is_err c =
    let a = c.args in
    rw (both (eqb a.l.0.cols 1) _ c.if-vector-is_err.true).0 (answer_same _ _ _ _ _ _ _ c.answer_of.ensures c.vec_mat-again.ensures refl)

pub returns : goal.returns
returns c =
    let a = c.args in
    in_cells a.stage a.ty a.l.0 a.r.0 a.l.1.now a.r.1.now c.requires.1.1 c.choose-rows.result c.choose-inner.result _ _ c.cells-run.result c.cells-run.ensures _
    c.answer_of-2.ensures _ refl c.choose-rows.ensures c.choose-inner.ensures c.choose.ensures c.choose-2.ensures
    (rw c.is_err.ensures.value at c.if-vector-is_err.false)
