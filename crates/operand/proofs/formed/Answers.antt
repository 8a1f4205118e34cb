-- `operand::formed` meets its contract. Assumes nothing.
use mathlib.Core.Path.{◌≡◌, ◌∙◌, sym}
use mathlib.Core.Bool.{true}
use Prim.Native.Nat.{◌≤◌}
use native.Mathlib.Omega.{arith}
use borrow.Author.Tests.{not-true, not-false}
use Rattle.operand.specs.Operand.{shape_ok, operand_formed}
use Rattle.operand.proofs.Shapes.{shape_small, count_small}
use Rattle.operand.proofs.formed.Goals as goal

pub returns-then-not-shape_ok : goal.returns-then-not-shape_ok
unfolding operand_formed
returns-then-not-shape_ok c = rw (← c.shape_ok.ensures, not-true c.shape_ok.result c.if-not-shape_ok.true-raw)

pub count-requires : goal.count-requires
count-requires c = shape_small c.args.ty _ _ (sym c.shape_ok.ensures ∙ not-false _ c.if-not-shape_ok.false-raw)

pub components_ok-requires : goal.components_ok-requires
components_ok-requires c =
    let a = c.args in
    let h : shape_ok a.ty a.s.cols a.s.rows ≡ true = sym c.shape_ok.ensures ∙ not-false _ c.if-not-shape_ok.false-raw in
    let n : c.count.result ≤ 16 = rw c.count.ensures (count_small _ (shape_small a.ty _ _ h)) in
    omega arith

pub returns : goal.returns
unfolding operand_formed
returns c =
    rw (← c.shape_ok.ensures, not-false c.shape_ok.result c.if-not-shape_ok.false-raw, ← c.count.ensures)
    c.components_ok.ensures
