-- `products::cells` meets its contract. Assumes nothing.
use Rattle.std.proofs.Common.{◌≡◌, ◌/◌, ◌≤◌, arith}
use Rattle.std.proofs.Math.Nat.{mul-le-mul}
use Rattle.std.proofs.lemmas.Result.{MatchResult-at_err}
use Rattle.components.proofs.Turns.{turn_first, turn_next, turn_stop, turn_last}
use Rattle.products.proofs.Places.{from_inside, column_inside, row_small, column_small}
use Rattle.products.proofs.cells.Goals as goal

pub loop-i-init : goal.loop-i-init
loop-i-init c = turn_first _ _

pub overflow_mul-i : goal.overflow_mul-i
overflow_mul-i c =
    let p = c.requires in
    let g = c.args in
    let q : c.loop-i.i / g.rows ≤ 3 = column_small _ g.n _ c.loop-i-test.true p.4 p.0 in
    omega (arith, mul-le-mul q p.3)

pub dot-cell-requires : goal.dot-cell-requires
dot-cell-requires c =
    let p = c.requires in
    let q = column_small _ _ _ c.loop-i-test.true p.4 p.0 in
    (from_inside _ _ _ (row_small _ _ p.0 p.1) p.1 p.3, column_inside _ _ q p.3, p.2)

pub returns-in_default : goal.returns-in_default
returns-in_default c =
    let e = MatchResult-at_err _ _ _ c.in_default.is c.map.ensures.cases in
    rw e (turn_stop _ _ _ _ c.loop-i.invariant c.loop-i-test.true _ c.in_default.ensures)

pub loop-i-preserved : goal.loop-i-preserved
loop-i-preserved c =
    let few : c.args.n ≤ 16 = omega (arith, c.requires) in
    turn_next _ _ _ _ c.loop-i.invariant c.loop-i-test.true few _ c.in-Ok.ensures

pub returns : goal.returns
returns c =
    let e : c.args.n ≤ c.loop-i.i = omega arith in
    turn_last _ _ _ _ c.loop-i.invariant e
