-- `scalar::add_product` meets its contract. Assumes nothing.
use mir.Syntax.{w16, w32}
use Rattle.scalar.proofs.Added.{fitting_three, f32_added, f64_added}
use Rattle.scalar.proofs.add_product.Goals as goal

pub returns-then-ty-eq2 : goal.returns-then-ty-eq2
returns-then-ty-eq2 c = let a = c.args in rw c.if-ty-eq2.true (f64_added a.stage a.l a.r c.ranges.l c.ranges.r a.sum c.ranges.sum c.float_product.ensures)

pub returns-then-ty-sum : goal.returns-then-ty-sum
returns-then-ty-sum c =
    let a = c.args in
    let f = fitting_three w32 a.ty 5 a.sum a.l a.r c.if-ty-sum.true in
    rw f.0.typed (f32_added a.stage a.l a.r f.0.second f.1 a.sum f.0.first c.float_product-then-ty-sum.ensures)

pub overflow_cast-sum : goal.overflow_cast-sum
overflow_cast-sum c = let a = c.args in (fitting_three w16 a.ty 6 a.sum a.l a.r c.if-ty-sum-2.true).0.first

pub overflow_cast-l : goal.overflow_cast-l
overflow_cast-l c = let a = c.args in (fitting_three w16 a.ty 6 a.sum a.l a.r c.if-ty-sum-2.true).0.second

pub overflow_cast-r : goal.overflow_cast-r
overflow_cast-r c = let a = c.args in (fitting_three w16 a.ty 6 a.sum a.l a.r c.if-ty-sum-2.true).1

pub returns-then-ty-sum-2 : goal.returns-then-ty-sum-2
returns-then-ty-sum-2 c = let a = c.args in rw (fitting_three w16 a.ty 6 a.sum a.l a.r c.if-ty-sum-2.true).0.typed c.half_product.ensures
