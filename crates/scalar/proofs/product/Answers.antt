-- `scalar::product` meets its contract. Assumes nothing.
use mir.Syntax.{w16, w32}
use Rattle.scalar.proofs.Added.{fitting, f32_times, f64_times}
use Rattle.scalar.proofs.product.Goals as goal

pub returns-then-ty-eq2 : goal.returns-then-ty-eq2
returns-then-ty-eq2 c = let a = c.args in rw c.if-ty-eq2.true (f64_times a.stage a.l a.r c.ranges.l c.ranges.r c.float_times.ensures)

pub returns-then-ty-l : goal.returns-then-ty-l
returns-then-ty-l c =
    let a = c.args in
    let f = fitting w32 a.ty 5 a.l a.r c.if-ty-l.true in
    rw f.typed (f32_times a.stage a.l a.r f.first f.second c.float_times-then-ty-l.ensures)

pub overflow_cast-l : goal.overflow_cast-l
overflow_cast-l c = let a = c.args in (fitting w16 a.ty 6 a.l a.r c.if-ty-l-2.true).first

pub overflow_cast-r : goal.overflow_cast-r
overflow_cast-r c = let a = c.args in (fitting w16 a.ty 6 a.l a.r c.if-ty-l-2.true).second

pub returns-then-ty-l-2 : goal.returns-then-ty-l-2
returns-then-ty-l-2 c = let a = c.args in rw (fitting w16 a.ty 6 a.l a.r c.if-ty-l-2.true).typed c.half_times.ensures
