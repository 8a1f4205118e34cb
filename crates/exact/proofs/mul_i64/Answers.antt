-- `exact::mul_i64` meets its contract. Assumes nothing.
use mathlib.Core.Path.{◌∙◌, ap}
use mir.Syntax.{w64}
use Rattle.integer.specs.Range.{whole_of}
use Rattle.exact.proofs.Product.{product_fits, product_refused, product_is}
use borrow.Author.Rules.{rules}
use Rattle.exact.proofs.mul_i64.Goals as goal

pub returns-then-product_over : goal.returns-then-product_over
returns-then-product_over c =
    let left = c.unsigned_abs-a.ensures.value in
    product_refused c.ranges.x c.ranges.y left c.unsigned_abs-b.ensures.value c.product_over.ensures c.if-product_over.true

pub overflow_mul-a : goal.overflow_mul-a
overflow_mul-a c = product_fits w64 _ _ c.product_over.ensures c.if-product_over.false

pub returns : goal.returns
returns c =
    let left = c.unsigned_abs-a.ensures.value in
    c.with_sign.ensures ∙ ap whole_of (product_is w64 _ _ c.ranges.x c.ranges.y _ _ left c.unsigned_abs-b.ensures.value)
