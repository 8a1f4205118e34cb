-- `exact::product_over` meets its contract. Assumes nothing.
use native.Mathlib.Nat.{pos_of_ne-zero, mul-zero}
use mir.Syntax.{w64}
use Rattle.exact.proofs.Product.{product_test}
use borrow.Author.Rules.{rules}
use Rattle.exact.proofs.product_over.Goals as goal

pub returns-then-b-eq0 : goal.returns-then-b-eq0
returns-then-b-eq0 c = rw (c.if-b-eq0.true, mul-zero)

pub returns : goal.returns
returns c = product_test w64 _ _ (pos_of_ne-zero c.if-b-eq0.false)
