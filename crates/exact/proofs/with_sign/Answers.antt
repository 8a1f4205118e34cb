-- `exact::with_sign` meets its contract. Assumes nothing.
use Rattle.exact.proofs.Product.{whole_zero, whole_neg, whole_neg_over, whole_pos, whole_pos_over}
use borrow.Author.Rules.{rules}
use Rattle.exact.proofs.with_sign.Goals as goal

pub returns-then-m-eq0 : goal.returns-then-m-eq0
returns-then-m-eq0 c = whole_zero c.args.neg _ c.if-m-eq0.true

pub returns-then-k-lt9223372036854775808 : goal.returns-then-k-lt9223372036854775808
returns-then-k-lt9223372036854775808 c = whole_neg _ _ c.if-neg.true c.if-m-eq0.false c.if-k-lt9223372036854775808.true

pub returns-then-neg : goal.returns-then-neg
returns-then-neg c = whole_neg_over _ _ c.if-neg.true c.if-m-eq0.false c.if-k-lt9223372036854775808.false

pub returns-then-m-lt9223372036854775808 : goal.returns-then-m-lt9223372036854775808
returns-then-m-lt9223372036854775808 c = whole_pos _ _ c.if-neg.false c.if-m-lt9223372036854775808.true

pub returns : goal.returns
returns c = whole_pos_over _ _ c.if-neg.false c.if-m-lt9223372036854775808.false
