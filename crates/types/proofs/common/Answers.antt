-- `types::common` meets its contract. Assumes nothing.
use Rattle.types.proofs.Goes.{to_left, to_right, to_none}
use Rattle.types.proofs.common.Goals as goal

pub returns-then-a-b : goal.returns-then-a-b
returns-then-a-b c = let a = c.args in to_left a.a a.b c.goes_to.ensures c.if-a-b.true

pub returns-then-goes_to : goal.returns-then-goes_to
returns-then-goes_to c =
    let a = c.args in
    to_right a.a a.b c.goes_to.ensures c.if-a-b.false c.goes_to-2.ensures c.if-goes_to.true

pub returns : goal.returns
returns c =
    let a = c.args in
    to_none a.a a.b c.goes_to.ensures c.if-a-b.false c.goes_to-2.ensures c.if-goes_to.false
