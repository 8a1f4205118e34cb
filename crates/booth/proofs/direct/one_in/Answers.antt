-- `booth::direct::one_in` meets its contract.
use Rattle.booth.proofs.Operands.{other_length, other_head, the_scalar}
use Rattle.booth.proofs.direct.one_in.Goals as goal

pub returns-then-b-ne11 : goal.returns-then-b-ne11
returns-then-b-ne11 c = other_length _ c.if-b-ne11.true

pub returns-then-not-known-b : goal.returns-then-not-known-b
returns-then-not-known-b c = other_head _ c.if-b-ne11.false _ c.known.ensures c.if-not-known-b.true

pub returns : goal.returns
returns c =
    the_scalar _ c.if-b-ne11.false _ c.known.ensures c.if-not-known-b.false _ _ c.number.ensures c.part.ensures.bytes
