-- The next word starts after the byte 0 that ends this one; the last one may have none.
use Rattle.words.proofs.Splits.{next_there, next_none}
use Rattle.words.proofs.split.next.Goals as goal

pub returns-then-e-s : goal.returns-then-e-s
returns-then-e-s c =
    let s = c.args in
    let e = c.end_of-e in
    next_there s.s.now s.from e.result e.ensures c.if-e-s.true

pub returns-else-e-s : goal.returns-else-e-s
returns-else-e-s c =
    let s = c.args in
    let e = c.end_of-e in
    next_none s.s.now s.from e.result e.ensures c.requires c.if-e-s.false
