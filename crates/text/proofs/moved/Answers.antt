-- The word, the number, the movers and a line feed stand one after another from the start of the buffer.
use native.Mathlib.Omega.{arith}
use Rattle.text.specs.Text.{moved_line}
use Rattle.text.proofs.Pieces.{after}
use Rattle.text.proofs.moved.Goals as goal

pub returns-clause-put : goal.returns-clause-put
unfolding moved_line
returns-clause-put c =
    let next = c.bytes.ensures.put.next in
    (after (after c.labelled.ensures.0 c.movers.ensures.0 (omega arith)) c.bytes.ensures (omega arith)).put
