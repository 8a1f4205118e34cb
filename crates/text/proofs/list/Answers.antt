-- The first line and those of the entries stand one after another from the start of the buffer.
use native.Mathlib.Omega.{arith}
use Rattle.text.specs.Text.{listing}
use Rattle.text.proofs.Pieces.{after}
use Rattle.text.proofs.list.Goals as goal

pub returns-clause-put : goal.returns-clause-put
unfolding listing
returns-clause-put c =
    let next = c.bytes.ensures.put.next in
    let head = after c.labelled.ensures.0 c.bytes.ensures (omega arith) in
    rw (← c.entries-n.ensures.0) (after head c.lines.ensures.0 (omega arith)).put
