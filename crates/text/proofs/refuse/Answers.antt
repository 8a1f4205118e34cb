-- The word, the number and a line feed stand one after another from the start of the buffer.
use native.Mathlib.Omega.{arith}
use Rattle.text.specs.Text.{refusal_line}
use Rattle.text.proofs.Pieces.{after}
use Rattle.text.proofs.refuse.Goals as goal

pub returns-clause-put : goal.returns-clause-put
unfolding refusal_line
returns-clause-put c = rw (← c.from.ensures) (after c.labelled.ensures.0 c.bytes.ensures (omega (arith, c.bytes.ensures.put.next))).put
