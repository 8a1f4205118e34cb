-- The digits stand after the bytes.
use native.Mathlib.Omega.{arith}
use Rattle.text.proofs.Pieces.{after}
use Rattle.text.proofs.put.Text.labelled.Goals as goal

pub decimal-requires : goal.decimal-requires
decimal-requires c = omega (arith, c.bytes.ensures.put.next)

pub returns : goal.returns
returns c =
    let next = c.bytes.ensures.put.next in
    (after c.bytes.ensures c.decimal.ensures.0 (omega arith), omega arith)
