-- After i turns the first i numbers stand in the buffer.
use native.Mathlib.Omega.{arith}
use lib.ListN.{length}
use lib.Seq.{take_all}
use Prim.Native.Nat.{◌≤◌}
use Rattle.text.specs.Text.{digits_of}
use Rattle.text.proofs.Pieces.{after, nothing_put}
use Rattle.text.proofs.Lists.{spaced_more, spaced_none}
use Rattle.text.proofs.put.Text.row.Goals as goal

pub loop-x-init : goal.loop-x-init
loop-x-init c = (omega arith, rw (← spaced_none (digits_of c.args.hexadecimal)) (nothing_put c.args.self.now))

pub number-requires : goal.number-requires
number-requires c = omega (arith, c.loop-x.invariant.1.long)

pub loop-x-preserved : goal.loop-x-preserved
loop-x-preserved c =
    let s = c.args in
    let l = c.loop-x in
    (omega arith, rw (spaced_more (digits_of s.hexadecimal) s.xs.now l.x-index (omega arith)) (after l.invariant.1 c.number.ensures.0 (omega arith)))

pub returns : goal.returns
returns c =
    let l = c.loop-x in
    let e : length c.args.xs.now ≤ l.x-index = omega arith in
    (rw take_all at l.invariant.1, omega arith)
