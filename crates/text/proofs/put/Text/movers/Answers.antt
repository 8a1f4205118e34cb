-- After k turns the movers among the first k entries stand in the buffer.
use mathlib.Core.Path.{◌≡◌}
use native.Mathlib.Omega.{arith}
use Prim.Native.Nat.{◌+◌, ◌≤◌}
use Rattle.text.specs.Text.{spaced, fields, mover, movers}
use Rattle.text.specs.Inside.{Puts}
use Rattle.text.proofs.put.Text.movers.Goals.{then-marks-k, else-marks-k}
use Rattle.text.proofs.Pieces.{after, nothing_put}
use Rattle.text.proofs.Lists.{mover_some, mover_none, movers_more}
use Rattle.text.proofs.put.Text.movers.Goals as goal

pub loop-k-init : goal.loop-k-init
unfolding spaced movers
loop-k-init c = (omega arith, nothing_put c.args.self.now)

pub number-requires : goal.number-requires
number-requires c = omega (arith, c.loop-k.invariant.1.long)

pub loop-k-preserved : goal.loop-k-preserved
loop-k-preserved c =
    let s = c.args in
    let l = c.loop-k in
    let done = elim c.if-marks-k.branch as (λ _. (c.if-marks-k.self.at ≤ l.self.at + 21) × Puts l.self c.if-marks-k.self (fields (mover s.marks.now s.own l.k))) [
      | then-marks-k w ↦ rw (w.self-is, mover_some s.marks.now s.own l.k w.if-marks-k.true) (w.number.ensures.1, w.number.ensures.0)
      | else-marks-k w ↦ rw (w.self-is, mover_none s.marks.now s.own l.k w.if-marks-k.false) (omega arith, nothing_put l.self)
    ] in
    (omega arith, rw (movers_more s.marks.now s.own l.k) (after l.invariant.1 done.1 (omega arith)))

pub returns : goal.returns
returns c =
    let all : c.loop-k.k ≡ 128 = omega arith in
    (rw all at c.loop-k.invariant.1, omega arith)
