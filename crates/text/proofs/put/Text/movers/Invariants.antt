-- After k turns the movers among the first k entries stand in the buffer.
use Prim.Native.Nat.{◌+◌, ◌*◌, ◌≤◌}
use Rattle.text.specs.Text.{fields, movers}
use Rattle.text.specs.Inside.{Puts}
use Rattle.text.proofs.put.Text.movers.Given as goal

abbrev pub invariant-loop-k : goal.invariant-loop-k
invariant-loop-k l = (l.self.at ≤ l.initial.self.at + 21 * l.k) × Puts l.initial.self l.self (fields (movers l.marks l.own l.k))
