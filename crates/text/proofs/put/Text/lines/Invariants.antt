-- After k turns the lines of the first k entries stand in the buffer.
use Prim.Native.Nat.{◌+◌, ◌*◌, ◌≤◌}
use Rattle.text.specs.Text.{lines}
use Rattle.text.specs.Inside.{Puts}
use Rattle.text.proofs.put.Text.lines.Given as goal

abbrev pub invariant-loop-k : goal.invariant-loop-k
invariant-loop-k l = (l.self.at ≤ l.initial.self.at + 480 * l.k) × Puts l.initial.self l.self (lines l.results l.k)
