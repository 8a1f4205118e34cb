-- After i turns the first i numbers stand in the buffer.
use lib.ListN.{take}
use Prim.Native.Nat.{◌+◌, ◌*◌, ◌≤◌}
use Rattle.text.specs.Text.{digits_of, spaced}
use Rattle.text.specs.Inside.{Puts}
use Rattle.text.proofs.put.Text.row.Given as goal

abbrev pub invariant-loop-x : goal.invariant-loop-x
invariant-loop-x l = (l.self.at ≤ l.initial.self.at + 21 * l.x-index) × Puts l.initial.self l.self (spaced (digits_of l.hexadecimal) (take l.x-index l.xs))
