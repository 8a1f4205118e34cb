-- After k turns the bytes of the first k entries are written.
use Rattle.std.proofs.Common.{◌≡◌, ◌≤◌}
use Rattle.booth.proofs.Marked.{written}
use Rattle.booth.proofs.marks.put.Given as goal

abbrev pub invariant-loop-k : goal.invariant-loop-k
invariant-loop-k l = (l.k ≤ 128) × (l.marks ≡ written l.k l.worked l.initial.marks)
