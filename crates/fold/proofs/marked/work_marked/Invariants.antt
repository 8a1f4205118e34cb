-- After the turns up to entry k the marked ones before it are worked out.
use mathlib.Core.Path.{◌≡◌}
use Prim.Native.Nat.{◌≤◌}
use lib.ListN.{length}
use Rattle.fold.proofs.Steps.{Working}
use Rattle.fold.proofs.marked.work_marked.Given as goal

abbrev pub invariant-loop-k : goal.invariant-loop-k
invariant-loop-k l = (l.k ≤ l.n) × (length l.results ≡ length l.initial.results) × Working l.s l.n l.from l.marks l.initial.results l.k l.at l.results
