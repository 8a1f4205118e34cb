-- After the turns up to entry k the first k entries are marked as they should be.
use Rattle.entries.proofs.Turning.{Marking}
use Rattle.entries.proofs.depend.dependents.Given as goal

abbrev pub invariant-loop-k : goal.invariant-loop-k
invariant-loop-k l = Marking l.s l.n l.i l.k l.at l.marks l.count
