-- The records of every sheet begin at its first byte.
use Rattle.entries.proofs.Places.{begins}
use Rattle.entries.proofs.spans.begin.Goals as goal

pub returns : goal.returns
returns c = begins _
