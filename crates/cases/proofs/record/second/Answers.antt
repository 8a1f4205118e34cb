-- `cases::record::second` meets its contract. Assumes nothing.
use native.Mathlib.Omega.{arith}
use Rattle.cases.specs.Record.{second_place}
use borrow.Author.Rules.{rules}
use Rattle.cases.proofs.record.second.Goals as goal

pub returns : goal.returns
unfolding second_place
returns c = (rw c.byte.ensures, omega arith)
