-- A refused operand ends the node; else the operator answers.
use Rattle.std.proofs.Common.{rules}
use Rattle.work.specs.Meaning.{on_one}
use Rattle.work.proofs.on_one.Goals as goal

pub returns-in_default : goal.returns-in_default
unfolding on_one
returns-in_default c = search rules

pub returns : goal.returns
unfolding on_one
returns c = search rules
