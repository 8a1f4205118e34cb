-- `cases::record::components` meets its contract. Assumes nothing.
use Rattle.cases.specs.Record.{components_in}
use borrow.Author.Rules.{rules}
use Rattle.cases.proofs.record.components.Goals as goal

pub returns : goal.returns
unfolding components_in
returns c = rw (← c.byte.ensures) c.part.ensures.bytes
