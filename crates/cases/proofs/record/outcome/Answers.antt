-- `cases::record::outcome` meets its contract. Assumes nothing.
use Rattle.cases.specs.Record.{outcome_in}
use borrow.Author.Rules.{rules}
use Rattle.cases.proofs.record.outcome.Goals as goal

pub returns : goal.returns
unfolding outcome_in
returns c =
    rw (← c.part.ensures.bytes, ← c.instance-value.ensures, ← c.word-detail.ensures, ← c.byte.ensures)
