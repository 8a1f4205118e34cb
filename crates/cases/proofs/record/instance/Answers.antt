-- `cases::record::instance` meets its contract. Assumes nothing.
use Rattle.cases.specs.Record.{instance_in}
use borrow.Author.Rules.{rules}
use Rattle.cases.proofs.record.instance.Goals as goal

pub returns : goal.returns
unfolding instance_in
returns c =
    rw (← c.components.ensures, ← c.numbers-comps.ensures, ← c.byte.ensures, ← c.byte-2.ensures, ← c.byte-3.ensures)
