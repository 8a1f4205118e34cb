-- `cases::slots::is_right` meets its contract. Assumes nothing.
use Rattle.cases.specs.Judged.{slot_right}
use borrow.Author.Rules.{rules}
use Rattle.cases.proofs.slots.is_right.Goals as goal

pub returns : goal.returns
unfolding slot_right
returns c = rw (c.well_formed-2.ensures, c.byte.ensures)
