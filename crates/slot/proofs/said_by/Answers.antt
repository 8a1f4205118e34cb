-- Each part of the outcome is read from its place.
use Rattle.slot.specs.Slot.{said_by}
use borrow.Author.Rules.{rules}
use Rattle.slot.proofs.said_by.Goals as goal

pub returns : goal.returns
unfolding said_by
returns c = cc
