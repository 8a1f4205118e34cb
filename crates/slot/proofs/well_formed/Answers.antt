-- A slot is well formed if what it says is.
use Rattle.slot.proofs.Tests.{slot_formed}
use borrow.Author.Rules.{rules}
use Rattle.slot.proofs.well_formed.Goals as goal

pub returns : goal.returns
returns c = slot_formed _ _ _ _ c.read.ensures c.formed.ensures
