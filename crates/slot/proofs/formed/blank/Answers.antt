-- All parts of a refused entry's value are 0.
use Rattle.slot.proofs.Tests.{blank_formed}
use borrow.Author.Rules.{rules}
use Rattle.slot.proofs.formed.blank.Goals as goal

pub returns : goal.returns
returns c = blank_formed _ _ c.components_formed.ensures
