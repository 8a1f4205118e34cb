-- Type and shape, then the components in use.
use Rattle.slot.proofs.Tests.{value_formed_lem}
use borrow.Author.Rules.{rules}
use Rattle.slot.proofs.formed.value_formed.Goals as goal

pub returns : goal.returns
returns c = value_formed_lem _ _ _ _ c.shape_ok.ensures c.area.ensures c.components_formed.ensures
