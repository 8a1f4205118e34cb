-- A slot of status 0 that is well formed gives its value, any other FromEntry.
use Rattle.slot.proofs.Tests.{reference_value, reference_refused}
use borrow.Author.Rules.{rules}
use Rattle.slot.proofs.reference.Goals as goal

pub returns-then-o-formed : goal.returns-then-o-formed
returns-then-o-formed c = reference_value _ _ _ _ c.read-o.ensures c.formed.ensures c.if-o-formed.true

pub returns : goal.returns
returns c = reference_refused _ _ _ _ c.read-o.ensures c.formed.ensures _ c.if-o-formed.false c.refused.ensures
