-- What a slot says is what its lent bytes say; past the last whole slot all is 0.
use mathlib.Core.Path.{refl, ◌∙◌}
use Rattle.slot.proofs.Slots.{said_none, said_lent}
use borrow.Author.Rules.{rules}
use Rattle.slot.proofs.read.Goals as goal

pub returns-then-results-k : goal.returns-then-results-k
returns-then-results-k c = c.refused.ensures ∙ said_none _ _ c.if-results-k.true

pub returns : goal.returns
returns c = said_lent _ _ _ _ c.if-results-k.false refl c.said_by.ensures
