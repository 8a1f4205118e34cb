-- A value with detail 0, or a refusal with its detail and what may stand beside it.
use Rattle.slot.proofs.Tests.{value_status, refusal_status}
use borrow.Author.Rules.{rules}
use Rattle.slot.proofs.formed.formed.Goals as goal

pub returns-then-o-eq0 : goal.returns-then-o-eq0
returns-then-o-eq0 c = value_status _ _ c.if-o-eq0.true c.value_formed.ensures

pub returns : goal.returns
returns c = refusal_status _ _ _ c.if-o-eq0.false c.detail_formed.ensures c.beside_formed.ensures
