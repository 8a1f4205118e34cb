-- A component in use is proper and kept, another is 0.
use Rattle.slot.proofs.Tests.{used_formed, unused_formed}
use borrow.Author.Rules.{rules}
use Rattle.slot.proofs.formed.component_formed.Goals as goal

pub returns-then-i-n : goal.returns-then-i-n
returns-then-i-n c = used_formed _ _ _ _ _ _ c.if-i-n.true c.proper.ensures c.kept.ensures

pub returns : goal.returns
returns c = unused_formed _ _ _ _ c.if-i-n.false
