-- `cases::record::same` meets its contract. Assumes nothing.
use Rattle.cases.proofs.Same.{same_test}
use borrow.Author.Rules.{rules}
use Rattle.cases.proofs.record.same.Goals as goal

pub returns : goal.returns
returns c = same_test _ _ _ c.same.ensures.0 c.same.ensures.1
