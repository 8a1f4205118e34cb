-- 0, or any that such a refusal may have.
use borrow.Author.Rules.{rules}
use Rattle.slot.proofs.formed.detail_formed.Goals as goal

pub returns : goal.returns
returns c = rw c.carries.ensures
