-- `value::pattern::kept_half` meets its contract. Assumes nothing.
use borrow.Author.Tests.{lt-ltb, le-ltb}
use Rattle.value.specs.Pattern.{kept_of}
use Rattle.types.proofs.Choice.{picked, passed}
use Rattle.value.proofs.pattern.kept_half.Goals as goal

pub returns-then-bits-gt31744 : goal.returns-then-bits-gt31744
unfolding kept_of
returns-then-bits-gt31744 c = picked _ _ (lt-ltb _ _ c.if-bits-gt31744.true)

pub returns : goal.returns
unfolding kept_of
returns c = passed _ _ (le-ltb _ _ c.if-bits-gt31744.false)
