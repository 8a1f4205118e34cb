-- `scalar::products::checked` meets its contract. Assumes nothing.
use mathlib.Core.Path.{ap, ◌∙◌}
use Rattle.std.specs.Prelude.{Err}
use Rattle.types.proofs.Choice.{picked, passed}
use Rattle.scalar.proofs.products.checked.Goals as goal

pub returns-then-asked-finite : goal.returns-then-asked-finite
returns-then-asked-finite c = ap Err c.refusal.ensures ∙ picked _ _ c.if-asked-finite.true

pub returns : goal.returns
returns c = passed _ _ c.if-asked-finite.false
