-- `scalar::products::outcome` meets its contract. Assumes nothing.
use mathlib.Core.Path.{ap, ◌∙◌}
use Rattle.std.specs.Prelude.{Err}
use Rattle.types.proofs.Choice.{picked, passed}
use Rattle.scalar.proofs.products.outcome.Goals as goal

pub returns-then-asked-product : goal.returns-then-asked-product
returns-then-asked-product c = ap Err c.refusal.ensures ∙ picked _ _ c.if-asked-product.true

pub returns : goal.returns
returns c = c.checked.ensures ∙ passed _ _ c.if-asked-product.false
