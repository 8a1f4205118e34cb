-- An integer beside 9 and 10, zeros beside any other.
use mathlib.Core.Path.{sym, ◌∙◌}
use Rattle.types.proofs.Choice.{picked, passed}
use borrow.Author.Rules.{rules}
use Rattle.slot.proofs.formed.beside_formed.Goals as goal

pub returns-then-carries : goal.returns-then-carries
returns-then-carries c = c.integer_formed.ensures ∙ picked _ _ (sym c.carries.ensures ∙ c.if-carries.true)

pub returns : goal.returns
returns c = c.blank.ensures ∙ passed _ _ (sym c.carries.ensures ∙ c.if-carries.false)
