-- `scalar::unary_step` meets its contract. Assumes nothing.
use borrow.Author.Rules.{rules}
use Rattle.scalar.specs.Step.{unary_step_of}
use Rattle.scalar.proofs.unary_step.Goals as goal

pub returns : goal.returns
unfolding unary_step_of
returns c = search rules
