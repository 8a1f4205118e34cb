-- `scalar::convert_step` meets its contract. Assumes nothing.
use borrow.Author.Rules.{rules}
use Rattle.scalar.specs.Step.{conv_of}
use Rattle.scalar.proofs.convert_step.Goals as goal

pub returns-in_err-s : goal.returns-in_err-s
unfolding conv_of
returns-in_err-s c = search rules

pub returns-in_err-t : goal.returns-in_err-t
unfolding conv_of
returns-in_err-t c = search rules

pub returns : goal.returns
unfolding conv_of
returns c = search rules
