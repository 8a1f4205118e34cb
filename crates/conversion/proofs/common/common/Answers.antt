-- `conversion::common::common` meets its contract. Assumes nothing.
use borrow.Author.Rules.{rules}
use Rattle.conversion.specs.Convert.{common_of}
use Rattle.conversion.proofs.common.common.Goals as goal

pub returns-in_err-ty : goal.returns-in_err-ty
unfolding common_of
returns-in_err-ty c = search rules

pub returns-in_err-x : goal.returns-in_err-x
unfolding common_of
returns-in_err-x c = search rules

pub returns-in_err-y : goal.returns-in_err-y
unfolding common_of
returns-in_err-y c = search rules

pub returns : goal.returns
unfolding common_of
returns c = search rules
