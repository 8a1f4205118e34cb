-- `cases::scalars::unary` meets its contract. Assumes nothing.
use mathlib.Core.Path.{◌∙◌}
use Rattle.cases.specs.Scalars.{unary_by}
use Rattle.cases.proofs.Codes.{other_unary}
use borrow.Author.Rules.{rules}
use Rattle.cases.proofs.scalars.unary.Goals as goal

pub returns-in-1 : goal.returns-in-1
unfolding unary_by
returns-in-1 c = rw c.in-1.is c.op_not.ensures

pub returns-in-2 : goal.returns-in-2
unfolding unary_by
returns-in-2 c = rw c.in-2.is c.op_neg.ensures

pub returns-in_default : goal.returns-in_default
returns-in_default c = c.op_bitnot.ensures ∙ other_unary c.args.v c.args.op c.in_default.in_default-own.rest
