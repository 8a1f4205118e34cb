-- `types::row_of` meets its contract. Assumes nothing.
use mathlib.Core.Bool.{false}
use Rattle.std.specs.Prelude.{None}
use mathlib.Core.Path.{◌∙◌}
use Rattle.types.specs.Types.{row, rows}
use Rattle.types.proofs.Choice.{past_all}
use Rattle.types.proofs.row_of.Goals as goal

pub returns-in-0 : goal.returns-in-0
returns-in-0 c = rw c.in-0.is c.row_with.ensures

pub returns-in-1 : goal.returns-in-1
returns-in-1 c = rw c.in-1.is c.row_with-in-1.ensures

pub returns-in-2 : goal.returns-in-2
returns-in-2 c = rw c.in-2.is c.row_with-in-2.ensures

pub returns-in-3 : goal.returns-in-3
returns-in-3 c = rw c.in-3.is c.row_with-in-3.ensures

pub returns-in-4 : goal.returns-in-4
returns-in-4 c = rw c.in-4.is c.row_with-in-4.ensures

pub returns-in-5 : goal.returns-in-5
returns-in-5 c = rw c.in-5.is c.row_with-in-5.ensures

pub returns-in-6 : goal.returns-in-6
returns-in-6 c = rw c.in-6.is c.row_with-in-6.ensures

pub returns-in_default : goal.returns-in_default
returns-in_default c = c.row_with-in_default.ensures ∙ past_all rows (row None 0 false) c.args.ty c.in_default.in_default-own.rest
